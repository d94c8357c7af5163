use Rattle.schema.proofs.Soundness.{sound_tables}
use Rattle.table_model.specs.Verdicts.{effects_in}
use Rattle.table_model.proofs.Founded.{founded_closed}
use Rattle.table_model.proofs.Resting.{ones_from, resting}
use Rattle.table_model.proofs.Counted.{counted_visible}
use Rattle.table_model.proofs.laws.counted_rows_are_visible.Goals as goal

pub returns : goal.returns
returns c rules nodes count name tables closed counted =
    let did = effects_in rules nodes in
    let f = (founded_closed rules nodes closed).founded in
    counted_visible rules did (ones_from rules did.inserted f) (resting rules (sound_tables rules.tables tables) did.inserted f) count counted name
