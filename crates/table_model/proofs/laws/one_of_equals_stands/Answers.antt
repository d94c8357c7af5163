use Rattle.schema.proofs.Soundness.{sound_tables}
use Rattle.table_model.specs.Verdicts.{effects_in}
use Rattle.table_model.proofs.Founded.{founded_closed}
use Rattle.table_model.proofs.Resting.{ones_from, resting}
use Rattle.table_model.proofs.Steady.{one_stands}
use Rattle.table_model.proofs.laws.one_of_equals_stands.Goals as goal

pub returns : goal.returns
returns c rules nodes table column value tables closed is some =
    let did = effects_in rules nodes in
    let f = (founded_closed rules nodes closed).founded in
    one_stands rules did (ones_from rules did.inserted f) (resting rules (sound_tables rules.tables tables) did.inserted f) table column value is some
