use Rattle.schema.proofs.Soundness.{sound_tables}
use Rattle.table_model.specs.Verdicts.{effects_in}
use Rattle.table_model.proofs.Founded.{founded_closed}
use Rattle.table_model.proofs.Resting.{ones_from, resting}
use Rattle.table_model.proofs.Settled.{visible_only}
use Rattle.table_model.proofs.laws.visible_rows_are_determined.Goals as goal

pub returns : goal.returns
returns c rules nodes seen name tables closed is =
    let did = effects_in rules nodes in
    let f = (founded_closed rules nodes closed).founded in
    visible_only rules did (ones_from rules did.inserted f) (resting rules (sound_tables rules.tables tables) did.inserted f) seen is name
