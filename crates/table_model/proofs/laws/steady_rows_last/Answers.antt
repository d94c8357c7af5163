use Rattle.std.proofs.Common.{arith, suc}
use Rattle.schema.proofs.Soundness.{sound_tables}
use Rattle.table_model.specs.Verdicts.{effects_in}
use Rattle.table_model.proofs.Founded.{founded_closed}
use Rattle.table_model.proofs.Resting.{ones_from, resting}
use Rattle.table_model.proofs.KeptTables.{steady_deep}
use Rattle.table_model.proofs.Steady.{steady_row}
use Rattle.table_model.proofs.laws.steady_rows_last.Goals as goal

pub returns : goal.returns
returns c rules nodes earlier row tables closed before less there steady seen =
    let now = effects_in rules nodes in
    let then = effects_in rules earlier in
    let f = (founded_closed rules nodes closed).founded in
    let g = (founded_closed rules earlier before).founded in
    let sound = sound_tables rules.tables tables in
    steady_row rules now then (record { more = less.inserted }) (record { more = less.deleted }) (ones_from rules now.inserted f) (resting rules sound now.inserted f)
    (ones_from rules then.inserted g) (resting rules sound then.inserted g) g row there (suc row.table) (steady_deep rules sound (suc row.table) row.table (omega arith) steady) seen
