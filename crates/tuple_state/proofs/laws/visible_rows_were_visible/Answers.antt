use Rattle.std.proofs.Common.{suc, arith}
use Rattle.schema.proofs.Soundness.{sound_tables}
use Rattle.table_model.specs.Verdicts.{ancestor_of, effects_in, judged}
use Rattle.table_model.proofs.Founded.{Sub-inserted, founded_closed}
use Rattle.table_model.proofs.KeptTables.{steady_deep}
use Rattle.table_model.proofs.Resting.{ones_from, resting}
use Rattle.table_model.proofs.Steady.{steady_row}
use Rattle.tuple_state.specs.Past.{effects_before}
use Rattle.tuple_state.proofs.Lasting.{gone_part}
use Rattle.tuple_state.proofs.Pasts.{founded_past}
use Rattle.tuple_state.proofs.laws.visible_rows_were_visible.Goals as goal

pub returns : goal.returns
returns c rules nodes node tables closed row there steady seen =
    let js = judged rules nodes in
    let now = effects_in rules nodes in
    let then = effects_before rules nodes node in
    let f = (founded_closed rules nodes closed).founded in
    let g = founded_past rules nodes node closed in
    let sound = sound_tables rules.tables tables in
    steady_row rules now then (Sub-inserted (λ j. ancestor_of js node j.node.id) js) (record { more = λ p. gone_part p (ancestor_of js node) js }) (ones_from rules now.inserted f) (resting rules sound now.inserted f)
    (ones_from rules then.inserted g) (resting rules sound then.inserted g) g row there (suc row.table) (steady_deep rules sound (suc row.table) row.table (omega arith) steady) seen
