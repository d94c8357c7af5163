use Rattle.std.proofs.Common.{Option, ap, sym, ◌∙◌}
use Rattle.update_model.specs.declared.row_name.RowName.{RowName}
use Rattle.tuple_state.specs.Parents.{is_row}
use Rattle.tuple_state.proofs.Dropping.{names_equal}
use Rattle.tuple_state.proofs.Growth.{same_row-symm}
use Rattle.tuple_state.proofs.restricts.restricts_column.Goals as goal

pub returns-in-Some : goal.returns-in-Some
returns-in-Some c =
    c.eq.ensures ∙ sym (names_equal c.in-Some.held c.args.name.now) ∙ same_row-symm c.args.name.now c.in-Some.held
    ∙ ap (λ (o : Option RowName). is_row c.args.name.now o) c.in-Some.ensures
