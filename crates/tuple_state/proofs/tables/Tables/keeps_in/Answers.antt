use Rattle.std.proofs.Common.{List, Some, ap, sym, ◌∙◌}
use Rattle.std.proofs.lemmas.Bool.{eqb-true}
use Rattle.table_model.specs.Visible.{kept_of}
use Rattle.tuple_state.specs.declared.shape.Shape.{Shape}
use Rattle.tuple_state.specs.State.{State, rules_of_state, rules_over}
use Rattle.tuple_state.proofs.tables.Tables.keeps_in.Goals as goal

pub returns-in-Some : goal.returns-in-Some
returns-in-Some c same =
    ap (λ (s : State). kept_of (rules_of_state s) c.args.table) (sym c.self.view_is) ∙ ap (λ (l : List Shape). kept_of (rules_over l) c.args.table) (sym c.as_slice.ensures.value)
    ∙ sym c.in-Some.ensures ∙ ap Some (eqb-true c.in-Some.kept c.args.column same)
