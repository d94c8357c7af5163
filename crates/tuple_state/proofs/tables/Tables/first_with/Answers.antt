use Rattle.std.proofs.Common.{◌≡◌, ℕ, List, true, sym, ap, ◌∙◌, Some}
use Rattle.std.specs.List.{position_from}
use Rattle.std.proofs.lemmas.Bool.{true_from_ne_false}
use Rattle.std.proofs.lemmas.Result.{IfOk-weaker}
use Rattle.table_model.specs.Visible.{kept_of}
use Rattle.tuple_state.specs.declared.inserted.Inserted.{Inserted}
use Rattle.tuple_state.specs.State.{State, keep_any, rules_of_state}
use Rattle.tuple_state.specs.Values.{has_at}
use Rattle.tuple_state.proofs.Grouping.{some_kept}
use Rattle.tuple_state.proofs.tables.Tables.first_with.Goals as goal

pub returns : goal.returns
returns c =
    let inside = c.self.inside in
    IfOk-weaker c.find.result _ _ (λ found is column kept.
    let by = ap (λ (s : State). kept_of (rules_of_state s) c.args.table) c.self.view_is ∙ kept in
    let keeps : keep_any inside.shapes.items ≡ true = true_from_ne_false _ (λ plain. some_kept inside.shapes.items c.args.table column plain by) in
    is inside.shapes.items inside.rows.items column (c.self.invariant.grouped.firsts keeps) by
    ∙ ap (λ (s : State). position_from (has_at c.args.table column c.args.value.now) 0 s.inserted) c.self.view_is) c.find.ensures
