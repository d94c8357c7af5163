use Rattle.tuple_state.specs.declared.shape.Shape.{Shape}
use Rattle.std.proofs.Common.{◌≤◌, List, length, ap, sym, ◌∙◌, subst}
use Rattle.tuple_state.specs.Parents.{columns_at}
use Rattle.tuple_state.specs.State.{State}
use Rattle.tuple_state.proofs.Dropping.{columns_found}
use Rattle.tuple_state.proofs.Marking.{columns_past}
use Rattle.tuple_state.proofs.tables.Tables.columns.Goals as goal

pub returns-in-Some : goal.returns-in-Some
returns-in-Some c =
    c.as_slice.ensures
    ∙ sym (columns_found c.self.inside.shapes.items c.deref.result.now c.from.result c.args.table c.in-Some.shape.now c.deref.ensures.value c.from.ensures c.in-Some.ensures.lookup.3.0 c.in-Some.ensures.lookup.1)
    ∙ ap (λ (s : State). columns_at s.shapes c.args.table) c.self.view_is

pub returns-in-None : goal.returns-in-None
returns-in-None c =
    let past = subst (λ (l : List Shape). length l ≤ c.from.result) c.deref.ensures.value c.in-None.ensures.lookup.3 in
    sym (columns_past c.self.inside.shapes.items c.args.table (subst (λ n. length c.self.inside.shapes.items ≤ n) c.from.ensures past))
    ∙ ap (λ (s : State). columns_at s.shapes c.args.table) c.self.view_is
