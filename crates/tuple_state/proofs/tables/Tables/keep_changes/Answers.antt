use Rattle.std.proofs.Common.{length, ap, sym, subst, ◌∙◌, arith}
use Rattle.tuple_state.specs.Changes.{AreNextChanges}
use Rattle.tuple_state.specs.State.{State}
use Rattle.tuple_state.proofs.Fronts.{few_rows}
use Rattle.tuple_state.proofs.Keeping.{news_few}
use Rattle.tuple_state.proofs.tables.Tables.keep_changes.Goals as goal

pub parents_of-requires-clause-few : goal.parents_of-requires-clause-few
parents_of-requires-clause-few c =
    let inside = c.self.inside in
    let changes = subst (λ (s : State). AreNextChanges s c.args.inserted.now.items c.args.dropped.now.items) (sym c.self.view_is) c.requires.next in
    let few = few_rows inside.rows.items inside.count c.self.invariant.dated c.self.invariant.bounded in
    let more = news_few c.self.invariant changes.next changes.small in
    let slice = ap length (c.as_slice.ensures.value ∙ changes.rows) in
    omega (arith, c.len-first.ensures, few, c.self.invariant.few, more, slice)
