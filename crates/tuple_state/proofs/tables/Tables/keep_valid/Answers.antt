use Rattle.std.proofs.Common.{◌≡◌, ℕ, ap, map, reverse, subst, sym, ◌∙◌}
use Rattle.update_model.specs.Node.{IsNode, NodeData}
use Rattle.table_model.specs.Verdicts.{effects_of}
use Rattle.table_model.specs.declared.verdict.Verdict.TheVariants as verdict
use Rattle.tuple_state.specs.Changes.{AreNextChanges}
use Rattle.tuple_state.specs.Past.{IsNextVerdict}
use Rattle.tuple_state.specs.State.{State, dropped_at, inserted_at}
use Rattle.tuple_state.proofs.tables.Tables.keep_valid.Goals as goal

pub keep_changes-requires : goal.keep_changes-requires
keep_changes-requires c =
    let inside = c.self.inside in
    let state : State = record { shapes = inside.shapes.items; count = inside.count; inserted = inside.rows.items; dropped = inside.dropped.items; voids = inside.voids.items } in
    let changes : AreNextChanges state c.in_ok-inserted.inserted.items c.in_ok-dropped.dropped.items = record {
      node = c.args.node;
      next = subst (λ (s : State). IsNextVerdict s c.args.node verdict.Valid) (sym c.self.view_is) c.requires.next;
      small = subst (λ (n : NodeData). IsNode n) c.node.view_is c.node.invariant;
      rows = c.in_ok-inserted.ensures;
      names = c.in_ok-dropped.ensures;
    } in
    record { next = subst (λ (s : State). AreNextChanges s c.in_ok-inserted.inserted.items c.in_ok-dropped.dropped.items) c.self.view_is changes }

pub returns : goal.returns
returns c =
    let count : c.self.inside.count ≡ c.args.self.now.count = ap (λ (s : State). s.count) c.self.view_is in
    let rows : c.in_ok-inserted.inserted.items ≡ map (inserted_at c.args.self.now.count) (reverse (effects_of c.args.node).inserted) =
    c.in_ok-inserted.ensures ∙ ap (λ (n : ℕ). map (inserted_at n) (reverse (effects_of c.args.node).inserted)) count in
    let names : c.in_ok-dropped.dropped.items ≡ map (dropped_at c.args.self.now.count) (reverse (effects_of c.args.node).deleted) =
    c.in_ok-dropped.ensures ∙ ap (λ (n : ℕ). map (dropped_at n) (reverse (effects_of c.args.node).deleted)) count in
    rw (rows, names) at c.keep_changes.ensures
