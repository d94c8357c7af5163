use Rattle.std.proofs.Common.{◌<◌, ◌≡◌, ℕ, Bool, Some, length, ap, arith, sym, ◌∙◌}
use Rattle.std.specs.Prelude.{slice_get}
use Rattle.table_model.specs.Visible.{is_deleted}
use Rattle.tuple_state.specs.declared.inserted.Inserted.{Inserted}
use Rattle.tuple_state.specs.Past.{done_then}
use Rattle.tuple_state.specs.State.{State}
use Rattle.tuple_state.proofs.Deleting.{any_deleter}
use Rattle.tuple_state.proofs.Dropping.{deleted_then}
use Rattle.tuple_state.proofs.Marks.{found_layered}
use Rattle.tuple_state.proofs.Restricting.{if_ok}
use Rattle.tuple_state.proofs.tables.Tables.is_deleted_at.Goals as goal

pub any_ancestor-requires : goal.any_ancestor-requires
any_ancestor-requires g c =
    let e = ap (λ (s : State). length s.inserted) c.self.view_is in let below : c.args.place < length c.args.self.now.inserted = c.requires in omega (arith, below, e, c.self.invariant.rooms)

pub returns : goal.returns
returns g c =
    let inside = c.self.inside in
    let state : State = record { shapes = inside.shapes.items; count = inside.count; inserted = inside.rows.items; dropped = inside.dropped.items; voids = inside.voids.items } in
    let past : ℕ → Bool = λ p. g.A.Ancestors.ancestor c.args.ancestors.now p c.args.position in
    if_ok _ (λ (answer : Bool). (it : Inserted) → slice_get c.args.self.now.inserted c.args.place ≡ Some it → answer ≡ is_deleted (done_then c.args.self.now past) it.name) c.any_ancestor.result
    (λ answer is it at.
    let here = ap (λ (s : State). slice_get s.inserted c.args.place) c.self.view_is ∙ at in
    is ∙ any_deleter inside.rows.items past c.args.place it.name (found_layered _ inside.rows.items c.self.invariant.layered c.args.place it here) inside.deleters.links inside.dropped.items c.self.invariant.deleted
    ∙ sym (deleted_then state past it.name) ∙ ap (λ (s : State). is_deleted (done_then s past) it.name) c.self.view_is)
    c.any_ancestor.ensures
