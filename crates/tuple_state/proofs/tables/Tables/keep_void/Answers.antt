use Rattle.std.proofs.Common.{◌<◌, ◌+◌, ◌++◌, ◌∷◌, List, [], ap, subst, sym, arith}
use Rattle.update_model.specs.declared.limits.TheConstants.{MAX_MEMBERS}
use Rattle.tuple_state.specs.declared.voided.Voided.{Voided}
use Rattle.tuple_state.specs.State.{IsHeld, State, voided_at}
use Rattle.tuple_state.proofs.Shortening.{kept_void}
use Rattle.tuple_state.proofs.tables.Tables.keep_void.Goals as goal

pub invariant_of-self-2 : goal.invariant_of-self-2
invariant_of-self-2 c =
    let inside = c.self.inside in
    let state : State = record { shapes = inside.shapes.items; count = inside.count; inserted = inside.rows.items; dropped = inside.dropped.items; voids = inside.voids.items } in
    let count = ap (λ (s : State). s.count) c.self.view_is in
    let few : c.args.self.now.count < MAX_MEMBERS = c.requires.few in
    let held : IsHeld (record state { count = state.count + 1; voids = state.voids ++ voided_at state.count c.args.line ∷ [] }) =
    subst (λ (s : State). IsHeld (record s { count = s.count + 1; voids = s.voids ++ voided_at s.count c.args.line ∷ [] })) (sym c.self.view_is) c.requires.held in
    kept_void state inside.places inside.causes.items inside.children inside.deleters inside.ends.items inside.groups _ c.self.invariant (omega (arith, few, count))
    (subst (λ (v : List Voided). IsHeld (record state { count = state.count + 1; voids = v })) (sym c.in_ok-push.ensures.items) held)
