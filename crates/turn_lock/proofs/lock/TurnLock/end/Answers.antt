use Rattle.std.proofs.Common.{◌≡◌, refl, sym, ap, ◌∙◌, subst}
use mathlib.Core.List.{IsPrefix}
use Rattle.std.specs.Option.{IsSome}
use Rattle.turn_lock.proofs.Keeps.{ended}
use Rattle.turn_lock.proofs.lock.TurnLock.end.Goals as goal

pub unwrap-requires : goal.unwrap-requires
unwrap-requires g c =
    let last = ended _ _ _ _ _ _ _ (ap (λ m. m.0.stage) c.wait_for.ensures.turn.0) c.close_with-closed.ensures.values.2 c.take-value.ensures.value in
    subst IsSome (sym last.1) refl

pub returns : goal.returns
returns g c =
    let last = ended _ _ _ _ _ _ _ (ap (λ m. m.0.stage) c.wait_for.ensures.turn.0) c.close_with-closed.ensures.values.2 c.take-value.ensures.value in
    let seen = ap (λ m. m.0.seen) c.wait_for.ensures.turn.0 ∙ ap (λ m. m.0.seen) c.draw-ticket.ensures.ticket.0 ∙ ap (λ k. k.seen) c.seat.view_is in
    let same : last.0 ≡ c.unwrap.result = cc (sym last.1 ∙ c.unwrap.ensures) in
    subst (λ xs. IsPrefix xs (g.T.Kept.list c.unwrap.result)) seen (subst (λ (x : g.row.T.Denot). IsPrefix c.wait_for.new.chair.me.0.seen (g.T.Kept.list x)) same last.2)
