use Rattle.std.proofs.Common.{rules, ap, ◌∙◌}
use Rattle.turn_lock.proofs.Keeps.{joins, compares}
use Rattle.turn_lock.proofs.lock.TurnLock.meet.Goals as goal

pub join_seat-requires : goal.join_seat-requires
join_seat-requires g c = (search rules, search rules, search rules, search rules, joins _ _ _ _ _ _ c.a.invariant.stage_is c.b.invariant.stage_is)

pub load-requires : goal.load-requires
load-requires g c = (search rules, search rules, compares _ _ _ _ _ (ap (λ m. m.0.stage) c.join_seat.ensures.2 ∙ c.a.invariant.stage_is))
