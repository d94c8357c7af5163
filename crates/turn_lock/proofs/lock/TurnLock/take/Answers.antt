use Rattle.std.proofs.Common.{rules, ap}
use Rattle.turn_lock.proofs.Keeps.{takes_slot, in_hand_now}
use Rattle.turn_lock.proofs.lock.TurnLock.take.Goals as goal

pub load-requires : goal.load-requires
load-requires g c = (search rules, search rules, takes_slot _ _ _ _ _ (ap (λ m. m.0.stage) c.wait_for.ensures.turn.0))

pub exchange-requires : goal.exchange-requires
exchange-requires g c = (search rules, in_hand_now g.T.Kept.list g.T.Kept.maker c.wait_for.new.chair.me c.load.new.seat.me _ _ c.load.ensures.2.1)
