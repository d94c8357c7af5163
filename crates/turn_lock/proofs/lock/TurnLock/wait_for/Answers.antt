use Rattle.std.proofs.Common.{rules}
use Rattle.turn_lock.proofs.Keeps.{looks}
use Rattle.turn_lock.proofs.lock.TurnLock.wait_for.Goals as goal

pub load-served-requires : goal.load-served-requires
load-served-requires g c = (search rules, search rules, looks _ _ _ _ _ (search rules))
