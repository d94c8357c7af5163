use Rattle.std.proofs.Common.{rules}
use Rattle.turn_lock.proofs.Keeps.{starts_from}
use Rattle.turn_lock.proofs.lock.TurnLock.new.Goals as goal

pub new-requires : goal.new-requires
new-requires g c = starts_from _ _ _ _ _ _ (search rules) (search rules) c.count-count.ensures c.requires
