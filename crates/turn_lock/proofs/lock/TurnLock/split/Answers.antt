use Rattle.std.proofs.Common.{rules}
use Rattle.turn_lock.proofs.Keeps.{splits}
use Rattle.turn_lock.proofs.lock.TurnLock.split.Goals as goal

pub split_seat-other-requires : goal.split_seat-other-requires
split_seat-other-requires g c = (search rules, search rules, splits _ _ _ _)
