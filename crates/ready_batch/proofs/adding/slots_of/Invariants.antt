use Rattle.std.proofs.Common.{◌≡◌, map, Some}
use Rattle.ready_batch.proofs.adding.slots_of.Given as goal

abbrev pub invariant-loop-member : goal.invariant-loop-member
invariant-loop-member g l = l.slots.items ≡ map Some l.yielded
