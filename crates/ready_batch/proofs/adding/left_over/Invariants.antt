use Rattle.std.proofs.Common.{◌≡◌, map}
use Rattle.ready_batch.specs.Steps.{kept_of}
use Rattle.ready_batch.proofs.adding.left_over.Given as goal

abbrev pub invariant-loop-slot : goal.invariant-loop-slot
invariant-loop-slot g l = l.waiting.items ≡ kept_of g.M.Member.entry (map g.M.Member.entry l.graph) l.yielded
