use Rattle.std.proofs.Common.{length}
use Rattle.world_script.proofs.Fronts.{Passed}
use Rattle.world_script.proofs.parts.parts_of.Given as goal

-- so many lines are passed
abbrev pub invariant-loop-after : goal.invariant-loop-after
invariant-loop-after l = Passed l.text l.rest l.number

abbrev pub decreases-loop-after : goal.decreases-loop-after
decreases-loop-after l = length l.rest
