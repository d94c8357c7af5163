use Rattle.std.proofs.Common.{◌≡◌, length}
use Rattle.explanations.specs.Matching.{numbers_from, numbers_of}
use Rattle.explanations.proofs.matching.matched.Given as goal

-- what is left of the key and of the line gives the numbers
abbrev pub invariant-loop-signs : goal.invariant-loop-signs
invariant-loop-signs l = numbers_from l.marks l.signs l.left ≡ numbers_of l.fn.key l.fn.said

abbrev pub decreases-loop-signs : goal.decreases-loop-signs
decreases-loop-signs l = length l.signs
