use Rattle.std.proofs.Common.{◌≡◌, length}
use Rattle.explanations.specs.Matching.{number_from}
use Rattle.explanations.proofs.numbers.number_of.Given as goal

-- the number so far, and the digits that are left
abbrev pub invariant-loop-rest : goal.invariant-loop-rest
invariant-loop-rest l = number_from l.number l.rest ≡ number_from 0 l.text

abbrev pub decreases-loop-rest : goal.decreases-loop-rest
decreases-loop-rest l = length l.rest
