use Rattle.std.proofs.Common.{◌≡◌, length}
use Rattle.explanations.specs.Matching.{after_id}
use Rattle.explanations.proofs.matching.after_id.Given as goal

abbrev pub invariant-loop-rest : goal.invariant-loop-rest
invariant-loop-rest l = after_id l.rest ≡ after_id l.said

abbrev pub decreases-loop-rest : goal.decreases-loop-rest
decreases-loop-rest l = length l.rest
