use Rattle.std.proofs.Common.{◌≡◌, ◌++◌, length}
use Rattle.explanations.specs.Shown.{shortened, shortened_behind}
use Rattle.explanations.proofs.shown_lines.push_short.Given as goal

-- what stands there so far, the digits that were begun, and the rest of the bytes are all of it
abbrev pub invariant-loop-rest : goal.invariant-loop-rest
invariant-loop-rest l = l.out.items ++ shortened_behind l.digits.items l.rest ≡ l.fn.out.items ++ shortened l.bytes

abbrev pub decreases-loop-rest : goal.decreases-loop-rest
decreases-loop-rest l = length l.rest
