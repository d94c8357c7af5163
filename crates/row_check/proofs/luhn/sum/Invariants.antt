use Rattle.std.proofs.Common.{◌≡◌, ◌+◌, ◌*◌, ◌≤◌, length, reverse}
use Rattle.row_check.specs.Checksum.{alternating_sum, luhn_sum}
use Rattle.row_check.proofs.luhn.sum.Given as goal

-- what is left adds up to the whole sum, and each digit to at most 414
abbrev pub invariant-loop-last : goal.invariant-loop-last
invariant-loop-last l = (l.sum + alternating_sum l.doubles (reverse l.rest) ≡ luhn_sum l.fn.digits) × (l.sum + 414 * length l.rest ≤ 414 * 1024)

abbrev pub decreases-loop-last : goal.decreases-loop-last
decreases-loop-last l = length l.rest
