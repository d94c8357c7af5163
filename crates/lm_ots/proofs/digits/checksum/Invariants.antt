use Rattle.std.proofs.Common.{◌≡◌, ◌-◌}
use Rattle.lm_ots.specs.OtsKind.{greatest_digit, width}
use Rattle.lm_ots.specs.Digits.{coef}
use Rattle.lm_ots.specs.Joined.{sum_below}
use Rattle.lm_ots.proofs.digits.checksum.Given as goal

abbrev pub invariant-loop-i : goal.invariant-loop-i
invariant-loop-i l = l.sum ≡ sum_below (λ i. greatest_digit l.kind - coef l.digest i (width l.kind)) l.i
