use Rattle.std.proofs.Common.{◌≡◌, ◌-◌}
use Rattle.log_texts.specs.Digits.{digits_within}
use Rattle.log_texts.proofs.digits.digits_of.Given as goal

-- the numbers from here on
abbrev pub invariant-loop-digits : goal.invariant-loop-digits
invariant-loop-digits l = digits_within 56 l.ids ≡ digits_within (64 - l.digits) l.ids
