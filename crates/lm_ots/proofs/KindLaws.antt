-- Facts about the parameters of each type: none of its sums passes 16 bits.
use Rattle.std.proofs.Common.{◌≡◌, ◌<◌, ◌≤◌, ℕ, ◌+◌, ◌-◌, ◌*◌, ◌/◌, ◌%◌, ◌^◌, List, arith}
use Rattle.lm_ots.specs.declared.ots_type.OtsType.{OtsType}
use Rattle.lm_ots.specs.declared.ots_type.OtsType.TheVariants.{W1, W2, W4, W8}
use Rattle.lm_ots.specs.OtsKind.{type_word, width, checksum_shift, greatest_digit}
use Rattle.lm_ots.specs.Digits.{coef}

pub type_word-fits : (kind : OtsType) → type_word kind < 2 ^ 32
type_word-fits W1 = omega arith
type_word-fits W2 = omega arith
type_word-fits W4 = omega arith
type_word-fits W8 = omega arith

pub coef-le : (kind : OtsType) (bytes : List ℕ) (i : ℕ) → coef bytes i (width kind) ≤ greatest_digit kind
coef-le W1 bytes i = omega arith
coef-le W2 bytes i = omega arith
coef-le W4 bytes i = omega arith
coef-le W8 bytes i = omega arith

-- one more digit in the checksum's sum
pub sum_fits : (kind : OtsType) (i sum digit : ℕ) → i < 256 / width kind → sum ≤ i * greatest_digit kind → sum + (greatest_digit kind - digit) < 2 ^ 16
sum_fits W1 i sum digit p q = omega arith
sum_fits W2 i sum digit p q = omega arith
sum_fits W4 i sum digit p q = omega arith
sum_fits W8 i sum digit p q = omega arith

-- the whole sum, shifted
pub shifted_fits : (kind : OtsType) (sum : ℕ) → sum ≤ 256 / width kind * greatest_digit kind → sum * 2 ^ checksum_shift kind % 65536 ≡ sum * 2 ^ checksum_shift kind
shifted_fits W1 sum q = omega arith
shifted_fits W2 sum q = omega arith
shifted_fits W4 sum q = omega arith
shifted_fits W8 sum q = omega arith
