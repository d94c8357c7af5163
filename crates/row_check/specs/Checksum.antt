-- The checksum of payment card numbers.
use Rattle.std.specs.Prelude.{ℕ, ◌+◌, ◌-◌, ◌*◌, ◌%◌, List, [], ◌∷◌, length, reverse, Bool, true, false, not, ◌&&◌, ◌==◌, nat_lt, if◌then◌else◌}
use Rattle.std.specs.Char.{is_ascii_digit}
use Rattle.std.specs.List.{list_all}
use Rattle.update_model.specs.declared.value.Value.{Value}
use Rattle.update_model.specs.declared.value.Value.TheVariants.{Text}

-- what a digit adds to the sum: itself, or twice itself less 9 where that is above 9
abbrev pub weight_of : Bool → ℕ → ℕ
weight_of false digit = digit
weight_of true digit = if nat_lt 9 (2 * digit) then 2 * digit - 9 else 2 * digit

-- the sum of digits in turn, of which every second one is doubled, the first one where this says so
abbrev pub alternating_sum : Bool → List ℕ → ℕ
alternating_sum doubles [] = 0
alternating_sum doubles (byte ∷ bytes) = weight_of doubles (byte - 48) + alternating_sum (not doubles) bytes

-- the sum of digits from the right, of which every second one is doubled
abbrev pub luhn_sum : List ℕ → ℕ
luhn_sum bytes = alternating_sum false (reverse bytes)

-- Luhn's check: the number is 1, and the one argument is a text of at least one digit and nothing else, whose sum is
-- a multiple of 10.
abbrev pub is_luhn : ℕ → List Value → Bool
is_luhn number (Text bytes ∷ []) = number == 1 && nat_lt 0 (length bytes) && list_all is_ascii_digit bytes && luhn_sum bytes % 10 == 0
is_luhn number args = false
