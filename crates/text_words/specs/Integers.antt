-- Integers in decimal. `-` is the byte 45, and `0` is 48.
use Rattle.std.specs.Prelude.{ℕ, ◌^◌, Bool, false, not, ◌&&◌, ◌||◌, ◌==◌, nat_lt, List, [], ◌∷◌, ℤ, pos, negsuc, Option, Some, None, if◌then◌else◌, bytes_eq, codes}
use Rattle.std.specs.Char.{is_ascii_digit}
use Rattle.std.specs.List.{list_all}
use Rattle.std.specs.Str.Parse.{signed_digits_value}

-- digits of which the first is not 0
abbrev pub is_positive_numeral : List ℕ → Bool
is_positive_numeral [] = false
is_positive_numeral (first ∷ digits) = not (first == 48) && list_all is_ascii_digit (first ∷ digits)

-- an integer in decimal: `0`, or an optional `-` and digits of which the first is not 0
abbrev pub is_integer_form : List ℕ → Bool
is_integer_form [] = false
is_integer_form (byte ∷ digits) =
    if byte == 45 then is_positive_numeral digits
    else bytes_eq (byte ∷ digits) (codes "0") || is_positive_numeral (byte ∷ digits)

-- from -2^63 to 2^63 - 1; negsuc n is -(n + 1)
abbrev pub is_within_64_bits : ℤ → Bool
is_within_64_bits (pos n) = nat_lt n (2 ^ 63)
is_within_64_bits (negsuc n) = nat_lt n (2 ^ 63)

-- the integer that a word writes
abbrev pub int_of : List ℕ → Option ℤ
int_of word =
    let value = signed_digits_value 10 word in
    if is_integer_form word && is_within_64_bits value then Some value else None
