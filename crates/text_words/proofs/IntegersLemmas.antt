-- Integers that std's `parse` reads.
use Rattle.std.proofs.Common.{◌≡◌, ℕ, zero, suc, ◌^◌, ◌≤◌, ◌<◌, Bool, true, false, not, ◌&&◌, ◌||◌, ◌==◌, List, [], ◌∷◌, length, Some, None, Result, Ok, Err, cond, refl, sym, ap, arith, ℤ, pos, negsuc}
use Rattle.std.specs.Prelude.{IsUtf8, IsAscii, FitsSigned, bytes_eq, codes}
use Rattle.std.specs.Char.{is_ascii_digit, digit_value}
use Rattle.std.specs.Int.{w64}
use Rattle.std.specs.List.{list_all}
use Rattle.std.specs.Result.{result_ok}
use Rattle.std.specs.Str.Parse.{AllDigits, IsNumeral, ParsesSigned, without_leading_sign, signed_digits_value}
use Rattle.std.proofs.lemmas.Bool.Decides.{nat_tests}
use Rattle.std.proofs.lemmas.Str.{IsUtf8-from_ascii}
use Rattle.std.proofs.lemmas.Slice.Eq.{bytes_eq-Decides}
use Rattle.std.proofs.lemmas.Fmt.{IsAscii-from_digits}
use Rattle.text_words.specs.Integers.{is_positive_numeral, is_integer_form, is_within_64_bits, int_of}

pub and_true : (a b : Bool) → (a && b) ≡ true → (a ≡ true) × (b ≡ true)
and_true true b h = (refl, h)
and_true false b h = absurd cc

pub digit_small : (c : ℕ) → is_ascii_digit c ≡ true → (digit_value c < 10) × (48 ≤ c) × (c ≤ 57)
digit_small c h =
    let low : 48 ≤ c = grind (arith, nat_tests, h) in
    let high : c ≤ 57 = grind (arith, nat_tests, h) in
    (grind (arith, nat_tests, low, high), low, high)

pub all_digits : (ds : List ℕ) → list_all is_ascii_digit ds ≡ true → AllDigits 10 ds
all_digits [] h = tt
all_digits (c ∷ cs) h = let both = and_true (is_ascii_digit c) _ h in ((digit_small c both.0).0, all_digits cs both.1)

pub positive_digits : (ds : List ℕ) → is_positive_numeral ds ≡ true → list_all is_ascii_digit ds ≡ true
positive_digits [] h = absurd cc
positive_digits (first ∷ ds) h = (and_true (not (first == 48)) _ h).1

pub positive_some : (ds : List ℕ) → is_positive_numeral ds ≡ true → 0 < length ds
positive_some [] h = absurd cc
positive_some (first ∷ ds) h = omega arith

pub zero_digits : (word : List ℕ) → bytes_eq word (codes "0") ≡ true → list_all is_ascii_digit word ≡ true
zero_digits word h =
    let same : word ≡ 48 ∷ [] = (bytes_eq-Decides word (codes "0")).0 h in
    rw same refl

pub unsigned_digits : (word : List ℕ) (nought : Bool) → (nought ≡ true → list_all is_ascii_digit word ≡ true) → (nought || is_positive_numeral word) ≡ true → list_all is_ascii_digit word ≡ true
unsigned_digits word true at_zero h = at_zero refl
unsigned_digits word false at_zero h = positive_digits word h

ascii_more : (byte : ℕ) (ds : List ℕ) → byte < 128 → IsAscii ds → IsAscii (byte ∷ ds)
ascii_more byte ds low ascii zero = low
ascii_more byte ds low ascii (suc i) = ascii i

-- what an integer in decimal consists of, by whether a `-` stands first
by_sign : (byte : ℕ) (ds : List ℕ) (minus : Bool) → (byte == 45) ≡ minus
    → cond minus (is_positive_numeral ds) (bytes_eq (byte ∷ ds) (codes "0") || is_positive_numeral (byte ∷ ds)) ≡ true
    → IsNumeral 10 (without_leading_sign (byte ∷ ds)) × IsAscii (byte ∷ ds)
by_sign byte ds true is h =
    let digits = all_digits ds (positive_digits ds h) in
    let some = positive_some ds h in
    let ascii = IsAscii-from_digits ds digits in
    (rw is (some, digits), ascii_more byte ds (grind (arith, nat_tests, is)) ascii)
by_sign byte ds false is h =
    let tests = unsigned_digits (byte ∷ ds) (bytes_eq (byte ∷ ds) (codes "0")) (zero_digits (byte ∷ ds)) h in
    let digits = all_digits (byte ∷ ds) tests in
    let small = digit_small byte (and_true (is_ascii_digit byte) _ tests).0 in
    let no_plus : (byte == 43) ≡ false = let low = small.1 in grind (arith, nat_tests, low) in
    (rw (is, no_plus) (omega arith, digits), IsAscii-from_digits (byte ∷ ds) digits)

is_decimal : (word : List ℕ) → is_integer_form word ≡ true → IsNumeral 10 (without_leading_sign word) × IsAscii word
is_decimal [] h = absurd cc
is_decimal (byte ∷ ds) h = by_sign byte ds (byte == 45) refl h

pub is_text : (word : List ℕ) → is_integer_form word ≡ true → IsUtf8 word
is_text word h = IsUtf8-from_ascii word (is_decimal word h).1

pub fits : (z : ℤ) → is_within_64_bits z ≡ true → FitsSigned w64 z
fits (pos n) h = record { sfits = grind (arith, nat_tests, h) }
fits (negsuc n) h = record { sfits = grind (arith, nat_tests, h) }

pub within : (z : ℤ) → FitsSigned w64 z → is_within_64_bits z ≡ true
within (pos n) f = let low : n < 2 ^ 63 = f.sfits in grind (arith, nat_tests, low)
within (negsuc n) f = let low : n < 2 ^ 63 = f.sfits in grind (arith, nat_tests, low)

by_size : (value : ℤ) (small : Bool) → is_within_64_bits value ≡ small → ¬ FitsSigned w64 value → cond small (Some value) None ≡ None
by_size value true is large = absurd (large (fits value is))
by_size value false is large = refl

-- `parse` reads an integer in decimal exactly where it is within 64 bits
pub parsed : {E : Type 0} (word : List ℕ) (r : Result ℤ E) → is_integer_form word ≡ true → ParsesSigned w64 10 word r → result_ok r ≡ int_of word
parsed word (Ok n) form h =
    let small = within (signed_digits_value 10 word) h.0.1 in
    rw (form, small) (ap (λ n. Some n) h.1)
parsed word (Err e) form h =
    rw form (sym (by_size (signed_digits_value 10 word) (is_within_64_bits (signed_digits_value 10 word)) refl (λ f. h ((is_decimal word form).0, f))))
