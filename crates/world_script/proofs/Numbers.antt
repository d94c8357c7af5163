-- Numbers that std's `parse` reads.
use Rattle.std.proofs.Common.{◌≡◌, ℕ, ◌^◌, ◌<◌, Bool, true, false, ◌==◌, List, [], ◌∷◌, Some, None, Result, Ok, Err, cond, nat_lt, refl, sym, ap, subst, arith}
use Rattle.std.specs.Prelude.{IsUtf8, IsAscii, bytes_eq, codes}
use Rattle.std.specs.Char.{is_ascii_digit}
use Rattle.std.specs.List.{list_all}
use Rattle.std.specs.Result.{OkIff, result_ok}
use Rattle.std.specs.Str.Parse.{IsNumeral, ParsesUnsigned, without_leading_plus, digits_value}
use Rattle.std.proofs.lemmas.Bool.Decides.{nat_tests}
use Rattle.std.proofs.lemmas.Str.{IsUtf8-from_ascii}
use Rattle.std.proofs.lemmas.Fmt.{IsAscii-from_digits}
use Rattle.text_words.proofs.IntegersLemmas.{and_true, all_digits, digit_small, unsigned_digits, zero_digits}
use Rattle.world_script.specs.Words.{is_number_form, number_of}

are_digits : (word : List ℕ) → is_number_form word ≡ true → list_all is_ascii_digit word ≡ true
are_digits word h = unsigned_digits word (bytes_eq word (codes "0")) (zero_digits word) h

-- no plus stands first
numeral : (word : List ℕ) → is_number_form word ≡ true → (without_leading_plus word ≡ word) × IsNumeral 10 word × IsAscii word
numeral [] h = absurd cc
numeral (byte ∷ ds) h =
    let tests = are_digits (byte ∷ ds) h in
    let digits = all_digits (byte ∷ ds) tests in
    let small = digit_small byte (and_true (is_ascii_digit byte) _ tests).0 in
    let no_plus : (byte == 43) ≡ false = let low = small.1 in grind (arith, nat_tests, low) in
    (rw no_plus refl, (omega arith, digits), IsAscii-from_digits (byte ∷ ds) digits)

pub is_text : (word : List ℕ) → is_number_form word ≡ true → IsUtf8 word
is_text word h = IsUtf8-from_ascii word (numeral word h).2

by_size : (n : ℕ) (small : Bool) → nat_lt n (2 ^ 64) ≡ small → ¬ (n < 2 ^ 64) → cond small (Some n) None ≡ None
by_size n true is large = absurd (large (let i = is in grind (arith, nat_tests, i)))
by_size n false is large = refl

plain : {E : Type 0} (word : List ℕ) (r : Result ℕ E) → is_number_form word ≡ true → OkIff r (IsNumeral 10 word × (digits_value 10 word < 2 ^ 64)) (digits_value 10 word)
    → result_ok r ≡ number_of word
plain word (Ok n) form h =
    let low : digits_value 10 word < 2 ^ 64 = h.0.1 in
    let small : nat_lt (digits_value 10 word) (2 ^ 64) ≡ true = grind (arith, nat_tests, low) in
    rw (form, small) (ap (λ n. Some n) h.1)
plain word (Err e) form h =
    rw form (sym (by_size (digits_value 10 word) (nat_lt (digits_value 10 word) (2 ^ 64)) refl (λ f. h ((numeral word form).1, f))))

-- `parse` reads a number in decimal exactly where it is below 2^64
pub parsed : {E : Type 0} (word : List ℕ) (r : Result ℕ E) → is_number_form word ≡ true → ParsesUnsigned 64 10 word r → result_ok r ≡ number_of word
parsed word r form h = plain word r form (subst (λ (w : List ℕ). OkIff r (IsNumeral 10 w × (digits_value 10 w < 2 ^ 64)) (digits_value 10 w)) (numeral word form).0 h)
