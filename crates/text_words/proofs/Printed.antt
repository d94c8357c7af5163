-- An integer is read where it stands as it is printed.
use Rattle.std.proofs.Common.{◌≡◌, ◌≢◌, ℕ, zero, suc, ◌^◌, ◌<◌, Bool, true, false, not, ◌&&◌, ◌||◌, ◌==◌, List, [], ◌∷◌, length, get_or, Option, Some, None, cond, refl, sym, ap, subst, ◌∙◌, arith, ℤ, pos, negsuc, neg_ℤ}
use Rattle.std.specs.Prelude.{FitsSigned, bytes_eq, codes, decimal}
use Rattle.std.specs.Char.{is_ascii_digit}
use Rattle.std.specs.Fmt.{signed_decimal}
use Rattle.std.specs.Int.{w64}
use Rattle.std.specs.List.{list_all}
use Rattle.std.specs.Str.Parse.{AllDigits, digits_value, signed_digits_value}
use Rattle.std.proofs.lemmas.Bool.Decides.{nat_tests}
use Rattle.std.proofs.lemmas.Fmt.{decimal-digits_value, decimal_digit, digits_decimal, digits_value-decimal, decimal_nonempty, first_decimal}
use Rattle.std.proofs.lemmas.Slice.Eq.{bytes_eq-Decides}
use Rattle.std.proofs.lemmas.Str.Parse.{IsNumeralModel, numerals_by_value, tells_digits}
use Rattle.text_words.specs.Integers.{is_positive_numeral, is_integer_form, is_within_64_bits, int_of}
use Rattle.text_words.proofs.IntegersLemmas.{and_true, digit_small, all_digits, positive_digits, positive_some, unsigned_digits, zero_digits, fits, within}

-- digits and their value, as std's lemmas want them
pub own : IsNumeralModel (AllDigits 10) (digits_value 10)
own = numerals_by_value (AllDigits 10) tells_digits

small_negated : (d : ℕ) → is_within_64_bits (neg_ℤ (pos d)) ≡ true → d < 2 ^ 64
small_negated zero h = omega arith
small_negated (suc d) h = grind (arith, nat_tests, h)

negated : (d : ℕ) → 0 < d → signed_decimal (neg_ℤ (pos d)) ≡ 45 ∷ decimal d
negated zero some = absurd (omega arith)
negated (suc d) some = refl

no_leading_zero : (ds : List ℕ) → is_positive_numeral ds ≡ true → get_or ds 0 0 ≢ 48
no_leading_zero [] h same = absurd cc
no_leading_zero (first ∷ ds) h same = let p = (and_true (not (first == 48)) _ h).0 in grind (arith, nat_tests, p, same)

printed_positive : (ds : List ℕ) → is_positive_numeral ds ≡ true → digits_value 10 ds < 2 ^ 64 → decimal (digits_value 10 ds) ≡ ds
printed_positive ds h small = decimal-digits_value own ds (all_digits ds (positive_digits ds h)) (positive_some ds h) (λ same. absurd (no_leading_zero ds h same)) small

above_zero : (ds : List ℕ) (d : ℕ) → digits_value 10 ds ≡ d → is_positive_numeral ds ≡ true → digits_value 10 ds < 2 ^ 64 → 0 < d
above_zero ds zero is h small =
    let nought : decimal 0 ≡ ds = ap decimal (sym is) ∙ printed_positive ds h small in
    absurd (no_leading_zero ds h (ap (λ xs. get_or xs 0 0) (sym nought ∙ decimal_digit 0 (omega arith))))
above_zero ds (suc d) is h small = omega arith

printed_unsigned : (word : List ℕ) (nought : Bool) → bytes_eq word (codes "0") ≡ nought → (nought || is_positive_numeral word) ≡ true → digits_value 10 word < 2 ^ 64 → decimal (digits_value 10 word) ≡ word
printed_unsigned word true is h small =
    let same : word ≡ codes "0" = (bytes_eq-Decides word (codes "0")).0 is in
    subst (λ w. decimal (digits_value 10 w) ≡ w) (sym same) (decimal_digit 0 (omega arith))
printed_unsigned word false is h small = printed_positive word h small

by_sign : (byte : ℕ) (ds : List ℕ) (minus : Bool) → (byte == 45) ≡ minus
    → cond minus (is_positive_numeral ds) (bytes_eq (byte ∷ ds) (codes "0") || is_positive_numeral (byte ∷ ds)) ≡ true
    → is_within_64_bits (signed_digits_value 10 (byte ∷ ds)) ≡ true → byte ∷ ds ≡ signed_decimal (signed_digits_value 10 (byte ∷ ds))
by_sign byte ds true is h small =
    let minus : byte ≡ 45 = grind (arith, nat_tests, is) in
    let value : signed_digits_value 10 (byte ∷ ds) ≡ neg_ℤ (pos (digits_value 10 ds)) = rw is refl in
    let low = small_negated (digits_value 10 ds) (subst (λ z. is_within_64_bits z ≡ true) value small) in
    let some = above_zero ds (digits_value 10 ds) refl h low in
    rw value (ap (λ b. b ∷ ds) minus ∙ sym (negated (digits_value 10 ds) some ∙ ap (λ xs. 45 ∷ xs) (printed_positive ds h low)))
by_sign byte ds false is h small =
    let tests = unsigned_digits (byte ∷ ds) (bytes_eq (byte ∷ ds) (codes "0")) (zero_digits (byte ∷ ds)) h in
    let digit = digit_small byte (and_true (is_ascii_digit byte) _ tests).0 in
    let no_plus : (byte == 43) ≡ false = let low = digit.1 in grind (arith, nat_tests, low) in
    let value : signed_digits_value 10 (byte ∷ ds) ≡ pos (digits_value 10 (byte ∷ ds)) = rw (is, no_plus) refl in
    let within : is_within_64_bits (pos (digits_value 10 (byte ∷ ds))) ≡ true = subst (λ z. is_within_64_bits z ≡ true) value small in
    let low : digits_value 10 (byte ∷ ds) < 2 ^ 64 = grind (arith, nat_tests, within) in
    rw value (sym (printed_unsigned (byte ∷ ds) (bytes_eq (byte ∷ ds) (codes "0")) refl h low))

printed : (word : List ℕ) → is_integer_form word ≡ true → is_within_64_bits (signed_digits_value 10 word) ≡ true → word ≡ signed_decimal (signed_digits_value 10 word)
printed [] h small = absurd cc
printed (byte ∷ ds) h small = by_sign byte ds (byte == 45) refl h small

chosen_value : (b : Bool) (value n : ℤ) → cond b (Some value) None ≡ Some n → (b ≡ true) × (value ≡ n)
chosen_value true value n e = (refl, ap (λ o. value_in value o) e)
  where
    value_in : ℤ → Option ℤ → ℤ
    value_in other None = other
    value_in other (Some z) = z
chosen_value false value n e = absurd cc

pub read_is_printed : (word : List ℕ) (n : ℤ) → int_of word ≡ Some n → (word ≡ signed_decimal n) × FitsSigned w64 n
read_is_printed word n e =
    let value = signed_digits_value 10 word in
    let found = chosen_value (is_integer_form word && is_within_64_bits value) value n e in
    let tests = and_true (is_integer_form word) (is_within_64_bits value) found.0 in
    (printed word tests.0 tests.1 ∙ ap signed_decimal found.1, subst (FitsSigned w64) found.1 (fits value tests.1))

are_digits : (ds : List ℕ) → AllDigits 10 ds → list_all is_ascii_digit ds ≡ true
are_digits [] h = refl
are_digits (c ∷ cs) h =
    let digit = (tells_digits.parts c cs h).0 in
    let low = digit.0 in
    let high = digit.1 in
    let is : is_ascii_digit c ≡ true = grind (arith, nat_tests, low, high) in
    rw (is, are_digits cs h.1) refl

numeral_form : (ds : List ℕ) → AllDigits 10 ds → 0 < length ds → 48 < get_or ds 0 0 → is_positive_numeral ds ≡ true
numeral_form [] digits some first = absurd (omega arith)
numeral_form (c ∷ cs) digits some first =
    let other : (c == 48) ≡ false = grind (arith, nat_tests, first) in
    let all = are_digits (c ∷ cs) digits in
    rw (other, all) refl

or_true : (a : Bool) → (a || true) ≡ true
or_true true = refl
or_true false = refl

-- a numeral that does not begin with 0 is read as its value
read_plain : (ds : List ℕ) → AllDigits 10 ds → 0 < length ds → 48 < get_or ds 0 0 → (is_integer_form ds ≡ true) × (signed_digits_value 10 ds ≡ pos (digits_value 10 ds))
read_plain [] digits some first = absurd (omega arith)
read_plain (c ∷ cs) digits some first =
    let numeral = numeral_form (c ∷ cs) digits some first in
    let minus : (c == 45) ≡ false = grind (arith, nat_tests, first) in
    let plus : (c == 43) ≡ false = grind (arith, nat_tests, first) in
    (rw (minus, numeral) (or_true (bytes_eq (c ∷ cs) (codes "0"))), rw (minus, plus) refl)

int_where : (word : List ℕ) (n : ℤ) → is_integer_form word ≡ true → signed_digits_value 10 word ≡ n → FitsSigned w64 n → int_of word ≡ Some n
int_where word n form value small =
    let low : is_within_64_bits (signed_digits_value 10 word) ≡ true = subst (λ z. is_within_64_bits z ≡ true) (sym value) (within n small) in
    rw (form, low) (ap (λ z. Some z) value)

pub printed_is_read : (n : ℤ) → FitsSigned w64 n → int_of (signed_decimal n) ≡ Some n
printed_is_read (pos zero) small = subst (λ word. int_of word ≡ Some (pos zero)) (sym (decimal_digit 0 (omega arith))) refl
printed_is_read (pos (suc d)) small =
    let low : suc d < 2 ^ 63 = small.sfits in
    let fit : suc d < 2 ^ 64 = omega (arith, low) in
    let read = read_plain (decimal (suc d)) (digits_decimal own (suc d) fit) (decimal_nonempty (suc d) fit) (first_decimal (suc d) (omega arith) fit) in
    int_where (decimal (suc d)) (pos (suc d)) read.0 (read.1 ∙ ap pos (digits_value-decimal own (suc d) fit)) small
printed_is_read (negsuc d) small =
    let low : d < 2 ^ 63 = small.sfits in
    let fit : suc d < 2 ^ 64 = omega (arith, low) in
    let numeral = numeral_form (decimal (suc d)) (digits_decimal own (suc d) fit) (decimal_nonempty (suc d) fit) (first_decimal (suc d) (omega arith) fit) in
    int_where (45 ∷ decimal (suc d)) (negsuc d) numeral (ap (λ k. neg_ℤ (pos k)) (digits_value-decimal own (suc d) fit)) small
