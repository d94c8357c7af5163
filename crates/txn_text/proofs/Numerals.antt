-- Numbers of whatever size, as `parse` reads them.
use Rattle.std.proofs.Common.{◌≡◌, ℕ, ◌^◌, ◌<◌, true, false, ◌==◌, List, [], ◌∷◌, Result, Ok, Err, refl, sym, subst, arith}
use Rattle.std.specs.Prelude.{IsUtf8, bytes_eq, codes}
use Rattle.std.specs.Char.{is_ascii_digit}
use Rattle.std.specs.List.{list_all}
use Rattle.std.specs.Str.Parse.{IsNumeral, ParsesUnsigned, without_leading_plus, digits_value}
use Rattle.std.proofs.lemmas.Bool.Decides.{nat_tests}
use Rattle.std.proofs.lemmas.Str.{IsUtf8-from_ascii}
use Rattle.std.proofs.lemmas.Fmt.{IsAscii-from_digits}
use Rattle.text_words.proofs.IntegersLemmas.{and_true, digit_small, all_digits, unsigned_digits, zero_digits}
use Rattle.txn_text.specs.declared.fault.TextKind.TheVariants.{LaterLine}
use Rattle.txn_text.specs.Values.{is_numeral, own_row}

digits_of : (word : List ℕ) → is_numeral word ≡ true → list_all is_ascii_digit word ≡ true
digits_of word h = unsigned_digits word (bytes_eq word (codes "0")) (zero_digits word) h

pub is_text : (word : List ℕ) → is_numeral word ≡ true → IsUtf8 word
is_text word h = IsUtf8-from_ascii word (IsAscii-from_digits word (all_digits word (digits_of word h)))

-- no plus stands first, and digits do
parses : (word : List ℕ) → is_numeral word ≡ true → IsNumeral 10 (without_leading_plus word) × (without_leading_plus word ≡ word)
parses [] h = absurd cc
parses (byte ∷ rest) h =
    let digits = digits_of (byte ∷ rest) h in
    let low = (digit_small byte (and_true (is_ascii_digit byte) _ digits).0).1 in
    let no_plus : (byte == 43) ≡ false = grind (arith, nat_tests, low) in
    (rw no_plus (omega arith, all_digits (byte ∷ rest) digits), rw no_plus refl)

-- an operation of a number that is too large is none of those before
too_large : (before k : ℕ) → before < 2 ^ 16 → ¬ (k < 2 ^ 16) → own_row before k ≡ Err LaterLine
too_large before k low large = let not_before : before < k = omega arith in grind (arith, nat_tests, not_before)

-- what `parse` does not read as a number of 16 bits names no earlier operation
pub not_read : {E : Type 0} (before : ℕ) (word : List ℕ) (r : Result ℕ E) {e : E} → before < 2 ^ 16 → is_numeral word ≡ true → ParsesUnsigned 16 10 word r
    → r ≡ Err e → Err LaterLine ≡ own_row before (digits_value 10 word)
not_read before word (Ok n) low form h is = absurd cc
not_read before word (Err f) low form h is =
    let read = parses word form in
    let large : ¬ (digits_value 10 word < 2 ^ 16) = λ small. h (read.0, subst (λ (w : List ℕ). digits_value 10 w < 2 ^ 16) (sym read.1) small) in
    sym (too_large before (digits_value 10 word) low large)
