-- The whole name of a row is read where it stands as it is printed.
use Rattle.std.proofs.Common.{◌≡◌, ℕ, zero, suc, ◌+◌, ◌/◌, ◌%◌, ◌^◌, ◌<◌, nat_lt, Bool, true, false, ◌&&◌, inl, inr, List, [], ◌∷◌, ◌++◌, length, drop, slice_index, Some, refl, length-append, arith, ℤ, pos}
use Rattle.std.specs.Prelude.{FitsSigned, decimal, position, ◌↔◌}
use Rattle.std.specs.Fmt.{signed_decimal}
use Rattle.std.specs.Int.{w64}
use Rattle.std.specs.List.{list_all, position_or_len}
use Rattle.std.proofs.lemmas.Bool.{and_parts, cases_lt}
use Rattle.std.proofs.lemmas.Bool.Decides.{nat_tests}
use Rattle.std.proofs.lemmas.List.{take_at}
use Rattle.std.proofs.Math.Seq.{drop-append-add}
use Rattle.hex.specs.Hex.{IsBytes, encode_lower, encode_with, lower_digits}
use Rattle.hex.proofs.HexLemmas.{decode_sized-encode_lower}
use Rattle.text_words.specs.Hexadecimal.{is_lower_digit, block_of_hex, index_of, is_colon, row_of}
use Rattle.text_words.specs.Integers.{int_of}
use Rattle.text_words.proofs.IntegersLemmas.{fits}
use Rattle.update_model.specs.declared.row_name.RowName.{RowName}
use Rattle.update_model.specs.Block.{IsBlock}
use Rattle.update_model.specs.Rows.{IsRowName}
use Rattle.table_text.specs.declared.name_style.NameStyle.TheVariants.{Full}
use Rattle.table_text.specs.Names.{name_text}

-- ---- the digits of an id

-- whether the first n digits are lower-case digits
abbrev are_lower : ℕ → Bool
are_lower zero = true
are_lower (suc n) = is_lower_digit (slice_index lower_digits n) && are_lower n

lower_at : (n k : ℕ) → are_lower n ≡ true → k < n → is_lower_digit (slice_index lower_digits k) ≡ true
lower_at zero k h below = absurd (omega arith)
lower_at (suc n) k h below =
    let parts = and_parts (is_lower_digit (slice_index lower_digits n)) (are_lower n) h in
    elim (cases_lt k n) [
      | inl lower ↦ lower_at n k parts.1 lower
      | inr top ↦
          let same : k ≡ n = omega arith in
          rw same parts.0
    ]

digit_lower : (k : ℕ) → k < 16 → is_lower_digit (slice_index lower_digits k) ≡ true
digit_lower k below = lower_at 16 k refl below

digits_lower : (bytes : List ℕ) → IsBytes bytes → list_all is_lower_digit (encode_lower bytes) ≡ true
unfolding encode_with
digits_lower [] h = refl
digits_lower (b ∷ rest) h =
    let small : b < 256 = h 0 in
    let high : b / 16 < 16 = omega arith in
    let low : b % 16 < 16 = omega arith in
    rw (digit_lower (b / 16) high, digit_lower (b % 16) low, digits_lower rest (λ i. h (suc i))) refl

id_read : (bytes : List ℕ) → IsBlock 32 bytes → block_of_hex 32 (encode_lower bytes) ≡ Some bytes
id_read bytes block = rw (digits_lower bytes block.each, decode_sized-encode_lower bytes 32 block.len block.each) refl

-- ---- the colon

no_colon : (byte : ℕ) → is_lower_digit byte ≡ true → is_colon byte ≡ false
no_colon byte h = grind (arith, nat_tests, h)

colon_after : (digits rest : List ℕ) → list_all is_lower_digit digits ≡ true → position_or_len is_colon (digits ++ 58 ∷ rest) ≡ length digits
colon_after [] rest h = refl
colon_after (d ∷ ds) rest h =
    let parts = and_parts (is_lower_digit d) (list_all is_lower_digit ds) h in
    rw (no_colon d parts.0, colon_after ds rest parts.1) (omega arith)

longer : (digits rest : List ℕ) → nat_lt (length digits) (length (digits ++ 58 ∷ rest)) ≡ true
longer digits rest =
    let below : length digits < length (digits ++ 58 ∷ rest) = simp length-append (omega arith) in
    grind (arith, nat_tests, below)

colon_at : (digits rest : List ℕ) → list_all is_lower_digit digits ≡ true → position is_colon (digits ++ 58 ∷ rest) ≡ Some (length digits)
colon_at digits rest h = rw (colon_after digits rest h, longer digits rest) refl

behind_colon : (digits rest : List ℕ) → drop (length digits + 1) (digits ++ 58 ∷ rest) ≡ rest
behind_colon digits rest = drop-append-add digits (58 ∷ rest) 1

-- ---- the number

-- integers are read as they are printed
abbrev pub AreAsPrinted : Type 0
AreAsPrinted = (word : List ℕ) (n : ℤ) → (int_of word ≡ Some n) ↔ ((word ≡ signed_decimal n) × FitsSigned w64 n)

index_read : AreAsPrinted → (n : ℕ) → n < 2 ^ 16 → index_of (decimal n) ≡ Some n
index_read printed n small =
    let low : nat_lt n (2 ^ 63) ≡ true = grind (arith, nat_tests, small) in
    let test : nat_lt n (2 ^ 16) ≡ true = grind (arith, nat_tests, small) in
    rw ((printed (decimal n) (pos n)).1 (refl, fits (pos n) low), test) refl

-- ---- the name

pub name_read : AreAsPrinted → (name : RowName) → IsRowName name → row_of (name_text Full name) ≡ Some (name.update.0, name.index)
name_read printed name is =
    let digits = encode_lower name.update.0 in
    let word = digits ++ 58 ∷ decimal name.index in
    let lower = digits_lower name.update.0 is.update.each in
    rw (
      colon_at digits (decimal name.index) lower,
      take_at digits (58 ∷ decimal name.index) (length digits) refl,
      behind_colon digits (decimal name.index),
      id_read name.update.0 is.update,
      index_read printed name.index is.index,
    ) refl
