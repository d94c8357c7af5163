-- Each value is read from the word that is printed of it.
use Rattle.std.proofs.Common.{◌≡◌, ℕ, zero, suc, ◌+◌, ◌/◌, ◌%◌, ◌-◌, ◌^◌, ◌<◌, ◌==◌, nat_lt, nat_le, Bool, true, false, ◌&&◌, inl, inr, List, [], ◌∷◌, ◌++◌, length, slice_index, Option, Some, None, Ok, cond, refl, ap, subst, ◌∙◌, append-nil, length-append, arith, ℤ, pos, negsuc}
use Rattle.std.specs.Prelude.{◌↔◌, bytes_eq, codes, decimal, FitsSigned, option_map}
use Rattle.std.specs.Fmt.{signed_decimal}
use Rattle.std.specs.Int.{w64}
use Rattle.std.specs.List.{AllByRecursion, position_or_len}
use Rattle.std.specs.Str.Parse.{AllDigits}
use Rattle.std.proofs.lemmas.Bool.{and_parts, cases_lt, le-ltb, ltb-true}
use Rattle.std.proofs.lemmas.Bool.Decides.{nat_tests}
use Rattle.std.proofs.lemmas.Fmt.{digits_decimal, decimal_nonempty, digits_value-decimal}
use Rattle.std.proofs.lemmas.Str.{is_utf8-from_IsUtf8}
use Rattle.std.proofs.lemmas.Str.Parse.{tells_digits}
use Rattle.hex.specs.Hex.{encode_lower, encode_with, lower_digits}
use Rattle.text_words.specs.Grammar.{AreWords, bytes, no_word, one_word}
use Rattle.text_words.specs.Hexadecimal.{is_colon, row_of}
use Rattle.text_words.specs.Integers.{int_of, is_integer_form}
use Rattle.text_words.specs.Literals.{plain_literal, value_of}
use Rattle.text_words.specs.Printing.{literal_text, quoted, IsLiteral}
use Rattle.text_words.specs.Words.{first_word, is_end, words_of, words_within}
use Rattle.text_words.specs.declared.literal.Literal.{Literal}
use Rattle.text_words.specs.declared.literal.Literal.TheVariants as literal
use Rattle.text_words.specs.declared.style.Style.{Style}
use Rattle.text_words.specs.declared.style.Style.TheVariants.{Spaced}
use Rattle.text_words.specs.declared.word.Word.{Word}
use Rattle.text_words.specs.declared.word.Word.TheVariants as word
use Rattle.text_words.proofs.IntegersLemmas.{fits}
use Rattle.text_words.proofs.Printed.{own}
use Rattle.update_model.specs.Block.{AreBytes}
use Rattle.update_model.specs.Rows.{IsRowName, IsValue}
use Rattle.update_model.specs.Text.{IsText}
use Rattle.update_model.specs.declared.row_name.RowName.{RowName}
use Rattle.update_model.specs.declared.value.Value.{Value}
use Rattle.update_model.specs.declared.value.Value.TheVariants as value
use Rattle.table_text.specs.declared.name_style.NameStyle.TheVariants.{Full}
use Rattle.table_text.specs.Names.{name_text}
use Rattle.table_text.specs.Values.{value_text}
use Rattle.txn_text.specs.Values.{is_numeral, own_row, text_value, value_in}
use Rattle.txn_printing.proofs.Words.{AreByRule, IsOneWord}

-- integers are read as they are printed
abbrev pub AreAsPrinted : Type 0
AreAsPrinted = (text : List ℕ) (n : ℤ) → (int_of text ≡ Some n) ↔ ((text ≡ signed_decimal n) × FitsSigned w64 n)

-- values are read from what is printed of them
abbrev pub AreReadAgain : Type 0
AreReadAgain = (style : Style) (value : Literal) → IsLiteral value → (w : Word) × (words_of style (literal_text value) ≡ Some (w ∷ [])) × (value_of w ≡ Some value)

-- whole names of rows are read again
abbrev pub AreNamesAgain : Type 0
AreNamesAgain = (name : RowName) → IsRowName name → row_of (name_text Full name) ≡ Some (name.update.0, name.index)

-- ---- bytes that stand in a word as they are

-- `$`, `-`, digits, letters and what lies between them
abbrev pub Stands : ℕ → Type 0
Stands byte = 35 < byte

is_inside : (byte : ℕ) → Stands byte → is_end Spaced byte ≡ false
is_inside byte high =
    let a : (byte == 32) ≡ false = grind (arith, nat_tests, high) in
    let b : (byte == 9) ≡ false = grind (arith, nat_tests, high) in
    rw (a, b) refl

are_inside : (text : List ℕ) → AllByRecursion Stands text → AllByRecursion (λ byte. is_end Spaced byte ≡ false) text
are_inside [] all = tt
are_inside (b ∷ bs) all = (is_inside b all.0, are_inside bs all.1)

-- such bytes are one word
pub stands_bare : AreByRule → (text : List ℕ) → 0 < length text → AllByRecursion Stands text → IsOneWord Spaced text (word.Plain text)
stands_bare rule [] some all = absurd (omega arith)
stands_bare rule (b ∷ bs) some all =
    let high = all.0 in
    let alone = one_word Spaced [] (b ∷ bs) [] (word.Plain (b ∷ bs)) [] tt (bytes Spaced b bs (λ same. omega (arith, high, same)) (is_inside b high) (are_inside bs all.1)) refl (no_word Spaced [] tt) in
    (rule Spaced (b ∷ bs) (word.Plain (b ∷ bs) ∷ [])).0 (subst (λ (l : List ℕ). AreWords Spaced l (word.Plain (b ∷ bs) ∷ [])) (append-nil (b ∷ bs)) alone)

pub all_join : (P : ℕ → Type 0) (xs ys : List ℕ) → AllByRecursion P xs → AllByRecursion P ys → AllByRecursion P (xs ++ ys)
all_join P [] ys h k = k
all_join P (x ∷ xs) ys h k = (h.0, all_join P xs ys h.1 k)

-- ---- numbers

-- a digit or `-`
abbrev IsOfNumber : ℕ → Type 0
IsOfNumber byte = (44 < byte) × (byte < 58)

number_stands : (text : List ℕ) → AllByRecursion IsOfNumber text → AllByRecursion Stands text
number_stands [] all = tt
number_stands (b ∷ bs) all = let low = all.0.0 in (omega (arith, low), number_stands bs all.1)

of_digits : (ds : List ℕ) → AllDigits 10 ds → AllByRecursion IsOfNumber ds
of_digits [] h = tt
of_digits (d ∷ ds) h =
    let digit = (tells_digits.parts d ds h).0 in
    let low = digit.0 in
    let high = digit.1 in
    ((omega (arith, low), omega (arith, high)), of_digits ds h.1)

pub decimal_of_number : (n : ℕ) → n < 2 ^ 64 → AllByRecursion IsOfNumber (decimal n)
decimal_of_number n small = of_digits (decimal n) (digits_decimal own n small)

pub decimal_stands : (n : ℕ) → n < 2 ^ 64 → AllByRecursion Stands (decimal n)
decimal_stands n small = number_stands (decimal n) (decimal_of_number n small)

-- what is printed of an integer is digits, after a `-` or not
of_integer : (n : ℤ) → FitsSigned w64 n → (0 < length (signed_decimal n)) × AllByRecursion IsOfNumber (signed_decimal n)
of_integer (pos d) fits =
    let low : d < 2 ^ 63 = fits.sfits in
    let small : d < 2 ^ 64 = omega (arith, low) in
    (decimal_nonempty d small, decimal_of_number d small)
of_integer (negsuc d) fits =
    let low : d < 2 ^ 63 = fits.sfits in
    let small : suc d < 2 ^ 64 = omega (arith, low) in
    (omega arith, ((omega arith, omega arith), decimal_of_number (suc d) small))

pub integer_stands : (n : ℤ) → FitsSigned w64 n → AllByRecursion Stands (signed_decimal n)
integer_stands n fits = number_stands (signed_decimal n) (of_integer n fits).1

-- digits have no colon
no_colon_after : (text : List ℕ) → AllByRecursion IsOfNumber text → position_or_len is_colon text ≡ length text
no_colon_after [] all = refl
no_colon_after (b ∷ bs) all =
    let high = all.0.1 in
    let other : is_colon b ≡ false = grind (arith, nat_tests, high) in
    rw (other, no_colon_after bs all.1) (omega arith)

no_row : (text : List ℕ) → AllByRecursion IsOfNumber text → row_of text ≡ None
no_row text all =
    let at = no_colon_after text all in
    let test : nat_lt (position_or_len is_colon text) (length text) ≡ false = grind (arith, nat_tests, at) in
    rw test refl

-- digits are no keyword
no_keyword : (c : ℕ) (cs : List ℕ) → c < 58 → plain_literal (c ∷ cs) ≡ option_map (λ n. literal.Integer n) (int_of (c ∷ cs))
no_keyword c cs high =
    let a : (c == 78) ≡ false = grind (arith, nat_tests, high) in
    let b : (c == 84) ≡ false = grind (arith, nat_tests, high) in
    let d : (c == 70) ≡ false = grind (arith, nat_tests, high) in
    rw (a, b, d) refl

number_in : (before : ℕ) (text : List ℕ) (n : ℤ) → 0 < length text → AllByRecursion IsOfNumber text → int_of text ≡ Some n → value_in before (word.Plain text) ≡ Ok (value.Int n)
number_in before [] n some all is = absurd (omega arith)
number_in before (c ∷ cs) n some all is =
    let low = all.0.0 in
    let mark : (c == 36) ≡ false = grind (arith, nat_tests, low) in
    rw (mark, no_row (c ∷ cs) all, no_keyword c cs all.0.1, is) refl

-- ---- names of rows

-- whether the first n digits are above `/`
abbrev are_high : ℕ → Bool
are_high zero = true
are_high (suc n) = nat_lt 47 (slice_index lower_digits n) && are_high n

digit_at : (n k : ℕ) → are_high n ≡ true → k < n → nat_lt 47 (slice_index lower_digits k) ≡ true
digit_at zero k h below = absurd (omega arith)
digit_at (suc n) k h below =
    let parts = and_parts (nat_lt 47 (slice_index lower_digits n)) (are_high n) h in
    elim (cases_lt k n) [
      | inl lower ↦ digit_at n k parts.1 lower
      | inr top ↦
          let same : k ≡ n = omega arith in
          rw same parts.0
    ]

digit_high : (k : ℕ) → k < 16 → 47 < slice_index lower_digits k
digit_high k below = ltb-true 47 (slice_index lower_digits k) (digit_at 16 k refl below)

-- bytes above `/`
abbrev High : ℕ → Type 0
High byte = 47 < byte

high_stands : (text : List ℕ) → AllByRecursion High text → AllByRecursion Stands text
high_stands [] all = tt
high_stands (b ∷ bs) all = let low = all.0 in (omega (arith, low), high_stands bs all.1)

digits_high : (xs : List ℕ) → AreBytes xs → AllByRecursion High (encode_lower xs)
unfolding encode_with
digits_high [] h = tt
digits_high (b ∷ rest) h =
    let small : b < 256 = h 0 in
    (digit_high (b / 16) (omega arith), (digit_high (b % 16) (omega arith), digits_high rest (λ i. h (suc i))))

of_high : (ds : List ℕ) → AllDigits 10 ds → AllByRecursion High ds
of_high [] h = tt
of_high (d ∷ ds) h = let low = (tells_digits.parts d ds h).0.0 in (omega (arith, low), of_high ds h.1)

decimal_high : (n : ℕ) → n < 2 ^ 64 → AllByRecursion High (decimal n)
decimal_high n small = of_high (decimal n) (digits_decimal own n small)

name_high : (row : RowName) → IsRowName row → AllByRecursion High (name_text Full row)
name_high row is =
    let small = is.index in
    let fit : row.index < 2 ^ 64 = omega (arith, small) in
    all_join High (encode_lower row.update.0) (58 ∷ decimal row.index) (digits_high row.update.0 is.update.each) (omega arith, decimal_high row.index fit)

name_there : (row : RowName) → 0 < length (name_text Full row)
name_there row = simp length-append (omega arith)

pub name_stands : (row : RowName) → IsRowName row → AllByRecursion Stands (name_text Full row)
name_stands row is = high_stands (name_text Full row) (name_high row is)

pub name_bare : AreByRule → (row : RowName) → IsRowName row → IsOneWord Spaced (name_text Full row) (word.Plain (name_text Full row))
name_bare rule row is = stands_bare rule (name_text Full row) (name_there row) (name_stands row is)

row_in_word : (before : ℕ) (text : List ℕ) (row : RowName) → 0 < length text → AllByRecursion High text → row_of text ≡ Some (row.update.0, row.index)
    → value_in before (word.Plain text) ≡ Ok (value.Row row)
row_in_word before [] row some all is = absurd (omega arith)
row_in_word before (c ∷ cs) row some all is =
    let low = all.0 in
    let mark : (c == 36) ≡ false = grind (arith, nat_tests, low) in
    rw (mark, is) refl

-- ---- rows of the same transaction

form_by : (form small : Bool) (n m : ℤ) → cond (form && small) (Some n) None ≡ Some m → form ≡ true
form_by true small n m e = refl
form_by false small n m e = absurd cc

numeral_at : (ds : List ℕ) → AllByRecursion High ds → is_integer_form ds ≡ true → is_numeral ds ≡ true
numeral_at [] all form = absurd cc
numeral_at (c ∷ cs) all form =
    let low = all.0 in
    let minus : (c == 45) ≡ false = grind (arith, nat_tests, low) in
    rw minus at form

decimal_numeral : AreAsPrinted → (n : ℕ) → n < 2 ^ 16 → is_numeral (decimal n) ≡ true
decimal_numeral printed n small =
    let low : nat_lt n (2 ^ 63) ≡ true = grind (arith, nat_tests, small) in
    let fit : n < 2 ^ 64 = omega (arith, small) in
    numeral_at (decimal n) (decimal_high n fit) (form_by (is_integer_form (decimal n)) _ _ (pos n) ((printed (decimal n) (pos n)).1 (refl, fits (pos n) low)))

own_read : (before index : ℕ) → index < before → own_row before (index + 1) ≡ Ok (value.Own index)
own_read before index below =
    let some : nat_lt 0 (index + 1) ≡ true = grind (arith, nat_tests) in
    let within : nat_le (index + 1) before ≡ true = grind (arith, nat_tests, below) in
    let back : index + 1 - 1 ≡ index = omega arith in
    rw (some, within, back) refl

own_in_word : AreAsPrinted → (before index : ℕ) → before < 2 ^ 16 → index < before → value_in before (word.Plain (36 ∷ decimal (index + 1))) ≡ Ok (value.Own index)
own_in_word printed before index few below =
    let small : index + 1 < 2 ^ 16 = omega arith in
    let fit : index + 1 < 2 ^ 64 = omega arith in
    rw (decimal_numeral printed (index + 1) small, digits_value-decimal own (index + 1) fit) (own_read before index below)

-- ---- texts

text_good : (text : List ℕ) → IsText text → text_value text ≡ Ok (value.Text text)
text_good text is = rw (le-ltb 1024 (length text) is.0, is_utf8-from_IsUtf8 text is.1) refl

abbrev text_in : List ℕ → Option Literal → List ℕ
text_in other (Some (literal.Text text)) = text
text_in other found = other

-- no word without quotes writes a text
no_text : (read text : List ℕ) → plain_literal read ≡ Some (literal.Text text) → ⊥
no_text read text e = by_tests (bytes_eq read (codes "NULL")) (bytes_eq read (codes "TRUE")) (bytes_eq read (codes "FALSE")) (int_of read) e
  where
    by_tests : (a b c : Bool) (found : Option ℤ)
        → cond a (Some literal.Null) (cond b (Some (literal.Flag true)) (cond c (Some (literal.Flag false)) (option_map (λ m. literal.Integer m) found))) ≡ Some (literal.Text text) → ⊥
    by_tests true b c found e = cc
    by_tests false true c found e = cc
    by_tests false false true found e = cc
    by_tests false false false None e = cc
    by_tests false false false (Some m) e = cc

-- ---- values

-- the word that is printed of a value writes the value, behind so many operations
abbrev pub IsWritten : ℕ → Value → Type 0
IsWritten before v = (w : Word) × IsOneWord Spaced (value_text Full v) w × (value_in before w ≡ Ok v)

text_written : AreReadAgain → (before : ℕ) (text : List ℕ) → IsText text → IsWritten before (value.Text text)
text_written again before text is = by_word (again Spaced (literal.Text text) tt)
  where
    by_word : (w : Word) × (words_of Spaced (quoted text) ≡ Some (w ∷ [])) × (value_of w ≡ Some (literal.Text text)) → IsWritten before (value.Text text)
    by_word (word.Quoted read, one, e) =
        let same : read ≡ text = ap (text_in read) e in
        (word.Quoted read, one, ap text_value same ∙ text_good text is)
    by_word (word.Plain read, one, e) = absurd (no_text read text e)
    by_word (word.Open, one, e) = absurd cc
    by_word (word.Close, one, e) = absurd cc
    by_word (word.Comma, one, e) = absurd cc

integer_written : AreByRule → AreAsPrinted → (before : ℕ) (n : ℤ) → FitsSigned w64 n → IsWritten before (value.Int n)
integer_written rule printed before n fits =
    let is = of_integer n fits in
    let text = signed_decimal n in
    (word.Plain text, stands_bare rule text is.0 (number_stands text is.1), number_in before text n is.0 is.1 ((printed text n).1 (refl, fits)))

pub value_written : AreByRule → AreAsPrinted → AreReadAgain → AreNamesAgain → (before : ℕ) → before < 2 ^ 16 → (v : Value) → IsValue before v → IsWritten before v
unfolding words_within first_word
value_written rule printed again names before few value.Null is = (word.Plain (codes "NULL"), refl, refl)
value_written rule printed again names before few (value.Int n) is = integer_written rule printed before n is
value_written rule printed again names before few (value.Text text) is = text_written again before text is
value_written rule printed again names before few (value.Flag true) is = (word.Plain (codes "TRUE"), refl, refl)
value_written rule printed again names before few (value.Flag false) is = (word.Plain (codes "FALSE"), refl, refl)
value_written rule printed again names before few (value.Row row) is =
    (word.Plain (name_text Full row), name_bare rule row is, row_in_word before (name_text Full row) row (name_there row) (name_high row is) (names row is))
value_written rule printed again names before few (value.Own index) is =
    let fit : index + 1 < 2 ^ 64 = omega (arith, is, few) in
    (word.Plain (36 ∷ decimal (index + 1)), stands_bare rule (36 ∷ decimal (index + 1)) (omega arith) (omega arith, decimal_stands (index + 1) fit), own_in_word printed before index few is)
