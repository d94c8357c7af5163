-- The values of a sample are read from the words that are printed of them, names of rows among them.
use Rattle.std.proofs.Common.{◌≡◌, ℕ, ◌^◌, ◌<◌, ◌==◌, ◌&&◌, nat_lt, Bool, true, false, List, [], ◌∷◌, ◌++◌, length, get_or, not, subst, Some, None, refl, sym, ap, ◌∙◌, length-append, ℤ, pos, arith}
use Rattle.std.specs.Prelude.{◌↔◌, bytes_eq, codes, decimal, map, option_map, FitsSigned}
use Rattle.std.specs.Char.{is_ascii_digit}
use Rattle.std.specs.Fmt.{signed_decimal}
use Rattle.std.specs.Int.{w64}
use Rattle.std.specs.List.{AllByRecursion, list_all}
use Rattle.std.specs.Str.Parse.{AllDigits}
use Rattle.std.proofs.lemmas.Bool.{and_parts}
use Rattle.std.proofs.lemmas.Bool.Decides.{nat_tests}
use Rattle.std.proofs.lemmas.Fmt.{digits_decimal}
use Rattle.std.proofs.lemmas.List.{take_at}
use Rattle.std.proofs.lemmas.Slice.Eq.{bytes_eq-Decides}
use Rattle.std.proofs.lemmas.Str.Parse.{tells_digits}
use Rattle.hex.specs.Hex.{encode_lower}
use Rattle.text_words.specs.Hexadecimal.{index_of, is_colon, is_lower_digit, row_of}
use Rattle.text_words.specs.Integers.{int_of, is_integer_form}
use Rattle.text_words.specs.Literals.{plain_literal}
use Rattle.text_words.specs.declared.word.Word.{Word}
use Rattle.text_words.specs.declared.word.Word.TheVariants as word
use Rattle.text_words.proofs.IntegersLemmas.{fits}
use Rattle.text_words.proofs.Printed.{own}
use Rattle.text_words.specs.declared.style.Style.TheVariants.{Spaced}
use Rattle.update_model.specs.Rows.{IsRowName}
use Rattle.update_model.specs.declared.row_name.RowName.{RowName}
use Rattle.schema_text.specs.declared.form.Form.TheVariants as form
use Rattle.schema_text.specs.declared.form.SampleValue.{SampleValue}
use Rattle.schema_text.specs.declared.form.SampleValue.TheVariants as sample
use Rattle.schema_text.specs.declared.keyword.Keyword.TheVariants as keyword
use Rattle.schema_text.specs.Forms.{values_of}
use Rattle.schema_text.specs.Printing.{IsBare, IsValueOfText, row_text, sample_text}
use Rattle.schema_text.proofs.LinesAgain.{AreByRule, AreEach, line_read}
use Rattle.schema_text.proofs.FormsAgain.{AreReadAgain, IsReadAgain}
use Rattle.schema_text.proofs.KeysAgain.{Stands, behind_mark, block_read, digits_lower, high_stands, lower_high, lower_stand, mark_at, stands_bare}

-- integers are read as they are printed
abbrev pub AreAsPrinted : Type 0
AreAsPrinted = (text : List ℕ) (n : ℤ) → (int_of text ≡ Some n) ↔ ((text ≡ signed_decimal n) × FitsSigned w64 n)

-- ---- the name of a row

no_colon : (digits : List ℕ) → list_all is_lower_digit digits ≡ true → AllByRecursion (λ byte. is_colon byte ≡ false) digits
no_colon [] h = tt
no_colon (d ∷ ds) h =
    let parts = and_parts (is_lower_digit d) (list_all is_lower_digit ds) h in
    let lower = parts.0 in
    (grind (arith, nat_tests, lower), no_colon ds parts.1)

index_read : AreAsPrinted → (n : ℕ) → n < 2 ^ 16 → index_of (decimal n) ≡ Some n
index_read printed n small =
    let low : nat_lt n (2 ^ 63) ≡ true = grind (arith, nat_tests, small) in
    let test : nat_lt n (2 ^ 16) ≡ true = grind (arith, nat_tests, small) in
    rw ((printed (decimal n) (pos n)).1 (refl, fits (pos n) low), test) refl

pub name_read : AreAsPrinted → (row : RowName) → IsRowName row → row_of (row_text row) ≡ Some (row.update.0, row.index)
name_read printed row is =
    let digits = encode_lower row.update.0 in
    let lower = digits_lower row.update.0 is.update.each in
    rw (
      mark_at is_colon digits (decimal row.index) 58 refl (no_colon digits lower),
      take_at digits (58 ∷ decimal row.index) (length digits) refl,
      behind_mark digits (decimal row.index) 58,
      block_read 32 row.update.0 is.update,
      index_read printed row.index is.index,
    ) refl

all_join : (xs ys : List ℕ) → AllByRecursion Stands xs → AllByRecursion Stands ys → AllByRecursion Stands (xs ++ ys)
all_join [] ys h k = k
all_join (x ∷ xs) ys h k = (h.0, all_join xs ys h.1 k)

decimal_stand : (ds : List ℕ) → AllDigits 10 ds → AllByRecursion Stands ds
decimal_stand [] h = tt
decimal_stand (d ∷ ds) h = (high_stands d (let low = (tells_digits.parts d ds h).0.0 in omega (arith, low)), decimal_stand ds h.1)

name_bare : AreByRule → (row : RowName) → IsRowName row → IsBare Spaced (row_text row)
name_bare rule row is =
    let digits = encode_lower row.update.0 in
    let small = is.index in
    let fit : row.index < 2 ^ 64 = omega (arith, small) in
    let some : 0 < length (row_text row) = simp length-append (omega arith) in
    stands_bare rule (row_text row) some
    (all_join digits (58 ∷ decimal row.index) (lower_stand digits (digits_lower row.update.0 is.update.each)) (high_stands 58 (omega arith), decimal_stand (decimal row.index) (digits_decimal own row.index fit)))

-- ---- it is no other value

unequal : (xs ys : List ℕ) → (xs ≡ ys → ⊥) → bytes_eq xs ys ≡ false
unequal xs ys other = by_test (bytes_eq xs ys) refl
  where
    by_test : (same : Bool) → bytes_eq xs ys ≡ same → same ≡ false
    by_test true e = absurd (other ((bytes_eq-Decides xs ys).0 e))
    by_test false e = refl

not_all : (front rest : List ℕ) → list_all is_ascii_digit (front ++ 58 ∷ rest) ≡ false
not_all [] rest = refl
not_all (b ∷ bs) rest = by_test (is_ascii_digit b) (not_all bs rest)
  where
    by_test : (digit : Bool) → list_all is_ascii_digit (bs ++ 58 ∷ rest) ≡ false → (digit && list_all is_ascii_digit (bs ++ 58 ∷ rest)) ≡ false
    by_test true others = others
    by_test false others = refl

and_false : (b : Bool) → (b && false) ≡ false
and_false true = refl
and_false false = refl

no_numeral : (front rest : List ℕ) → list_all is_lower_digit front ≡ true → is_integer_form (front ++ 58 ∷ rest) ≡ false
no_numeral [] rest lower = refl
no_numeral (d ∷ ds) rest lower =
    let high : 47 < d = lower_high d (and_parts (is_lower_digit d) (list_all is_lower_digit ds) lower).0 in
    let minus : (d == 45) ≡ false = grind (arith, nat_tests, high) in
    let nought : bytes_eq (d ∷ (ds ++ 58 ∷ rest)) (codes "0") ≡ false = unequal (d ∷ (ds ++ 58 ∷ rest)) (codes "0") (λ same. omega (arith, simp length-append at (ap length same))) in
    let digits : list_all is_ascii_digit (d ∷ (ds ++ 58 ∷ rest)) ≡ false = not_all (d ∷ ds) rest in
    rw (minus, nought, digits) (and_false (not (d == 48)))

no_integer : (front rest : List ℕ) → list_all is_lower_digit front ≡ true → int_of (front ++ 58 ∷ rest) ≡ None
no_integer front rest lower = rw (no_numeral front rest lower) refl

begins_otherwise : (front rest : List ℕ) (c : ℕ) (cs : List ℕ) → list_all is_lower_digit front ≡ true → is_lower_digit c ≡ false → (58 ≡ c → ⊥) → front ++ 58 ∷ rest ≡ c ∷ cs → ⊥
begins_otherwise [] rest c cs lower upper other same = other (ap (λ xs. get_or xs 0 0) same)
begins_otherwise (d ∷ ds) rest c cs lower upper other same =
    let first : d ≡ c = ap (λ xs. get_or xs 0 0) same in
    let digit : is_lower_digit c ≡ true = subst (λ (b : ℕ). is_lower_digit b ≡ true) first (and_parts (is_lower_digit d) (list_all is_lower_digit ds) lower).0 in
    let both : true ≡ false = sym digit ∙ upper in
    cc

no_literal : (front rest : List ℕ) → list_all is_lower_digit front ≡ true → plain_literal (front ++ 58 ∷ rest) ≡ None
no_literal front rest lower =
    let text = front ++ 58 ∷ rest in
    let a = unequal text (codes "NULL") (begins_otherwise front rest 78 (codes "ULL") lower refl (λ same. omega (arith, same))) in
    let b = unequal text (codes "TRUE") (begins_otherwise front rest 84 (codes "RUE") lower refl (λ same. omega (arith, same))) in
    let c = unequal text (codes "FALSE") (begins_otherwise front rest 70 (codes "ALSE") lower refl (λ same. omega (arith, same))) in
    rw (a, b, c, no_integer front rest lower) refl

-- ---- values

-- words that write these values
abbrev Writes : List SampleValue → Type 0
Writes values = (words : List Word) × AreEach Spaced (map sample_text values) words × (values_of words ≡ Some values)

values_written : AreByRule → AreAsPrinted → AreReadAgain → (values : List SampleValue) → AllByRecursion IsValueOfText values → Writes values
values_written rule printed again [] all = ([], tt, refl)
values_written rule printed again (sample.Literal value ∷ values) all =
    let first = again Spaced value all.0 in
    let others = values_written rule printed again values all.1 in
    (first.0 ∷ others.0, (first.1, others.1), rw (first.2, others.2) refl)
values_written rule printed again (sample.Row row ∷ values) all =
    let others = values_written rule printed again values all.1 in
    let none = no_literal (encode_lower row.update.0) (decimal row.index) (digits_lower row.update.0 all.0.update.each) in
    (word.Plain (row_text row) ∷ others.0, (name_bare rule row all.0, others.1), rw (none, name_read printed row all.0, others.2) refl)

pub sample_again : AreByRule → AreAsPrinted → AreReadAgain → (values : List SampleValue) → AllByRecursion IsValueOfText values → IsReadAgain (form.Sample values)
sample_again rule printed again values all =
    let written = values_written rule printed again values all in
    line_read rule keyword.Sample (map sample_text values) written.0 (form.Sample values) written.1 (ap (option_map (λ vs. form.Sample vs)) written.2)
