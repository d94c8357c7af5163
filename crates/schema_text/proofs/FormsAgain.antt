-- Each form is read from the words that are printed of it.
use Rattle.std.proofs.Common.{◌≡◌, ℕ, Bool, true, false, List, [], ◌∷◌, ◌++◌, Option, Some, None, cond, refl, ap, ℤ}
use Rattle.std.specs.Prelude.{bytes_eq, codes, map, option_map, FitsSigned}
use Rattle.std.specs.Fmt.{signed_decimal}
use Rattle.std.specs.Int.{w64}
use Rattle.row_check.specs.declared.cmp.Cmp.{Cmp}
use Rattle.row_check.specs.declared.cmp.Cmp.TheVariants as cmp
use Rattle.text_words.specs.Integers.{int_of}
use Rattle.text_words.specs.Literals.{plain_literal, value_of}
use Rattle.text_words.specs.Printing.{literal_text, IsLiteral}
use Rattle.text_words.specs.Words.{first_word, words_of, words_within, skip_blanks}
use Rattle.text_words.specs.declared.literal.Literal.{Literal}
use Rattle.text_words.specs.declared.literal.Literal.TheVariants as literal
use Rattle.text_words.specs.declared.style.Style.{Style}
use Rattle.text_words.specs.declared.style.Style.TheVariants.{Spaced}
use Rattle.text_words.specs.declared.word.Word.{Word}
use Rattle.text_words.specs.declared.word.Word.TheVariants as word
use Rattle.schema.specs.declared.action.Action.{Action}
use Rattle.schema.specs.declared.action.Action.TheVariants as action
use Rattle.schema_text.specs.declared.form.Form.{Form}
use Rattle.schema_text.specs.declared.form.Form.TheVariants as form
use Rattle.schema_text.specs.declared.form.PlainKind.{PlainKind}
use Rattle.schema_text.specs.declared.form.PlainKind.TheVariants as plain
use Rattle.schema_text.specs.declared.keyword.Keyword.TheVariants as keyword
use Rattle.schema_text.specs.Forms.{action_in, form_at, null_at_end, sign_in}
use Rattle.schema_text.specs.Printing.{keeps_texts, HasBounds, IsBare, IsOneWord, action_text, form_text, kind_texts, null_texts, rights_texts, sign_text}
use Rattle.schema_text.proofs.LinesAgain.{AreByRule, AreEach, line_read}

-- values are read from what is printed of them
abbrev pub AreReadAgain : Type 0
AreReadAgain = (style : Style) (value : Literal) → IsLiteral value → (w : Word) × (words_of style (literal_text value) ≡ Some (w ∷ [])) × (value_of w ≡ Some value)

-- a form is read from its line
abbrev pub IsReadAgain : Form → Type 0
IsReadAgain f = form_at (skip_blanks (form_text f)) ≡ Some f

-- ---- words

abbrev bare_words : List (List ℕ) → List Word
bare_words texts = map (λ text. word.Plain text) texts

-- ---- integers

-- a word without quotes that writes this integer
abbrev pub IsNumber : Style → ℤ → List ℕ → Type 0
IsNumber style n bytes = IsOneWord style (signed_decimal n) (word.Plain bytes) × (int_of bytes ≡ Some n)

abbrev literal_integer : ℤ → Option Literal → ℤ
literal_integer other (Some (literal.Integer n)) = n
literal_integer other found = other

integer_in : (bytes : List ℕ) (n : ℤ) → plain_literal bytes ≡ Some (literal.Integer n) → int_of bytes ≡ Some n
integer_in bytes n e = by_tests (bytes_eq bytes (codes "NULL")) (bytes_eq bytes (codes "TRUE")) (bytes_eq bytes (codes "FALSE")) (int_of bytes) e
  where
    by_tests : (a b c : Bool) (found : Option ℤ) → cond a (Some literal.Null) (cond b (Some (literal.Flag true)) (cond c (Some (literal.Flag false)) (option_map (λ m. literal.Integer m) found))) ≡ Some (literal.Integer n) → found ≡ Some n
    by_tests true b c found e = absurd cc
    by_tests false true c found e = absurd cc
    by_tests false false true found e = absurd cc
    by_tests false false false None e = absurd cc
    by_tests false false false (Some m) e = ap (λ (found : Option Literal). Some (literal_integer m found)) e

pub number_word : AreReadAgain → (style : Style) (n : ℤ) → FitsSigned w64 n → (bytes : List ℕ) × IsNumber style n bytes
number_word again style n fits = by_word (again style (literal.Integer n) fits)
  where
    by_word : (w : Word) × (words_of style (signed_decimal n) ≡ Some (w ∷ [])) × (value_of w ≡ Some (literal.Integer n)) → (bytes : List ℕ) × IsNumber style n bytes
    by_word (word.Plain bytes, one, is) = (bytes, (one, integer_in bytes n is))
    by_word (word.Quoted bytes, one, is) = absurd cc
    by_word (word.Open, one, is) = absurd cc
    by_word (word.Close, one, is) = absurd cc
    by_word (word.Comma, one, is) = absurd cc

-- ---- the ends of lines

abbrev null_words : Bool → List Word
null_words null = bare_words (null_texts null)

null_each : (null : Bool) → AreEach Spaced (null_texts null) (null_words null)
unfolding words_within first_word
null_each true = (refl, tt)
null_each false = tt

null_read : (null : Bool) → null_at_end (null_words null) ≡ Some null
null_read true = refl
null_read false = refl

-- ---- each form

pub database_again : AreByRule → (name : List ℕ) → IsBare Spaced name → IsReadAgain (form.Database name)
database_again rule name bare = line_read rule keyword.Database (name ∷ []) (word.Plain name ∷ []) (form.Database name) (bare, tt) refl

pub unique_again : AreByRule → (column : List ℕ) (keeps : Bool) → IsBare Spaced column → IsReadAgain (form.Unique column keeps)
unfolding words_within first_word
unique_again rule column true bare =
    line_read rule keyword.Unique (column ∷ keeps_texts true) (word.Plain column ∷ bare_words (keeps_texts true)) (form.Unique column true) (bare, (refl, (refl, tt))) refl
unique_again rule column false bare = line_read rule keyword.Unique (column ∷ []) (word.Plain column ∷ []) (form.Unique column false) (bare, tt) refl

pub table_again : AreByRule → (name : List ℕ) (deletable owned : Bool) → IsBare Spaced name → ((deletable ≡ false) → owned ≡ false) → IsReadAgain (form.Table name deletable owned)
unfolding words_within first_word
table_again rule name true true bare only =
    line_read rule keyword.Table (name ∷ rights_texts true true) (word.Plain name ∷ bare_words (rights_texts true true)) (form.Table name true true) (bare, (refl, (refl, tt))) refl
table_again rule name true false bare only =
    line_read rule keyword.Table (name ∷ rights_texts true false) (word.Plain name ∷ bare_words (rights_texts true false)) (form.Table name true false) (bare, (refl, tt)) refl
table_again rule name false true bare only = absurd (let e = only refl in cc)
table_again rule name false false bare only = line_read rule keyword.Table (name ∷ []) (word.Plain name ∷ []) (form.Table name false false) (bare, tt) refl

pub column_again : AreByRule → AreReadAgain → (name : List ℕ) (kind : PlainKind) (null : Bool) → IsBare Spaced name → HasBounds kind → IsReadAgain (form.Column name kind null)
unfolding words_within first_word
column_again rule again name (plain.Int lo hi) null bare bounds =
    let low = number_word again Spaced lo bounds.0 in
    let high = number_word again Spaced hi bounds.1 in
    line_read rule keyword.Column (name ∷ (kind_texts (plain.Int lo hi) ++ null_texts null)) (word.Plain name ∷ word.Plain (codes "INT") ∷ word.Plain low.0 ∷ word.Plain high.0 ∷ null_words null)
    (form.Column name (plain.Int lo hi) null) (bare, (refl, (low.1.0, (high.1.0, null_each null)))) (rw (low.1.1, high.1.1, null_read null) refl)
column_again rule again name (plain.Text lo hi) null bare bounds =
    let low = number_word again Spaced lo bounds.0 in
    let high = number_word again Spaced hi bounds.1 in
    line_read rule keyword.Column (name ∷ (kind_texts (plain.Text lo hi) ++ null_texts null)) (word.Plain name ∷ word.Plain (codes "TEXT") ∷ word.Plain low.0 ∷ word.Plain high.0 ∷ null_words null)
    (form.Column name (plain.Text lo hi) null) (bare, (refl, (low.1.0, (high.1.0, null_each null)))) (rw (low.1.1, high.1.1, null_read null) refl)
column_again rule again name plain.Flag null bare bounds =
    line_read rule keyword.Column (name ∷ (kind_texts plain.Flag ++ null_texts null)) (word.Plain name ∷ word.Plain (codes "FLAG") ∷ null_words null)
    (form.Column name plain.Flag null) (bare, (refl, null_each null)) (rw (null_read null) refl)

action_each : (act : Action) → IsOneWord Spaced (action_text act) (word.Plain (action_text act))
unfolding words_within first_word
action_each action.Restrict = refl
action_each action.Cascade = refl
action_each action.SetNull = refl

action_read : (act : Action) → action_in (word.Plain (action_text act)) ≡ Some act
action_read action.Restrict = refl
action_read action.Cascade = refl
action_read action.SetNull = refl

pub ref_again : AreByRule → (name table : List ℕ) (act : Action) (null : Bool) → IsBare Spaced name → IsBare Spaced table → IsReadAgain (form.Ref name table act null)
ref_again rule name table act null bare bare_table =
    line_read rule keyword.Ref (name ∷ table ∷ action_text act ∷ null_texts null) (word.Plain name ∷ word.Plain table ∷ word.Plain (action_text act) ∷ null_words null)
    (form.Ref name table act null) (bare, (bare_table, (action_each act, null_each null))) (rw (action_read act, null_read null) refl)

pub sign_each : (sign : Cmp) → IsOneWord Spaced (sign_text sign) (word.Plain (sign_text sign))
unfolding words_within first_word
sign_each cmp.Eq = refl
sign_each cmp.Ne = refl
sign_each cmp.Lt = refl
sign_each cmp.Le = refl
sign_each cmp.Gt = refl
sign_each cmp.Ge = refl

pub sign_read : (sign : Cmp) → sign_in (word.Plain (sign_text sign)) ≡ Some sign
sign_read cmp.Eq = refl
sign_read cmp.Ne = refl
sign_read cmp.Lt = refl
sign_read cmp.Le = refl
sign_read cmp.Gt = refl
sign_read cmp.Ge = refl

pub at_most_again : AreByRule → AreReadAgain → (count : ℤ) → FitsSigned w64 count → IsReadAgain (form.AtMost count)
at_most_again rule again count fits =
    let number = number_word again Spaced count fits in
    line_read rule keyword.AtMost (signed_decimal count ∷ []) (word.Plain number.0 ∷ []) (form.AtMost count) (number.1.0, tt) (rw number.1.1 refl)
