-- The words of a query are read from what is printed of them.
use Rattle.std.proofs.Common.{◌≡◌, ℕ, Bool, true, false, List, [], ◌∷◌, length, Option, Some, None, cond, refl, sym, ap, ◌∙◌, ℤ}
use Rattle.std.specs.Prelude.{bytes_eq, codes, map, option_map, FitsSigned}
use Rattle.std.specs.Fmt.{signed_decimal}
use Rattle.std.specs.Int.{w64}
use Rattle.std.specs.List.{AllByRecursion}
use Rattle.std.proofs.lemmas.Bool.{le-leb}
use Rattle.std.proofs.lemmas.Slice.Eq.{bytes_eq-Decides}
use Rattle.std.proofs.lemmas.Str.{is_utf8-from_IsUtf8}
use Rattle.row_check.specs.declared.cmp.Cmp.{Cmp}
use Rattle.row_check.specs.declared.cmp.Cmp.TheVariants as cmp
use Rattle.text_words.specs.Integers.{int_of}
use Rattle.text_words.specs.Printing.{quoted}
use Rattle.text_words.specs.Words.{first_word, words_of, words_within}
use Rattle.text_words.specs.declared.literal.Literal.{Literal}
use Rattle.text_words.specs.declared.literal.Literal.TheVariants as literal
use Rattle.text_words.specs.declared.style.Style.TheVariants.{Punctuated}
use Rattle.text_words.specs.declared.word.Word.{Word}
use Rattle.text_words.specs.declared.word.Word.TheVariants as word
use Rattle.text_words.specs.Literals.{plain_literal, value_of}
use Rattle.expression_text.specs.Words.{plain_token, token_of}
use Rattle.expression_text.specs.declared.token.Token.{Token}
use Rattle.expression_text.specs.declared.token.Token.TheVariants as token
use Rattle.schema_text.specs.Printing.{token_text}
use Rattle.query.specs.Pieces.{unless_bad}
use Rattle.query_printing.specs.Printing.{IsWordOfQuery}
use Rattle.txn_printing.proofs.Values.{AreReadAgain}
use Rattle.txn_printing.proofs.Words.{AreEach, IsOneWord}

-- ---- integers are no keywords and no signs

differs : (bytes text : List ℕ) (n : ℤ) → int_of bytes ≡ Some n → int_of text ≡ None → bytes_eq bytes text ≡ false
differs bytes text n is none = by_test (bytes_eq bytes text) refl
  where
    by_test : (same : Bool) → bytes_eq bytes text ≡ same → same ≡ false
    by_test true e =
        let both : bytes ≡ text = (bytes_eq-Decides bytes text).0 e in
        let found : None ≡ Some n = sym none ∙ (ap int_of (sym both) ∙ is) in
        absurd cc
    by_test false e = refl

integer_token : (bytes : List ℕ) (n : ℤ) → int_of bytes ≡ Some n → plain_token bytes ≡ token.Integer n
integer_token bytes n is =
    rw (
      differs bytes (codes "AND") n is refl,
      differs bytes (codes "OR") n is refl,
      differs bytes (codes "NOT") n is refl,
      differs bytes (codes "IS") n is refl,
      differs bytes (codes "NULL") n is refl,
      differs bytes (codes "NATIVE") n is refl,
      differs bytes (codes "LEN") n is refl,
      differs bytes (codes "TRUE") n is refl,
      differs bytes (codes "FALSE") n is refl,
      differs bytes (codes "=") n is refl,
      differs bytes (codes "!=") n is refl,
      differs bytes (codes "<") n is refl,
      differs bytes (codes "<=") n is refl,
      differs bytes (codes ">") n is refl,
      differs bytes (codes ">=") n is refl,
      is,
    ) refl

-- ---- integers

abbrev literal_integer : ℤ → Option Literal → ℤ
literal_integer other (Some (literal.Integer n)) = n
literal_integer other found = other

integer_in : (bytes : List ℕ) (n : ℤ) → plain_literal bytes ≡ Some (literal.Integer n) → int_of bytes ≡ Some n
integer_in bytes n e = by_tests (bytes_eq bytes (codes "NULL")) (bytes_eq bytes (codes "TRUE")) (bytes_eq bytes (codes "FALSE")) (int_of bytes) e
  where
    by_tests : (a b c : Bool) (found : Option ℤ) → cond a (Some literal.Null) (cond b (Some (literal.Flag true)) (cond c (Some (literal.Flag false)) (option_map (λ m. literal.Integer m) found))) ≡ Some (literal.Integer n) → found ≡ Some n
    by_tests true b c found e = absurd cc
    by_tests false true c found e = absurd cc
    by_tests false false true found e = absurd cc
    by_tests false false false None e = absurd cc
    by_tests false false false (Some m) e = ap (λ (found : Option Literal). Some (literal_integer m found)) e

number_word : AreReadAgain → (n : ℤ) → FitsSigned w64 n → (bytes : List ℕ) × IsOneWord Punctuated (signed_decimal n) (word.Plain bytes) × (int_of bytes ≡ Some n)
number_word again n fits = by_word (again Punctuated (literal.Integer n) fits)
  where
    by_word : (w : Word) × (words_of Punctuated (signed_decimal n) ≡ Some (w ∷ [])) × (value_of w ≡ Some (literal.Integer n))
        → (bytes : List ℕ) × IsOneWord Punctuated (signed_decimal n) (word.Plain bytes) × (int_of bytes ≡ Some n)
    by_word (word.Plain bytes, one, is) = (bytes, one, integer_in bytes n is)
    by_word (word.Quoted bytes, one, is) = absurd cc
    by_word (word.Open, one, is) = absurd cc
    by_word (word.Close, one, is) = absurd cc
    by_word (word.Comma, one, is) = absurd cc

-- ---- words

-- a word that is this token
abbrev Spells : Token → Type 0
Spells t = (w : Word) × IsOneWord Punctuated (token_text t) w × (token_of w ≡ t)

sign_word : (sign : Cmp) → Spells (token.Sign sign)
unfolding words_within first_word
sign_word cmp.Eq = (word.Plain (codes "="), refl, refl)
sign_word cmp.Ne = (word.Plain (codes "!="), refl, refl)
sign_word cmp.Lt = (word.Plain (codes "<"), refl, refl)
sign_word cmp.Le = (word.Plain (codes "<="), refl, refl)
sign_word cmp.Gt = (word.Plain (codes ">"), refl, refl)
sign_word cmp.Ge = (word.Plain (codes ">="), refl, refl)

abbrev text_in : List ℕ → Option Literal → List ℕ
text_in other (Some (literal.Text bytes)) = bytes
text_in other found = other

-- no word without quotes writes a text
no_text : (read bytes : List ℕ) → plain_literal read ≡ Some (literal.Text bytes) → ⊥
no_text read bytes e = by_tests (bytes_eq read (codes "NULL")) (bytes_eq read (codes "TRUE")) (bytes_eq read (codes "FALSE")) (int_of read) e
  where
    by_tests : (a b c : Bool) (found : Option ℤ)
        → cond a (Some literal.Null) (cond b (Some (literal.Flag true)) (cond c (Some (literal.Flag false)) (option_map (λ m. literal.Integer m) found))) ≡ Some (literal.Text bytes) → ⊥
    by_tests true b c found e = cc
    by_tests false true c found e = cc
    by_tests false false true found e = cc
    by_tests false false false None e = cc
    by_tests false false false (Some m) e = cc

text_word : AreReadAgain → (bytes : List ℕ) → Spells (token.Text bytes)
text_word again bytes = by_word (again Punctuated (literal.Text bytes) tt)
  where
    by_word : (w : Word) × (words_of Punctuated (quoted bytes) ≡ Some (w ∷ [])) × (value_of w ≡ Some (literal.Text bytes)) → Spells (token.Text bytes)
    by_word (word.Quoted read, one, is) = (word.Quoted read, one, ap (λ (found : Option Literal). token.Text (text_in read found)) is)
    by_word (word.Plain read, one, is) = absurd (no_text read bytes is)
    by_word (word.Open, one, is) = absurd cc
    by_word (word.Close, one, is) = absurd cc
    by_word (word.Comma, one, is) = absurd cc

token_word : AreReadAgain → (t : Token) → IsWordOfQuery t → Spells t
unfolding words_within first_word
token_word again (token.Column name) is = (word.Plain name, is.0, is.1)
token_word again (token.Integer n) is = let number = number_word again n is in (word.Plain number.0, number.1, integer_token number.0 n number.2)
token_word again (token.Text bytes) is = text_word again bytes
token_word again (token.Flag true) is = (word.Plain (codes "TRUE"), refl, refl)
token_word again (token.Flag false) is = (word.Plain (codes "FALSE"), refl, refl)
token_word again (token.Sign sign) is = sign_word sign
token_word again token.And is = (word.Plain (codes "AND"), refl, refl)
token_word again token.Or is = (word.Plain (codes "OR"), refl, refl)
token_word again token.Not is = (word.Plain (codes "NOT"), refl, refl)
token_word again token.Is is = (word.Plain (codes "IS"), refl, refl)
token_word again token.Null is = (word.Plain (codes "NULL"), refl, refl)
token_word again token.Native is = (word.Plain (codes "NATIVE"), refl, refl)
token_word again token.Len is = (word.Plain (codes "LEN"), refl, refl)
token_word again token.Open is = (word.Open, refl, refl)
token_word again token.Close is = (word.Close, refl, refl)
token_word again token.Comma is = (word.Comma, refl, refl)
token_word again token.Bad is = absurd is

-- a word of a query is no bad one
not_bad : (t : Token) → IsWordOfQuery t → unless_bad t ≡ t
not_bad (token.Column name) is = refl
not_bad (token.Integer n) is = refl
not_bad (token.Text bytes) is = rw (le-leb (length bytes) 1024 is.0, is_utf8-from_IsUtf8 bytes is.1) refl
not_bad (token.Flag flag) is = refl
not_bad (token.Sign sign) is = refl
not_bad token.And is = refl
not_bad token.Or is = refl
not_bad token.Not is = refl
not_bad token.Is is = refl
not_bad token.Null is = refl
not_bad token.Native is = refl
not_bad token.Len is = refl
not_bad token.Open is = refl
not_bad token.Close is = refl
not_bad token.Comma is = refl
not_bad token.Bad is = absurd is

-- what a word is read as
abbrev pub token_read : Word → Token
token_read w = unless_bad (token_of w)

-- words that are read as these
abbrev pub AreWritten : List Token → Type 0
AreWritten tokens = (words : List Word) × AreEach Punctuated (map token_text tokens) words × (map token_read words ≡ tokens)

pub tokens_written : AreReadAgain → (tokens : List Token) → AllByRecursion IsWordOfQuery tokens → AreWritten tokens
tokens_written again [] all = ([], tt, refl)
tokens_written again (t ∷ ts) all =
    let first = token_word again t all.0 in
    let others = tokens_written again ts all.1 in
    let read : token_read first.0 ≡ t = ap unless_bad first.2 ∙ not_bad t all.0 in
    (first.0 ∷ others.0, (first.1, others.1), rw (read, others.2) refl)
