-- A text of words on one line has these words.
use Rattle.std.proofs.Common.{◌≡◌, ◌≢◌, ℕ, zero, suc, nat_lt, true, false, List, [], ◌∷◌, ◌++◌, length, Option, Some, None, Ok, refl, sym, ap, subst, ◌∙◌, append-nil, arith}
use Rattle.std.specs.Prelude.{codes, map}
use Rattle.std.specs.List.{AllByRecursion, list_all}
use Rattle.std.proofs.lemmas.Bool.{and_parts, ltb-true}
use Rattle.row_check.specs.declared.cmp.Cmp.{Cmp}
use Rattle.row_check.specs.declared.cmp.Cmp.TheVariants as cmp
use Rattle.text_words.specs.Lines.{lines_of}
use Rattle.text_words.specs.Words.{Read, first_word, skip_blanks, with_word, words_of, words_within}
use Rattle.text_words.specs.declared.style.Style.TheVariants.{Punctuated}
use Rattle.text_words.specs.declared.word.Word.{Word}
use Rattle.text_words.proofs.LinesLemmas.{at_end}
use Rattle.text_words.proofs.WordsLemmas.{onward}
use Rattle.expression_text.specs.declared.token.Token.{Token}
use Rattle.expression_text.specs.declared.token.Token.TheVariants as token
use Rattle.schema.specs.Data.{SchemaData}
use Rattle.schema_text.specs.Printing.{behind_blanks, sign_text, token_text}
use Rattle.query.specs.Pieces.{pieces_of, pieces_of_line, pieces_of_lines, pieces_within, spot_at, token_by, with_first}
use Rattle.query.specs.Queries.{QueryData, Reads, Say}
use Rattle.query_printing.specs.Printing.{IsPrintable, IsWordOfQuery, words_text}
use Rattle.query_printing.proofs.Tokens.{AreWritten, token_read, tokens_written}
use Rattle.txn_printing.proofs.Values.{AreAsPrinted, AreReadAgain, all_join, integer_stands}
use Rattle.txn_printing.proofs.Bytes.{IsPrinted, quoted_printed, stands_printed}
use Rattle.txn_printing.proofs.Words.{AreByRule, behind_blanks as spaced, behind_first, words_read}

-- what the laws of words and values say
pub record Laws : Type 0 where
  pub rule : AreByRule
  pub printed : AreAsPrinted
  pub again : AreReadAgain

abbrev some_words : List Word → Option (List Word)
some_words words = Some words

-- ---- the words of a line

abbrev words_in : Option (List Word) → List Word
words_in None = []
words_in (Some words) = words

module _ (n number total : ℕ) where
  -- words that were read are the pieces
  abbrev AreRead : List ℕ → Type 0
  AreRead start = (ws : List Word) → words_within n Punctuated start ≡ Some ws → (pieces_within n number total start).0 ≡ map token_read ws

  by_rest : (read : Read) (rest : Option (List Word)) (ws : List Word) → words_within n Punctuated (skip_blanks read.1) ≡ rest → with_word read.0 rest ≡ Some ws → AreRead (skip_blanks read.1)
      → token_read read.0 ∷ (pieces_within n number total (skip_blanks read.1)).0 ≡ map token_read ws
  by_rest read None ws at e are = absurd cc
  by_rest read (Some vs) ws at e are = ap (λ (ts : List Token). token_read read.0 ∷ ts) (are vs at) ∙ ap (λ (all : List Word). map token_read all) (ap words_in e)

  by_read : (start : List ℕ) (read : Option Read) (ws : List Word) → onward (words_within n Punctuated) read ≡ Some ws → ((rest : List ℕ) → AreRead rest)
      → (with_first (token_by read).0 (spot_at number total start) (pieces_within n number total (token_by read).1)).0 ≡ map token_read ws
  by_read start None ws e are = absurd cc
  by_read start (Some read) ws e are = by_rest read (words_within n Punctuated (skip_blanks read.1)) ws refl e (are (skip_blanks read.1))

words_pieces : (n number total : ℕ) (start : List ℕ) (ws : List Word) → words_within n Punctuated start ≡ Some ws → (pieces_within n number total start).0 ≡ map token_read ws
unfolding words_within pieces_within
words_pieces n number total [] ws e = ap (λ (all : List Word). map token_read all) (ap words_in e)
words_pieces zero number total (b ∷ bs) ws e = absurd cc
words_pieces (suc n) number total (b ∷ bs) ws e = by_read n number total (b ∷ bs) (first_word Punctuated (b ∷ bs)) ws e (λ rest vs is. words_pieces n number total rest vs is)

no_lf : (line : List ℕ) → AllByRecursion IsPrinted line → AllByRecursion (λ byte. byte ≢ 10) line
no_lf [] all = tt
no_lf (b ∷ bs) all = let low = all.0 in ((λ same. omega (arith, low, same)), no_lf bs all.1)

line_pieces : (text : List ℕ) (ws : List Word) → AllByRecursion IsPrinted text → words_of Punctuated text ≡ Some ws → (pieces_of text).0 ≡ map token_read ws
unfolding lines_of words_within
line_pieces [] ws printed e = ap (λ (all : List Word). map token_read all) (ap words_in e)
line_pieces (b ∷ bs) ws printed e =
    let text = b ∷ bs in
    ap (λ (lines : List (List ℕ)). (pieces_of_lines 1 lines).0) (at_end b bs (no_lf text printed))
    ∙ append-nil (pieces_of_line 1 text).0
    ∙ words_pieces (length text) 1 (length text) (skip_blanks text) ws e

-- ---- bytes that are printed

tested : (text : List ℕ) → list_all (nat_lt 31) text ≡ true → AllByRecursion IsPrinted text
tested [] e = tt
tested (b ∷ bs) e = let parts = and_parts (nat_lt 31 b) (list_all (nat_lt 31) bs) e in (ltb-true 31 b parts.0, tested bs parts.1)

sign_printed : (sign : Cmp) → AllByRecursion IsPrinted (sign_text sign)
sign_printed cmp.Eq = tested (codes "=") refl
sign_printed cmp.Ne = tested (codes "!=") refl
sign_printed cmp.Lt = tested (codes "<") refl
sign_printed cmp.Le = tested (codes "<=") refl
sign_printed cmp.Gt = tested (codes ">") refl
sign_printed cmp.Ge = tested (codes ">=") refl

token_printed : (t : Token) → IsWordOfQuery t → AllByRecursion IsPrinted (token_text t)
token_printed (token.Column name) is = tested name is.2
token_printed (token.Integer n) is = stands_printed (token_text (token.Integer n)) (integer_stands n is)
token_printed (token.Text bytes) is = quoted_printed bytes
token_printed (token.Flag true) is = tested (codes "TRUE") refl
token_printed (token.Flag false) is = tested (codes "FALSE") refl
token_printed (token.Sign sign) is = sign_printed sign
token_printed token.And is = tested (codes "AND") refl
token_printed token.Or is = tested (codes "OR") refl
token_printed token.Not is = tested (codes "NOT") refl
token_printed token.Is is = tested (codes "IS") refl
token_printed token.Null is = tested (codes "NULL") refl
token_printed token.Native is = tested (codes "NATIVE") refl
token_printed token.Len is = tested (codes "LEN") refl
token_printed token.Open is = tested (codes "(") refl
token_printed token.Close is = tested (codes ")") refl
token_printed token.Comma is = tested (codes ",") refl
token_printed token.Bad is = absurd is

others_printed : (tokens : List Token) → AllByRecursion IsWordOfQuery tokens → AllByRecursion IsPrinted (behind_blanks (map token_text tokens))
others_printed [] each = tt
others_printed (t ∷ ts) each = (omega arith, all_join IsPrinted (token_text t) (behind_blanks (map token_text ts)) (token_printed t each.0) (others_printed ts each.1))

words_printed : (tokens : List Token) → AllByRecursion IsWordOfQuery tokens → AllByRecursion IsPrinted (words_text tokens)
words_printed [] each = tt
words_printed (t ∷ ts) each = all_join IsPrinted (token_text t) (behind_blanks (map token_text ts)) (token_printed t each.0) (others_printed ts each.1)

-- ---- texts

same_blanks : (texts : List (List ℕ)) → spaced texts ≡ behind_blanks texts
same_blanks [] = refl
same_blanks (text ∷ texts) = ap (λ (rest : List ℕ). 32 ∷ (text ++ rest)) (same_blanks texts)

text_words_are : Laws → (tokens : List Token) (written : AreWritten tokens) → words_of Punctuated (words_text tokens) ≡ Some written.0
unfolding words_within
text_words_are laws [] written = first_none written.0 written.2
  where
    first_none : (ws : List Word) → map token_read ws ≡ [] → some_words [] ≡ Some ws
    first_none [] e = refl
    first_none (w ∷ ws) e = absurd cc
text_words_are laws (t ∷ ts) written =
    let texts = map token_text (t ∷ ts) in
    let spelled : words_of Punctuated (behind_blanks texts) ≡ Some written.0 = ap (words_of Punctuated) (sym (same_blanks texts)) ∙ words_read laws.rule Punctuated texts written.0 written.1 in
    behind_first Punctuated (words_text (t ∷ ts)) written.0 spelled

pub words_again : Laws → (words : List Token) → IsPrintable words → (pieces_of (words_text words)).0 ≡ words
words_again laws words is =
    let written = tokens_written laws.again words is.each in
    line_pieces (words_text words) written.0 (words_printed words is.each) (text_words_are laws words written) ∙ written.2

pub reads_again : Laws → (schema : SchemaData) (words : List Token) (query : QueryData) → IsPrintable words → Say schema.tables words (Ok query) → Reads schema (words_text words) query
reads_again laws schema words query is says = record {
  few = is.short;
  utf8 = is.utf8;
  says = subst (λ (ws : List Token). Say schema.tables ws (Ok query)) (sym (words_again laws words is)) says;
}
