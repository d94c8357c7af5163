-- The words of a query as they are printed, and which of them are read again.
use Rattle.std.specs.Prelude.{◌≡◌, ℕ, ◌≤◌, nat_lt, List, [], ◌∷◌, ◌++◌, length, map, FitsSigned, IsTrue, IsUtf8}
use Rattle.std.specs.Int.{w64}
use Rattle.std.specs.List.{AllByRecursion, list_all}
use Rattle.update_model.specs.Text.{IsText}
use Rattle.text_words.specs.declared.style.Style.TheVariants.{Punctuated}
use Rattle.expression_text.specs.Words.{plain_token}
use Rattle.expression_text.specs.declared.token.Token.{Token}
use Rattle.expression_text.specs.declared.token.Token.TheVariants as token
use Rattle.schema_text.specs.Printing.{behind_blanks, token_text, IsBare}
use Rattle.query.specs.declared.limits.TheConstants.{MAX_QUERY_BYTES}

-- words on one line, with a blank between them
abbrev pub words_text : List Token → List ℕ
words_text [] = []
words_text (word ∷ words) = token_text word ++ behind_blanks (map token_text words)

-- A word of a query: a keyword, a name or `*` is a word as it stands that is nothing else to an expression, without control characters; an integer has 64 bits,
-- as it has by its type; a text is one that a row may have; and no word is a bad one.
abbrev pub IsWordOfQuery : Token → Type 0
IsWordOfQuery (token.Column name) = IsBare Punctuated name × (plain_token name ≡ token.Column name) × IsTrue (list_all (nat_lt 31) name)
IsWordOfQuery (token.Integer n) = FitsSigned w64 n
IsWordOfQuery (token.Text bytes) = IsText bytes
IsWordOfQuery token.Bad = ⊥
IsWordOfQuery other = Unit {0}

-- Each is such a word, and their text is UTF-8 and not too long.
pub record IsPrintable (words : List Token) : Type 0 where
  pub each : AllByRecursion IsWordOfQuery words
  pub utf8 : IsUtf8 (words_text words)
  pub short : length (words_text words) ≤ MAX_QUERY_BYTES
