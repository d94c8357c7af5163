-- What the words and texts of an expression have to be before it is built.
use Rattle.std.specs.Prelude.{ℕ, ◌≤◌, List, length, unwrap_or}
use Rattle.std.specs.List.{position, Contains}
use Rattle.std.specs.Str.{bytes_eq}
use Rattle.update_model.specs.declared.limits.TheConstants.{MAX_TEXT}
use Rattle.update_model.specs.Text.{IsText}
use Rattle.expression_text.specs.declared.token.Token.{Token}
use Rattle.expression_text.specs.declared.token.Token.TheVariants as token

-- the number of the column with this name, the first one's where several have it
abbrev pub column_in : List (List ℕ) → List ℕ → ℕ
column_in names name = unwrap_or (position (bytes_eq name) names) 0

-- a word that stands for a column is one of these names
abbrev pub IsKnown : List (List ℕ) → Token → Type 0
IsKnown names (token.Column name) = Contains names name
IsKnown names other = Unit {0}

-- a text has no more bytes than one in a row may have
abbrev pub HasShortText : Token → Type 0
HasShortText (token.Text bytes) = length bytes ≤ MAX_TEXT
HasShortText other = Unit {0}

-- a text is one that may stand in a row: at most MAX_TEXT bytes of UTF-8
abbrev pub HasRowText : Token → Type 0
HasRowText (token.Text bytes) = IsText bytes
HasRowText other = Unit {0}
