-- Answers as comma-separated values. A quote is the byte 34, a comma is 44, and an LF is 10.
use Rattle.std.specs.Prelude.{ℕ, ◌≢◌, ◌==◌, if◌then◌else◌, List, [], ◌∷◌, ◌++◌, Option, None, Some, option_map}
use Rattle.std.specs.List.{flat_map}
use Rattle.update_model.specs.declared.value.Value.{Value}
use Rattle.update_model.specs.declared.value.Value.TheVariants.{Null, Int, Text, Flag, Row, Own}
use Rattle.table_text.specs.declared.name_style.NameStyle.TheVariants.{Full}
use Rattle.table_text.specs.Values.{value_text}
use Rattle.query_answer.specs.Answers.{AnswerData}
use Rattle.query_answer.specs.Lines.{apart}

-- one byte of a text: a quote twice, and every other byte as it is, the byte 0 too
abbrev pub csv_byte : ℕ → List ℕ
csv_byte byte = if byte == 34 then 34 ∷ 34 ∷ [] else byte ∷ []

-- a text in quotes
abbrev pub csv_quoted : List ℕ → List ℕ
csv_quoted text = 34 ∷ (flat_map csv_byte text ++ 34 ∷ [])

-- a value: nothing for null, a text in quotes, and else as a dump has it
abbrev pub csv_value : Value → List ℕ
csv_value Null = []
csv_value (Int n) = value_text Full (Int n)
csv_value (Text text) = csv_quoted text
csv_value (Flag flag) = value_text Full (Flag flag)
csv_value (Row name) = value_text Full (Row name)
csv_value (Own index) = value_text Full (Own index)

-- the line of a row
abbrev pub csv_line : List Value → List ℕ
csv_line row = apart 44 csv_value row ++ 10 ∷ []

-- a name of a column, as it was asked for
abbrev pub csv_name : List ℕ → List ℕ
csv_name name = name

-- the line of the names of columns
abbrev pub csv_header : List (List ℕ) → List ℕ
csv_header names = apart 44 csv_name names ++ 10 ∷ []

-- the header, and a line for each row
abbrev pub csv_text : AnswerData → List ℕ
csv_text answer = csv_header answer.columns ++ flat_map csv_line answer.rows

-- ---- reading a text

-- a text with one more byte in front, and what follows it
abbrev pub with_byte : ℕ → List ℕ × List ℕ → List ℕ × List ℕ
with_byte byte read = (byte ∷ read.0, read.1)

-- the text up to the quote that ends it, and what follows that; two quotes are one of the text
unfoldable pub text_within : List ℕ → Option (List ℕ × List ℕ)
text_within [] = None
text_within (byte ∷ []) = if byte == 34 then Some ([], []) else None
text_within (byte ∷ next ∷ rest) =
    if byte == 34 then (if next == 34 then option_map (with_byte 34) (text_within rest) else Some ([], next ∷ rest))
    else option_map (with_byte byte) (text_within (next ∷ rest))

-- the text in quotes that stands first, as a reader of comma-separated values takes it, and what follows it
abbrev pub text_at : List ℕ → Option (List ℕ × List ℕ)
text_at [] = None
text_at (byte ∷ rest) = if byte == 34 then text_within rest else None

-- No quote stands first.
abbrev pub BeginsOther : List ℕ → Type 0
BeginsOther [] = Unit {0}
BeginsOther (byte ∷ rest) = byte ≢ 34
