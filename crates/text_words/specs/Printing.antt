-- Values as they are printed.
use Rattle.std.specs.Prelude.{ℕ, ◌/◌, ◌%◌, ◌||◌, ◌==◌, nat_lt, List, [], ◌∷◌, ◌++◌, if◌then◌else◌, codes, FitsSigned}
use Rattle.std.specs.Char.{digit_char}
use Rattle.std.specs.Fmt.{signed_decimal}
use Rattle.std.specs.Int.{w64}
use Rattle.std.specs.List.{flat_map}
use Rattle.text_words.specs.declared.literal.Literal.{Literal}
use Rattle.text_words.specs.declared.literal.Literal.TheVariants.{Null, Integer, Text, Flag}

-- `\x` and two lower-case digits
abbrev pub hex_escaped : ℕ → List ℕ
hex_escaped byte = 92 ∷ 120 ∷ digit_char (byte / 16) ∷ digit_char (byte % 16) ∷ []

-- One byte of a text: escaped where it is a quote, a backslash, below 32 or 127, and else as it is.
abbrev pub escaped : ℕ → List ℕ
escaped byte =
    if byte == 34 then 92 ∷ 34 ∷ []
    else if byte == 92 then 92 ∷ 92 ∷ []
    else if byte == 10 then 92 ∷ 110 ∷ []
    else if byte == 9 then 92 ∷ 116 ∷ []
    else if nat_lt byte 32 || byte == 127 then hex_escaped byte
    else byte ∷ []

-- a text in quotes
abbrev pub quoted : List ℕ → List ℕ
quoted text = 34 ∷ (flat_map escaped text ++ (34 ∷ []))

-- a value
abbrev pub literal_text : Literal → List ℕ
literal_text Null = codes "NULL"
literal_text (Integer n) = signed_decimal n
literal_text (Text text) = quoted text
literal_text (Flag flag) = if flag then codes "TRUE" else codes "FALSE"

-- A value that there is: its integer is one of 64 bits.
abbrev pub IsLiteral : Literal → Type 0
IsLiteral Null = Unit {0}
IsLiteral (Integer n) = FitsSigned w64 n
IsLiteral (Text text) = Unit {0}
IsLiteral (Flag flag) = Unit {0}
