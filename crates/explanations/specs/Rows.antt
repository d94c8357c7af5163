-- A text in rows. A blank is the byte 32, an LF is 10, and `{` and `}` are 123 and 125.
use Rattle.std.specs.Prelude.{◌≡◌, ℕ, ◌+◌, ◌≤◌, Bool, false, ◌||◌, ◌==◌, nat_lt, List, [], ◌∷◌, ◌++◌, length, codes, if◌then◌else◌}
use Rattle.std.specs.List.{Contains}

-- the byte behind this one stands between braces
abbrev pub is_inside : Bool → ℕ → Bool
is_inside inside byte = if byte == 123 || byte == 125 then byte == 123 else inside

-- a word with a byte more, or between braces with what that stands for
abbrev pub with_byte : (ℕ → List ℕ) → Bool → List ℕ → ℕ → List ℕ
with_byte value inside word byte =
    if byte == 123 || byte == 125 then word
    else if inside then word ++ value byte
    else word ++ byte ∷ []

-- the words of a text behind one that was begun; a blank ends one
abbrev pub words_from : (ℕ → List ℕ) → Bool → List ℕ → List ℕ → List (List ℕ)
words_from value inside word [] = word ∷ []
words_from value inside word (byte ∷ text) =
    if byte == 32 then word ∷ words_from value false [] text
    else words_from value (is_inside inside byte) (with_byte value inside word byte) text

-- the words of a text, in which each letter between braces is what it stands for
abbrev pub words_of : (ℕ → List ℕ) → List ℕ → List (List ℕ)
words_of value text = words_from value false [] text

-- a row and a word that are too long together
abbrev pub is_too_long : List ℕ → List ℕ → Bool
is_too_long row word = nat_lt 78 (length row + length word)

-- the row that ends before a word, where one does
abbrev pub ended : List ℕ → List ℕ → List ℕ
ended row word = if is_too_long row word then row ++ 10 ∷ [] else []

-- the row that a word is in
abbrev pub begun : List ℕ → List ℕ → List ℕ
begun row word = (if is_too_long row word then codes "    " else row) ++ 32 ∷ word

-- Words in rows, of which the first was begun. A word goes into the row where it has room.
abbrev pub laid : List ℕ → List (List ℕ) → List ℕ
laid row [] = row ++ 10 ∷ []
laid row (word ∷ words) = ended row word ++ laid (begun row word) words

-- the rows themselves
abbrev pub rows_of : List ℕ → List (List ℕ) → List (List ℕ)
rows_of row [] = row ∷ []
rows_of row (word ∷ words) = if is_too_long row word then row ∷ rows_of (begun row word) words else rows_of (begun row word) words

-- a row as it is laid out, with an LF behind it
abbrev pub ended_row : List ℕ → List ℕ
ended_row row = row ++ 10 ∷ []

-- A row has at most 79 bytes, or is what the first one begins with, or has one of the words alone behind its blanks.
pub data IsShortRow (front : List ℕ) (words : List (List ℕ)) (row : List ℕ) : Type 0 where
  narrow : length row ≤ 79 → IsShortRow front words row
  front_alone : row ≡ front → IsShortRow front words row
  one_word : (word : List ℕ) → Contains words word → row ≡ codes "    " ++ 32 ∷ word → IsShortRow front words row
