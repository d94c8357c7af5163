-- Lines of a text. LF is the byte 10, and CR is 13.
use Rattle.std.specs.Prelude.{◌≡◌, ◌≢◌, ℕ, ◌<◌, Bool, false, ◌&&◌, ◌==◌, List, [], ◌∷◌, ◌++◌, length, if◌then◌else◌, ◌⊎◌}
use Rattle.std.specs.List.{AllByRecursion}

abbrev pub is_lf : ℕ → Bool
is_lf byte = byte == 10

-- the next byte is an LF
abbrev pub begins_with_lf : List ℕ → Bool
begins_with_lf [] = false
begins_with_lf (byte ∷ rest) = is_lf byte

-- these lines with a byte more at the front of the first, or a line of that byte where there are none
abbrev pub with_byte : ℕ → List (List ℕ) → List (List ℕ)
with_byte byte [] = (byte ∷ []) ∷ []
with_byte byte (line ∷ lines) = (byte ∷ line) ∷ lines

-- The lines of a text: each LF ends one, a CR directly before an LF is passed over, and what stands after the last LF
-- is a line unless it is empty.
unfoldable pub lines_of : List ℕ → List (List ℕ)
lines_of [] = []
lines_of (byte ∷ rest) =
    if is_lf byte then [] ∷ lines_of rest
    else if byte == 13 && begins_with_lf rest then lines_of rest
    else with_byte byte (lines_of rest)

-- the last byte is no CR
abbrev pub EndsInNoCr : List ℕ → Type 0
EndsInNoCr line = (front : List ℕ) → line ≢ front ++ 13 ∷ []

-- the same without one CR at its end, where it has one
abbrev pub LosesCr : List ℕ → List ℕ → Type 0
LosesCr line less = (line ≡ less ++ 13 ∷ []) ⊎ ((less ≡ line) × EndsInNoCr line)

-- What may end a line before the rest of a text: an LF where the line does not end in a CR, a CR and an LF, or
-- nothing at the text's end where the line is not empty.
pub data MayEnd : List ℕ → List ℕ → List ℕ → Type 0 where
  lf : (line rest : List ℕ) → EndsInNoCr line → MayEnd line (10 ∷ []) rest
  cr_lf : (line rest : List ℕ) → MayEnd line (13 ∷ 10 ∷ []) rest
  text_end : (line : List ℕ) → 0 < length line → MayEnd line [] []

-- A text is a line without an LF, what ends it, and the rest.
pub record Begins (text line rest : List ℕ) : Type 0 where
  pub end : List ℕ
  pub no_lf : AllByRecursion (λ byte. byte ≢ 10) line
  pub may_end : MayEnd line end rest
  pub parts : text ≡ line ++ (end ++ rest)

-- The lines of a text, said of whole lines: the first line, and the lines of the rest.
pub data AreLines : List ℕ → List (List ℕ) → Type 0 where
  no_line : AreLines [] []
  one_line : (text line rest : List ℕ) (lines : List (List ℕ)) → Begins text line rest → AreLines rest lines → AreLines text (line ∷ lines)
