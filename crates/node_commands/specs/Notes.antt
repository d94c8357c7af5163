-- The notes of updates.
use Rattle.std.specs.Prelude.{ℕ, ◌==◌, Bool, not, List, [], ◌∷◌, ◌++◌, length, map, filter, Option, Some, None}
use Rattle.std.specs.List.{flat_map}
use Rattle.std.specs.List.Sorted.{IsPermutation, IsStrictlySortedBy}
use Rattle.hex.specs.Hex.{encode_lower}
use Rattle.text_words.specs.Printing.{quoted}
use Rattle.update_model.specs.Entry.{id_cmp}
use Rattle.update_codec.specs.Parts.{id_of, note_of}

-- the text of a note, which is empty where there is none
abbrev pub text_in : Option (List ℕ) → List ℕ
text_in None = []
text_in (Some text) = text

-- the text of an update's note
abbrev pub note_text : List ℕ → List ℕ
note_text bytes = text_in (note_of bytes)

-- whether an update has a note that is not empty
abbrev pub is_noted : List ℕ → Bool
is_noted bytes = not (length (note_text bytes) == 0)

-- In rising order of ids, these are the updates of a list whose note is not empty.
pub record AreNoted (members noted : List (List ℕ)) : Type 0 where
  pub rising : IsStrictlySortedBy id_cmp (map id_of noted)
  pub exact : IsPermutation noted (filter is_noted members)

-- the line of an update's note: the id in lower-case hexadecimal, a space, and the note as a text in quotes
abbrev pub note_line : List ℕ → List ℕ
note_line bytes = encode_lower (id_of bytes).0 ++ (32 ∷ (quoted (note_text bytes) ++ 10 ∷ []))

-- the lines of these updates
abbrev pub note_lines : List (List ℕ) → List ℕ
note_lines noted = flat_map note_line noted
