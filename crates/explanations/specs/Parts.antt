-- Parts of a text that a byte ends: the words of a list, which blanks end, and the lines of a text, which LFs end.
use Rattle.std.specs.Prelude.{ℕ, Bool, ◌==◌, List, [], ◌∷◌, bytes_eq, if◌then◌else◌}
use Rattle.std.specs.List.{list_any}
use Rattle.text_words.specs.Lines.{with_byte}

-- the parts, of which the last may lack the byte that ends it
unfoldable pub parts_of : ℕ → List ℕ → List (List ℕ)
parts_of end [] = []
parts_of end (byte ∷ rest) = if byte == end then [] ∷ parts_of end rest else with_byte byte (parts_of end rest)

-- one of these words is this one
abbrev pub has_word : List ℕ → List (List ℕ) → Bool
has_word word words = list_any (λ other. bytes_eq other word) words

-- a word is one of those of a list. A blank is the byte 32.
unfoldable pub stands_among : List ℕ → List ℕ → Bool
stands_among word list = has_word word (parts_of 32 list)
