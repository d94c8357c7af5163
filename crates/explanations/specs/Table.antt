-- A table of refusals: lines by twos, a key and what it means.
use Rattle.std.specs.Prelude.{ℕ, List, [], ◌∷◌, ◌++◌, Option, Some, None, option_map, codes}
use Rattle.text_words.specs.Lines.{lines_of}
use Rattle.explanations.specs.declared.marks.Marks.{Marks}
use Rattle.explanations.specs.Matching.{numbers_of}

-- this entry, or else another
abbrev pub or_entry : Option (Marks × List ℕ) → Option (Marks × List ℕ) → Option (Marks × List ℕ)
or_entry (Some entry) other = Some entry
or_entry None other = other

-- what the first key among these lines means that a line is as, and the numbers of the line
abbrev pub entry_in : List ℕ → List (List ℕ) → Option (Marks × List ℕ)
entry_in said [] = None
entry_in said (key ∷ []) = None
entry_in said (key ∷ text ∷ lines) = or_entry (option_map (λ marks. (marks, text)) (numbers_of key said)) (entry_in said lines)

-- the entry of a table
abbrev pub entry_of : List ℕ → List ℕ → Option (Marks × List ℕ)
entry_of table said = entry_in said (lines_of table)

-- the entry of a table for this command alone, or else for all
abbrev pub entry_for : List ℕ → List ℕ → List ℕ → Option (Marks × List ℕ)
entry_for table command said = or_entry (entry_of table ((command ++ codes ": ") ++ said)) (entry_of table said)
