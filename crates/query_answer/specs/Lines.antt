-- Answers as they are printed. A tab is the byte 9, and an LF is 10.
use Rattle.std.specs.Prelude.{ℕ, List, [], ◌∷◌, ◌++◌}
use Rattle.std.specs.List.{flat_map}
use Rattle.update_model.specs.declared.value.Value.{Value}
use Rattle.table_text.specs.declared.name_style.NameStyle.TheVariants.{Full}
use Rattle.table_text.specs.Values.{value_text}

-- the texts of these, each behind a mark
abbrev pub each_after : {X : Type 0} → ℕ → (X → List ℕ) → List X → List ℕ
each_after mark text xs = flat_map (λ x. mark ∷ text x) xs

-- the texts of these, with a mark between them
abbrev pub apart : {X : Type 0} → ℕ → (X → List ℕ) → List X → List ℕ
apart mark text [] = []
apart mark text (x ∷ xs) = text x ++ each_after mark text xs

-- the line of a row: its values as a dump has them, with tabs between them
abbrev pub row_line : List Value → List ℕ
row_line row = apart 9 (value_text Full) row ++ 10 ∷ []

-- a line for each row
abbrev pub lines_text : List (List Value) → List ℕ
lines_text rows = flat_map row_line rows
