-- The rows of each table, in order.
use Rattle.std.specs.Prelude.{◌≡◌, ℕ, List, [], ◌∷◌, length, map, filter, Option, Some, None, slice_get}
use Rattle.std.specs.List.Sorted.{IsPermutation, IsStrictlySortedBy}
use Rattle.table_model.specs.declared.shown_row.ShownRow.{ShownRow}
use Rattle.table_model.specs.declared.void_line.VoidLine.{VoidLine}
use Rattle.table_model.specs.Tables.{listed, name_cmp}
use Rattle.table_model.specs.Verdicts.{in_table}
use Rattle.table_model.specs.Visible.{TableRow}

-- In rising order of names, these are the rows of a table among others.
pub record AreRowsAmong (rows : List TableRow) (number : ℕ) (shown : List ShownRow) : Type 0 where
  pub rising : IsStrictlySortedBy name_cmp (map (λ row. row.name) shown)
  pub exact : IsPermutation shown (map listed (filter (in_table number) rows))

-- For each number below a count the rows of that table, in rising order of names.
pub record AreLists (count : ℕ) (rows : List TableRow) (lists : List (List ShownRow)) : Type 0 where
  pub number : length lists ≡ count
  pub rows_of : (number : ℕ) (shown : List ShownRow) → slice_get lists number ≡ Some shown → AreRowsAmong rows number shown

-- the line that there is, if any
abbrev pub line_of : Option VoidLine → List VoidLine
line_of None = []
line_of (Some line) = line ∷ []
