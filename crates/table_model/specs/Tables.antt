-- The tables of a set of updates, and its updates that do nothing.
use Rattle.std.specs.Prelude.{◌≡◌, ℕ, List, [], ◌∷◌, ◌++◌, length, map, filter, Some, slice_get}
use Rattle.std.specs.List.{IsDistinct}
use Rattle.std.specs.Ordering.{eq_by_cmp}
use Rattle.std.specs.List.Sorted.{IsStrictlySortedBy, IsPermutation}
use Rattle.update_model.specs.declared.update_id.UpdateId.{UpdateId}
use Rattle.update_model.specs.Entry.{id_cmp}
use Rattle.update_model.specs.Node.{NodeData}
use Rattle.table_model.specs.declared.shown_row.ShownRow.{ShownRow}
use Rattle.table_model.specs.declared.verdict.Verdict.{Verdict}
use Rattle.table_model.specs.declared.verdict.Verdict.TheVariants as verdict
use Rattle.table_model.specs.declared.void_line.VoidLine.{VoidLine}
pub use Rattle.table_model.specs.Visible.{name_cmp}
use Rattle.table_model.specs.Visible.{Rules, TableRow}
use Rattle.table_model.specs.Verdicts.{Judged, judged, in_table}
use Rattle.table_model.specs.Invariants.{shown_in}

-- No two rows have one name.
abbrev pub HasDistinctNames : List ShownRow → Type 0
HasDistinctNames rows = IsDistinct (eq_by_cmp name_cmp) (map (λ row. row.name) rows)

-- No two inserted rows have one name.
abbrev pub HasDistinctRows : List TableRow → Type 0
HasDistinctRows rows = IsDistinct (eq_by_cmp name_cmp) (map (λ row. row.name) rows)

-- No two lines have one id.
abbrev pub HasDistinctIds : List VoidLine → Type 0
HasDistinctIds lines = IsDistinct (eq_by_cmp id_cmp) (map (λ line. line.id) lines)

-- a row as a table lists it
abbrev pub listed : TableRow → ShownRow
listed row = record { name = row.name; values = row.values }

-- the rows of the table with this number that a closed list shows
abbrev pub listed_in : Rules → List NodeData → ℕ → List ShownRow
listed_in rules nodes number = map listed (filter (in_table number) (shown_in rules nodes))

-- the line of an update that does nothing
abbrev pub void_line : UpdateId → Verdict → List VoidLine
void_line id verdict.Valid = []
void_line id (verdict.Void reason operation) = record { id = id; reason = reason; operation = operation } ∷ []

-- those of all of them
abbrev pub void_lines : List Judged → List VoidLine
void_lines [] = []
void_lines (j ∷ js) = void_line j.node.id j.verdict ++ void_lines js

-- In rising order of names, these are the rows that a closed list shows in a table.
pub record AreRowsIn (rules : Rules) (nodes : List NodeData) (number : ℕ) (rows : List ShownRow) : Type 0 where
  pub rising : IsStrictlySortedBy name_cmp (map (λ row. row.name) rows)
  pub exact : IsPermutation rows (listed_in rules nodes number)

-- In rising order of ids, these are the updates of a closed list that do nothing.
pub record AreVoidsIn (rules : Rules) (nodes : List NodeData) (lines : List VoidLine) : Type 0 where
  pub rising : IsStrictlySortedBy id_cmp (map (λ line. line.id) lines)
  pub exact : IsPermutation lines (void_lines (judged rules nodes))

-- The tables of a closed list: the rows of each table of the schema in order, and the updates that do nothing.
pub record AreTablesOf (rules : Rules) (nodes : List NodeData) (tables : List (List ShownRow)) (lines : List VoidLine) : Type 0 where
  pub number : length tables ≡ length rules.tables
  pub rows : (number : ℕ) (rows : List ShownRow) → slice_get tables number ≡ Some rows → AreRowsIn rules nodes number rows
  pub voids : AreVoidsIn rules nodes lines
