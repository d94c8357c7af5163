-- What the rows that are visible answer, where one asks for a row by its name, for those that hold on to it, or for a number
-- of rows.
use Rattle.std.specs.Prelude.{◌≡◌, ℕ, ◌≤◌, Bool, true, ◌&&◌, List, Contains, Option, count_by, find, option_map}
use Rattle.std.specs.List.{list_any}
use Rattle.update_model.specs.declared.row_entry.RowEntry.{RowEntry}
use Rattle.update_model.specs.declared.row_name.RowName.{RowName}
use Rattle.update_model.specs.declared.value.Value.{Value}
use Rattle.row_check.specs.declared.cmp.Cmp.TheVariants as cmp
use Rattle.row_check.specs.Comparisons.{compares}
use Rattle.row_check.specs.Meaning.{value_at}
use Rattle.schema.specs.Columns.{is_restrict}
use Rattle.table_model.specs.Verdicts.{in_table}
use Rattle.table_model.specs.Visible.{Effects, Rules, TableRow, refs, same_row, visible_rows}

-- a row as it is lent, without its name
abbrev pub entry_of_row : TableRow → RowEntry
entry_of_row row = record { table = row.table; author = row.author; values = row.values }

-- the row with this name among these
abbrev pub entry_in : List TableRow → RowName → Option RowEntry
entry_in rows name = option_map entry_of_row (find (λ row. same_row row.name name) rows)

-- whether one of these rows names this one by RESTRICT
abbrev pub has_child_in : Rules → List TableRow → RowName → Bool
has_child_in rules rows name = list_any (λ row. list_any (λ r. is_restrict r.action && same_row r.name name) (refs rules row)) rows

-- how many of these rows stand in a table and have a value in a column
abbrev pub equal_in : List TableRow → ℕ → ℕ → Value → ℕ
equal_in rows table column value = count_by (λ row. in_table table row && compares cmp.Eq (value_at row.values column) value) rows

-- Of the rows visible after what was done no two have one name, and these are their answers: which row has a name, whether
-- a row names this one by RESTRICT, how many rows of a table have a value in a column, and how many rows it has.
pub record AreAnswers (rules : Rules) (past : Effects) (row_at : RowName → Option RowEntry) (child_of : RowName → Bool) (equal_to : ℕ → ℕ → Value → ℕ) (rows_of : ℕ → ℕ) : Type 0 where
  pub once : (a b : TableRow) → Contains (visible_rows rules past) a → Contains (visible_rows rules past) b → same_row a.name b.name ≡ true → a ≡ b
  pub single : (name : RowName) → count_by (λ row. same_row row.name name) (visible_rows rules past) ≤ 1
  pub row : (name : RowName) → row_at name ≡ entry_in (visible_rows rules past) name
  pub child : (name : RowName) → child_of name ≡ has_child_in rules (visible_rows rules past) name
  pub equal : (table column : ℕ) (value : Value) → equal_to table column value ≡ equal_in (visible_rows rules past) table column value
  pub number : (table : ℕ) → rows_of table ≡ count_by (in_table table) (visible_rows rules past)
