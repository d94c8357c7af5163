-- What a row of a table shows to a query, and which rows it asks for.
use Rattle.std.specs.Prelude.{ℕ, true, Bool, List, [], map, find, Option, Some, None, unwrap_or, slice_get}
use Rattle.std.specs.List.Sorted.{IsStrictlySortedBy}
use Rattle.update_model.specs.declared.row_name.RowName.{RowName}
use Rattle.update_model.specs.declared.value.Value.{Value}
use Rattle.update_model.specs.declared.value.Value.TheVariants as value
use Rattle.row_check.specs.Meaning.{value_at}
use Rattle.row_check.specs.declared.kind.Kind.{Kind}
use Rattle.row_check.specs.declared.kind.Kind.TheVariants as kind
use Rattle.row_check.specs.Trees.{holds_tree}
use Rattle.table_model.specs.declared.shown_row.ShownRow.{ShownRow}
use Rattle.table_model.specs.Tables.{name_cmp}
use Rattle.table_model.specs.Visible.{same_row}
use Rattle.query.specs.declared.source.Slot.{Slot}
use Rattle.query.specs.declared.source.Source.{Source}
use Rattle.query.specs.declared.source.Source.TheVariants as source
use Rattle.query.specs.Data.{ConditionData}

-- the rows of the table with this number
abbrev pub rows_in : List (List ShownRow) → ℕ → List ShownRow
rows_in tables number = unwrap_or (slice_get tables number) []

-- The names of these rows rise.
abbrev pub IsRising : List ShownRow → Type 0
IsRising rows = IsStrictlySortedBy name_cmp (map (λ row. row.name) rows)

-- In each table the names of rows rise.
abbrev pub AreRising : List (List ShownRow) → Type 0
AreRising tables = (number : ℕ) → IsRising (rows_in tables number)

-- ---- values

-- the row with this name
abbrev pub row_named : List ShownRow → RowName → Option ShownRow
row_named rows name = find (λ row. same_row row.name name) rows

-- the value in a column of a row, and null where there is no row
abbrev pub value_in : Option ShownRow → ℕ → Value
value_in None column = value.Null
value_in (Some row) column = value_at row.values column

-- the value in a column of the row that a reference names, and null where it names none
abbrev pub value_through : List ShownRow → ℕ → Value → Value
value_through rows column (value.Row name) = value_in (row_named rows name) column
value_through rows column other = value.Null

-- the value that a row has there
abbrev pub value_of : List (List ShownRow) → ShownRow → Source → Value
value_of tables row source.Name = value.Row row.name
value_of tables row (source.Own column) = value_at row.values column
value_of tables row (source.Through reference target column) = value_through (rows_in tables target) column (value_at row.values reference)

-- ---- conditions

-- What a condition sees of a value in a column of this kind: of a reference whether it is there, which is TRUE or null, and
-- else the value. A value of another kind, which no such column shows, it sees as null.
abbrev pub seen : Kind → Value → Value
seen kind.Int (value.Int n) = value.Int n
seen kind.Text (value.Text bytes) = value.Text bytes
seen kind.Flag (value.Flag flag) = value.Flag flag
seen kind.Reference (value.Row name) = value.Flag true
seen kind other = value.Null

-- a kind that no reference has
abbrev pub IsPlain : Kind → Type 0
IsPlain kind.Reference = ⊥
IsPlain other = Unit {0}

-- what it sees of a row in a column that it names
abbrev pub seen_at : List (List ShownRow) → ShownRow → Slot → Value
seen_at tables row slot = seen slot.kind (value_of tables row slot.source)

-- whether a row is asked for, where native checks mean this relation
abbrev pub is_asked : (ℕ → List Value → Bool) → List (List ShownRow) → Option ConditionData → ShownRow → Bool
is_asked relation tables None row = true
is_asked relation tables (Some condition) row = holds_tree relation (map (seen_at tables row) condition.slots) condition.tree
