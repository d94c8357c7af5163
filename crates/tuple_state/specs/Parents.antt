-- The rows that a row names by CASCADE, column by column.
use Rattle.std.specs.Prelude.{◌≡◌, ℕ, ◌==◌, Bool, true, false, ◌&&◌, ◌||◌, List, [], ◌∷◌, ◌++◌, slice_get, Option, None, Some, if◌then◌else◌}
use Rattle.std.specs.List.{list_any}
use Rattle.update_model.specs.declared.row_name.RowName.{RowName}
use Rattle.update_model.specs.declared.value.Value.{Value}
use Rattle.update_model.specs.declared.value.Value.TheVariants as value
use Rattle.schema.specs.declared.action.Action.{Action}
use Rattle.schema.specs.declared.column.Column.{Column}
use Rattle.schema.specs.declared.column.ColumnKind.{ColumnKind}
use Rattle.schema.specs.Columns.{is_restrict, target_of}
use Rattle.table_model.specs.Visible.{is_cascade, same_row}
use Rattle.tuple_state.specs.declared.inserted.Inserted.{Inserted}
use Rattle.tuple_state.specs.declared.dropped.Dropped.{Dropped}
use Rattle.tuple_state.specs.declared.shape.Shape.{Shape}
use Rattle.tuple_state.specs.State.{dropped_at}

-- a row's name, where the column is a reference by CASCADE
abbrev pub name_by_cascade : RowName → Option (ℕ × Action) → Option RowName
name_by_cascade name None = None
name_by_cascade name (Some target) = if is_cascade target.1 then Some name else None

-- the row that a value names by CASCADE in a column of this kind
abbrev pub parent_in : ColumnKind → Value → Option RowName
parent_in kind (value.Row name) = name_by_cascade name (target_of kind)
parent_in kind other = None

-- a name, as the row at this place names it
abbrev pub name_at : ℕ → Option RowName → List Dropped
name_at place None = []
name_at place (Some name) = dropped_at place name ∷ []

-- the name that a value names by CASCADE in a column of this kind
abbrev pub name_in : ℕ → ColumnKind → Value → List Dropped
name_in place kind v = name_at place (parent_in kind v)

-- the names that values name by CASCADE
abbrev pub names_in : ℕ → List Column → List Value → List Dropped
names_in place [] values = []
names_in place (column ∷ columns) [] = []
names_in place (column ∷ columns) (value ∷ values) = name_in place column.kind value ++ names_in place columns values

-- Each of these rows has a name that none before it has, these ones included.
unfoldable pub AreFresh : List Inserted → List Inserted → Type 0
AreFresh rows [] = Unit {0}
AreFresh rows (it ∷ more) = (list_any (λ row. same_row row.name it.name) rows ≡ false) × AreFresh (rows ++ it ∷ []) more

-- the columns of a table, of which one that is not there has none
abbrev pub columns_in : Option Shape → List Column
columns_in None = []
columns_in (Some shape) = shape.columns

-- the columns of the table with this number
abbrev pub columns_at : List Shape → ℕ → List Column
columns_at shapes number = columns_in (slice_get shapes number)

-- whether a test is true of the place that is found, where one is
abbrev pub passes_place : (ℕ → Bool) → Option ℕ → Bool
passes_place test None = true
passes_place test (Some place) = test place

-- whether a test of names is true of a row, where there is one
abbrev pub passes_row : (RowName → Bool) → Option Inserted → Bool
passes_row test None = false
passes_row test (Some it) = test it.name

-- whether a reference is to this table by RESTRICT
abbrev pub holds_on_to : ℕ → Option (ℕ × Action) → Bool
holds_on_to table None = false
holds_on_to table (Some target) = (target.0 == table) && is_restrict target.1

-- whether one of these columns refers to this table by RESTRICT
abbrev pub some_holding : ℕ → List Column → Bool
some_holding table columns = list_any (λ column. holds_on_to table (target_of column.kind)) columns

-- whether a column of some table does
abbrev pub is_held : List Shape → ℕ → Bool
is_held shapes table = list_any (λ shape. some_holding table shape.columns) shapes

-- a row's name, where the column is a reference by RESTRICT
abbrev pub name_by_restrict : RowName → Option (ℕ × Action) → Option RowName
name_by_restrict name None = None
name_by_restrict name (Some target) = if is_restrict target.1 then Some name else None

-- the row that a value names by RESTRICT in a column of this kind
abbrev pub held_in : ColumnKind → Value → Option RowName
held_in kind (value.Row name) = name_by_restrict name (target_of kind)
held_in kind other = None

-- whether it is this row
abbrev pub is_row : RowName → Option RowName → Bool
is_row name None = false
is_row name (Some named) = same_row named name

-- whether a value names this row by RESTRICT in a column of this kind
abbrev pub restricts_in : RowName → ColumnKind → Value → Bool
restricts_in name kind v = is_row name (held_in kind v)

-- whether one of these values does
unfoldable pub any_restricts : RowName → List Column → List Value → Bool
any_restricts name [] values = false
any_restricts name (column ∷ columns) [] = false
any_restricts name (column ∷ columns) (value ∷ values) = restricts_in name column.kind value || any_restricts name columns values
