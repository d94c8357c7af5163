-- What values show, where it is known which rows are visible.
use Rattle.std.specs.Prelude.{Bool, false, not, ◌&&◌, List, [], ◌∷◌, if◌then◌else◌}
use Rattle.update_model.specs.declared.row_name.RowName.{RowName}
use Rattle.update_model.specs.declared.value.Value.{Value}
use Rattle.update_model.specs.declared.value.Value.TheVariants as value
use Rattle.schema.specs.declared.column.Column.{Column}
use Rattle.schema.specs.declared.column.ColumnKind.{ColumnKind}
use Rattle.schema.specs.Columns.{target_of}
use Rattle.table_model.specs.Visible.{is_nulled}

-- whether a value is a SETNULL reference to a row that is not visible
abbrev pub is_shown_null : (RowName → Bool) → ColumnKind → Value → Bool
is_shown_null visible kind (value.Row name) = is_nulled (target_of kind) && not (visible name)
is_shown_null visible kind other = false

-- what a value shows in a column of this kind
abbrev pub shown_by : (RowName → Bool) → ColumnKind → Value → Value
shown_by visible kind it = if is_shown_null visible kind it then value.Null else it

-- what values show, each in its column
abbrev pub shown_values_by : (RowName → Bool) → List Column → List Value → List Value
shown_values_by visible [] values = values
shown_values_by visible (column ∷ columns) [] = []
shown_values_by visible (column ∷ columns) (value ∷ values) = shown_by visible column.kind value ∷ shown_values_by visible columns values
