-- Visibility by a list of the names that are seen.
use Rattle.std.specs.Prelude.{◌≡◌, ℕ, Bool, false, not, ◌&&◌, List, [], ◌∷◌, length, if◌then◌else◌}
use Rattle.update_model.specs.declared.row_name.RowName.{RowName}
use Rattle.update_model.specs.declared.value.Value.{Value}
use Rattle.update_model.specs.declared.value.Value.TheVariants as value
use Rattle.schema.specs.declared.column.Column.{Column}
use Rattle.schema.specs.declared.column.ColumnKind.{ColumnKind}
use Rattle.schema.specs.declared.table_def.TableDef.{TableDef}
use Rattle.schema.specs.Columns.{target_of}
use Rattle.schema.specs.Data.{Meaning}
use Rattle.table_model.specs.Visible.{TableRow, Effects, is_nulled, table_of, visible_to, rules_with, bare_rules}
use Rattle.confluence_checker.specs.Forms.{is_among}

-- A list has exactly the names that are visible where references are followed this deep.
abbrev pub SeesTo : List TableDef → Effects → ℕ → List RowName → Type 0
SeesTo tables did depth names = (ask : Meaning) (name : RowName) → is_among names name ≡ visible_to (rules_with ask tables) did depth name

-- A list has exactly the names that are visible.
abbrev pub SeesAll : List TableDef → Effects → List RowName → Type 0
SeesAll tables did names = SeesTo tables did (length did.inserted) names

-- whether a value is a reference that is shown as null where these names are seen
abbrev pub is_hidden : List RowName → ColumnKind → Value → Bool
is_hidden names kind (value.Row name) = is_nulled (target_of kind) && not (is_among names name)
is_hidden names kind other = false

-- what a value shows where these names are seen
abbrev pub shown_by : List RowName → ColumnKind → Value → Value
shown_by names kind v = if is_hidden names kind v then value.Null else v

-- what values show, each in its column
abbrev pub shown_values_by : List RowName → List Column → List Value → List Value
shown_values_by names [] values = values
shown_values_by names (column ∷ columns) [] = []
shown_values_by names (column ∷ columns) (v ∷ values) = shown_by names column.kind v ∷ shown_values_by names columns values

-- a row with what its values show
abbrev pub shown_row_by : List TableDef → List RowName → TableRow → TableRow
shown_row_by tables names row = record row { values = shown_values_by names (table_of (bare_rules tables) row.table).columns row.values }
