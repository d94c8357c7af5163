-- Columns, and the values that fit them.
use Rattle.std.specs.Prelude.{ℕ, Bool, true, false, ◌&&◌, List, [], ◌∷◌, length, map, nat_le, Option, Some, None, bytes_eq, position, find, slice_get, option_and_then}
use Rattle.std.specs.Int.Signed.{le_z}
use Rattle.update_model.specs.declared.value.Value.{Value}
use Rattle.update_model.specs.declared.value.Value.TheVariants as value
use Rattle.row_check.specs.declared.kind.Kind.{Kind}
use Rattle.row_check.specs.declared.kind.Kind.TheVariants as plain
use Rattle.schema.specs.declared.action.Action.{Action}
use Rattle.schema.specs.declared.action.Action.TheVariants as action
use Rattle.schema.specs.declared.column.Column.{Column}
use Rattle.schema.specs.declared.column.ColumnKind.{ColumnKind}
use Rattle.schema.specs.declared.column.ColumnKind.TheVariants as kind

-- whether a column refers to rows, and does not have values of its own
abbrev pub is_reference : ColumnKind → Bool
is_reference (kind.Int lo hi) = false
is_reference (kind.Text lo hi) = false
is_reference kind.Flag = false
is_reference (kind.Reference target act) = true

-- the kind that an expression sees
abbrev pub kind_seen : ColumnKind → Kind
kind_seen (kind.Int lo hi) = plain.Int
kind_seen (kind.Text lo hi) = plain.Text
kind_seen kind.Flag = plain.Flag
kind_seen (kind.Reference target act) = plain.Reference

-- the kinds of columns
abbrev pub kinds_of : List Column → List Kind
kinds_of columns = map (λ column. kind_seen column.kind) columns

-- the names of columns
abbrev pub names_of : List Column → List (List ℕ)
names_of columns = map (λ column. column.name) columns

-- the number of the column with this name
abbrev pub number_named : List Column → List ℕ → Option ℕ
number_named columns name = position (λ column. bytes_eq column.name name) columns

-- the column with this name
abbrev pub column_named : List Column → List ℕ → Option Column
column_named columns name = find (λ column. bytes_eq column.name name) columns

-- the table that a column refers to, and what becomes of a row when the one that it refers to goes
abbrev pub target_of : ColumnKind → Option (ℕ × Action)
target_of (kind.Int lo hi) = None
target_of (kind.Text lo hi) = None
target_of kind.Flag = None
target_of (kind.Reference target act) = Some (target, act)

-- the same of the column with this number
abbrev pub reference_at : List Column → ℕ → Option (ℕ × Action)
reference_at columns number = option_and_then (λ column. target_of column.kind) (slice_get columns number)

-- the same of the column with this name
abbrev pub reference_named : List Column → List ℕ → Option (ℕ × Action)
reference_named columns name = option_and_then (λ column. target_of column.kind) (column_named columns name)

-- whether two kinds can be compared
abbrev pub is_comparable : Kind → Kind → Bool
is_comparable plain.Int plain.Int = true
is_comparable plain.Text plain.Text = true
is_comparable plain.Flag plain.Flag = true
is_comparable a b = false

abbrev pub are_comparable : Option Column → Option Column → Bool
are_comparable None right = false
are_comparable (Some left) None = false
are_comparable (Some left) (Some right) = is_comparable (kind_seen left.kind) (kind_seen right.kind)

abbrev pub is_cascade : Action → Bool
is_cascade action.Restrict = false
is_cascade action.Cascade = true
is_cascade action.SetNull = false

abbrev pub is_set_null : Action → Bool
is_set_null action.Restrict = false
is_set_null action.Cascade = false
is_set_null action.SetNull = true

abbrev pub is_restrict : Action → Bool
is_restrict action.Restrict = true
is_restrict action.Cascade = false
is_restrict action.SetNull = false

-- whether a value, not null, is of a kind and within its bounds. A reference is any name of a row
abbrev pub fits_kind : ColumnKind → Value → Bool
fits_kind (kind.Int lo hi) (value.Int n) = le_z lo n && le_z n hi
fits_kind (kind.Text lo hi) (value.Text bytes) = nat_le lo (length bytes) && nat_le (length bytes) hi
fits_kind kind.Flag (value.Flag flag) = true
fits_kind (kind.Reference target act) (value.Row name) = true
fits_kind (kind.Reference target act) (value.Own index) = true
fits_kind kind other = false

-- whether a value may stand in a column: null where it may have none, else a value of its kind
abbrev pub fits : Column → Value → Bool
fits column value.Null = column.null
fits column other = fits_kind column.kind other

-- whether there is a value for each column, and each fits
abbrev pub all_fit : List Column → List Value → Bool
all_fit [] [] = true
all_fit [] (value ∷ values) = false
all_fit (column ∷ columns) [] = false
all_fit (column ∷ columns) (value ∷ values) = fits column value && all_fit columns values
