-- The value of an expression about a row.
use Rattle.std.specs.Prelude.{ℕ, ◌<◌, List, length, map, Bool, true, false, not, ◌&&◌, ◌||◌, unwrap_or, slice_get, All, pos, ◌⊎◌}
use Rattle.update_model.specs.declared.value.Value.{Value}
use Rattle.update_model.specs.declared.value.Value.TheVariants.{Null, Int, Text}
use Rattle.row_check.specs.declared.term.Term.{Term}
use Rattle.row_check.specs.declared.term.Term.TheVariants.{Column, Literal, Length}
use Rattle.row_check.specs.declared.expr.Expr.{Expr, And', Or', Not', Compare, IsNull, Native}
use Rattle.row_check.specs.Comparisons.{compares, AreComparable}

-- the value in a column
abbrev pub value_at : List Value → ℕ → Value
value_at row column = unwrap_or (slice_get row column) Null

abbrev pub is_null : Value → Bool
is_null Null = true
is_null value = false

-- how many bytes a text has; nothing else has a length
abbrev pub length_of : Value → Value
length_of (Text bytes) = Int (pos (length bytes))
length_of value = Null

-- the value of a side of a comparison
abbrev pub term_value : List Value → Term → Value
term_value row (Column column) = value_at row column
term_value row (Literal value) = value
term_value row (Length column) = length_of (value_at row column)

-- Whether the expression holds of the row, where native checks mean this relation.
abbrev pub holds : (ℕ → List Value → Bool) → List Value → Expr → Bool
holds relation row (And' _ a _ b) = holds relation row a && holds relation row b
holds relation row (Or' _ a _ b) = holds relation row a || holds relation row b
holds relation row (Not' _ a) = not (holds relation row a)
holds relation row (Compare left cmp right) = compares cmp (term_value row left) (term_value row right)
holds relation row (IsNull column) = is_null (value_at row column)
holds relation row (Native number columns) = relation number (map (value_at row) columns)

-- a text or null
abbrev pub IsTextOrNull : Value → Type 0
IsTextOrNull (Text bytes) = Unit {0}
IsTextOrNull Null = Unit {0}
IsTextOrNull value = ⊥

-- The row has the column of the term, and LEN is of a text or of null.
abbrev pub FitsTerm : List Value → Term → Type 0
FitsTerm row (Column column) = column < length row
FitsTerm row (Literal value) = Unit {0}
FitsTerm row (Length column) = (column < length row) × IsTextOrNull (value_at row column)

-- The row has each column of the expression, LEN is of a text or of null, and the sides of each comparison can be
-- compared.
abbrev pub FitsRow : List Value → Expr → Type 0
FitsRow row (And' _ a _ b) = FitsRow row a × FitsRow row b
FitsRow row (Or' _ a _ b) = FitsRow row a × FitsRow row b
FitsRow row (Not' _ a) = FitsRow row a
FitsRow row (Compare left cmp right) = FitsTerm row left × FitsTerm row right × AreComparable (term_value row left) (term_value row right)
FitsRow row (IsNull column) = column < length row
FitsRow row (Native number columns) = All (λ column. column < length row) columns

-- A native check stands in the expression.
abbrev pub HasNative : Expr → Type 0
HasNative (And' _ a _ b) = HasNative a ⊎ HasNative b
HasNative (Or' _ a _ b) = HasNative a ⊎ HasNative b
HasNative (Not' _ a) = HasNative a
HasNative (Compare left cmp right) = ⊥
HasNative (IsNull column) = ⊥
HasNative (Native number columns) = Unit {0}
