-- Values of columns of which tables keep the least row of each, and the first rows that have them.
use Rattle.std.specs.Prelude.{◌≡◌, ℕ, ◌==◌, Bool, false, ◌&&◌, nat_lt, List, Option, None, Some, if◌then◌else◌}
use Rattle.std.specs.BTreeMap.{get}
use Rattle.std.specs.List.{position_from}
use Rattle.std.specs.declared.cmp.Ordering.{Ordering}
use Rattle.update_model.specs.declared.value.Value.{Value}
use Rattle.update_model.specs.declared.value.Value.TheVariants as value
use Rattle.row_check.specs.declared.cmp.Cmp.TheVariants as cmp
use Rattle.row_check.specs.Comparisons.{compares}
use Rattle.row_check.specs.Meaning.{value_at}
use Rattle.table_model.specs.Visible.{kept_of}
use Rattle.tuple_state.specs.contracts.kept_value.KeptValueOrd.TheImpl as kept_value_ord
use Rattle.tuple_state.specs.declared.inserted.Inserted.{Inserted}
use Rattle.tuple_state.specs.declared.kept_value.Content.{Content}
use Rattle.tuple_state.specs.declared.kept_value.Content.TheVariants as content
use Rattle.tuple_state.specs.declared.kept_value.KeptValue.{KeptValue}
use Rattle.tuple_state.specs.declared.shape.Shape.{Shape}
use Rattle.tuple_state.specs.declared.values.Values.{Values}
use Rattle.tuple_state.specs.State.{rules_over}

-- the order by which values are looked for
abbrev pub kept_cmp : KeptValue → KeptValue → Ordering
kept_cmp = (kept_value_ord.ghosts).cmp

-- the place that is known of a value
abbrev pub first_of : Values → KeptValue → Option ℕ
first_of values key = get kept_cmp values.firsts key

-- the value with a content
abbrev pub value_of : Content → Value
value_of (content.Int n) = value.Int n
value_of (content.Text bytes) = value.Text bytes.items
value_of (content.Flag flag) = value.Flag flag

-- whether a row is of a table and has a value in a column
abbrev pub has_at : ℕ → ℕ → Value → Inserted → Bool
has_at table column v it = (it.entry.table == table) && compares cmp.Eq (value_at it.entry.values column) v

-- the same, where there is a column
abbrev pub has_in : ℕ → Value → Inserted → Option ℕ → Bool
has_in table v it None = false
has_in table v it (Some column) = has_at table column v it

-- whether a row has a value in the column of which its table keeps the least row of each
abbrev pub has_kept : List Shape → KeptValue → Inserted → Bool
has_kept shapes key it = has_in key.table (value_of key.content) it (kept_of (rules_over shapes) key.table)

-- Of each value the place of the first row that has it is known.
abbrev pub AreFirsts : List Shape → List Inserted → Values → Type 0
AreFirsts shapes rows values = (key : KeptValue) → first_of values key ≡ position_from (has_kept shapes key) 0 rows

-- A value of a table is looked for by what it has. By nothing is looked for what equals no value.
abbrev pub IsKeyOf : ℕ → Value → Option KeptValue → Type 0
IsKeyOf table v None = (other : Value) → compares cmp.Eq other v ≡ false
IsKeyOf table v (Some key) = (key.table ≡ table) × (value_of key.content ≡ v)

-- the same of the value that a row has in a column, where there is one
abbrev pub IsKeyIn : Inserted → Option ℕ → Option KeptValue → Type 0
IsKeyIn it None found = found ≡ None
IsKeyIn it (Some column) found = IsKeyOf it.entry.table (value_at it.entry.values column) found

-- the place of the first of these rows that is of a row's table and has its value in a column, where there is one
abbrev pub alike_in : List Inserted → Inserted → Option ℕ → Option ℕ
alike_in rows it None = None
alike_in rows it (Some column) = position_from (has_at it.entry.table column (value_at it.entry.values column)) 0 rows

-- the same of the column of which the row's table keeps the least row of each value
abbrev pub first_alike : List Shape → List Inserted → Inserted → Option ℕ
first_alike shapes rows it = alike_in rows it (kept_of (rules_over shapes) it.entry.table)

-- a place, where there is one and it is among the first so many
abbrev pub below : ℕ → Option ℕ → Option ℕ
below len None = None
below len (Some place) = if nat_lt place len then Some place else None
