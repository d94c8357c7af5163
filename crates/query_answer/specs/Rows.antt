-- The rows that a query goes over, of lists or of tables that lend them.
use Rattle.std.specs.Prelude.{◌≡◌, ℕ, nat_lt, List, [], option_to_list, slice_get, take, if◌then◌else◌}
use Rattle.std.specs.declared.cmp.Ordering.{Ordering}
use Rattle.update_model.specs.declared.value.Value.{Value}
use Rattle.table_model.specs.declared.shown_row.ShownRow.{ShownRow}
use Rattle.table_model.specs.Tables.{name_cmp}
use Rattle.tuple_state.specs.Arrived.{arrived, listed_rows}
use Rattle.query_answer.specs.declared.found.FoundValue.{FoundValue}
use Rattle.query_answer.specs.declared.found.FoundValue.TheVariants as found
use Rattle.query_answer.specs.declared.rows.Row.{Row}
use Rattle.query_answer.specs.declared.rows.Row.TheVariants as row
use Rattle.query_answer.specs.declared.rows.Rows.{Rows}
use Rattle.query_answer.specs.declared.rows.Rows.TheVariants as rows
use Rattle.query_answer.specs.InOrder.{in_order}
use Rattle.query_answer.specs.Values.{AreRising, rows_in}

-- a value that was found
abbrev pub told : FoundValue → Value
told (found.Lent value) = value.now
told (found.Made value) = value

-- a row as its table shows it
abbrev pub shown_row : Row → ShownRow
shown_row (row.Listed it) = it.now
shown_row (row.Lent it) = it

-- the rows of a table that stand before a place
abbrev pub rows_before : Rows → ℕ → ℕ → List ShownRow
rows_before (rows.Listed lists) table place = take place (rows_in lists.now table)
rows_before (rows.Lent tables count) table place = if nat_lt table count then listed_rows tables.now table (take place tables.now.inserted) else []

-- all of them
abbrev pub rows_of : Rows → ℕ → List ShownRow
rows_of (rows.Listed lists) table = rows_in lists.now table
rows_of (rows.Lent tables count) table = if nat_lt table count then arrived tables.now table else []

-- the row that stands there, if one does
abbrev pub row_at : Rows → ℕ → ℕ → List ShownRow
row_at (rows.Listed lists) table place = option_to_list (slice_get (rows_in lists.now table) place)
row_at (rows.Lent tables count) table place =
    if nat_lt table count then listed_rows tables.now table (option_to_list (slice_get tables.now.inserted place)) else []

-- rows by their names
abbrev pub by_name : ShownRow → ShownRow → Ordering
by_name a b = name_cmp a.name b.name

-- In lists the names of rows rise.
abbrev pub AreSound : Rows → Type 0
AreSound (rows.Listed lists) = AreRising lists.now
AreSound (rows.Lent tables count) = Unit {0}

-- These lists have the rows of each table in rising order of names.
pub record AreListsOf (rows : Rows) (lists : List (List ShownRow)) : Type 0 where
  pub sound : AreSound rows
  pub rising : AreRising lists
  pub exact : (table : ℕ) → rows_in lists table ≡ in_order by_name (rows_of rows table)
