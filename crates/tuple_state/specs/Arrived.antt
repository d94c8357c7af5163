-- The rows that tables list, in order of arrival.
use Rattle.std.specs.Prelude.{ℕ, Bool, ◌&&◌, List, map, filter}
use Rattle.table_model.specs.declared.shown_row.ShownRow.{ShownRow}
use Rattle.table_model.specs.Tables.{listed}
use Rattle.table_model.specs.Verdicts.{in_table}
use Rattle.table_model.specs.Visible.{is_visible, shown}
use Rattle.tuple_state.specs.declared.inserted.Inserted.{Inserted}
use Rattle.tuple_state.specs.State.{State, done_in, row_of, rules_of_state}

-- a row as its table lists it
abbrev pub line_of : State → Inserted → ShownRow
line_of state it = listed (shown (rules_of_state state) (done_in state) (row_of it))

-- whether a row is one of the table with this number, and visible
abbrev pub is_listed : State → ℕ → Inserted → Bool
is_listed state table it = in_table table (row_of it) && is_visible (rules_of_state state) (done_in state) it.name

-- what a table lists of some of the rows
abbrev pub listed_rows : State → ℕ → List Inserted → List ShownRow
listed_rows state table rows = map (line_of state) (filter (is_listed state table) rows)

-- and of all of them
abbrev pub arrived : State → ℕ → List ShownRow
arrived state table = listed_rows state table state.inserted
