-- Threads that lead from each row of a table to the next one.
use Rattle.std.specs.Prelude.{◌≡◌, ℕ, ◌+◌, ◌<◌, ◌≤◌, true, false, List, length, Some, slice_get, slice_index_or}
use Rattle.tuple_state.specs.declared.inserted.Inserted.{Inserted}
use Rattle.tuple_state.specs.Least.{is_in}

-- Of the places from one on, this is the first whose row is of a table, or it is behind all rows.
pub record IsNextOf (rows : List Inserted) (table from next : ℕ) : Type 0 where
  pub ahead : from ≤ next
  pub none : (k : ℕ) → from ≤ k → k < next → is_in table (slice_get rows k) ≡ false
  pub own : next < length rows → is_in table (slice_get rows next) ≡ true

-- From the first row of a table on, where places begin with one, each of its rows leads to the next one.
pub record IsThread (rows : List Inserted) (nexts : List ℕ) (table from first : ℕ) : Type 0 where
  pub start : IsNextOf rows table from first
  pub onward : (k : ℕ) → from ≤ k → is_in table (slice_get rows k) ≡ true → IsNextOf rows table (k + 1) (slice_index_or nexts k 0)

-- Each row from a place on is of one of the tables that have a thread.
pub record AreThreads (rows : List Inserted) (firsts nexts : List ℕ) (from : ℕ) : Type 0 where
  pub known : (k : ℕ) (it : Inserted) → from ≤ k → slice_get rows k ≡ Some it → it.entry.table < length firsts
  pub each : (table : ℕ) → table < length firsts → IsThread rows nexts table from (slice_index_or firsts table 0)
