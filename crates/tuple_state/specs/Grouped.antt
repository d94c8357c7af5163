-- Rows in groups of one value, and what is kept of them.
use Rattle.std.specs.Prelude.{◌≡◌, ℕ, ◌≤◌, true, List, length, Option, None, Some, slice_index_or}
use Rattle.tuple_state.specs.declared.groups.Groups.{Groups}
use Rattle.tuple_state.specs.declared.inserted.Inserted.{Inserted}
use Rattle.tuple_state.specs.declared.shape.Shape.{Shape}
use Rattle.tuple_state.specs.Least.{AreGrouped}
use Rattle.tuple_state.specs.State.{keep_any}
use Rattle.tuple_state.specs.Values.{AreFirsts}

-- These are the groups of rows, and there is room for each row. Where a table keeps the least row of each value, each row has a group,
-- and the first row of each value is found.
pub record AreGroupsOf (shapes : List Shape) (rows : List Inserted) (groups : Groups) : Type 0 where
  pub grouped : AreGrouped shapes rows groups.numbers.items
  pub firsts : keep_any shapes ≡ true → AreFirsts shapes rows groups.values
  pub sized : keep_any shapes ≡ true → length groups.numbers.items ≡ length rows
  pub few : length groups.numbers.items ≤ length rows
  pub spare : length groups.least.items ≡ length groups.numbers.items
  pub threaded : length groups.nexts.items ≡ length groups.numbers.items

-- the group of the row at a place, where this is the first row with its value, if there is one
abbrev pub group_at : List ℕ → Option ℕ → ℕ → ℕ
group_at groups None place = place
group_at groups (Some first) place = slice_index_or groups first 0
