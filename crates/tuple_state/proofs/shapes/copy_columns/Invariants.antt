use Rattle.std.proofs.Common.{◌≡◌, ◌≤◌, length, take}
use Rattle.std.specs.Vec.{vec_capacity}
use Rattle.tuple_state.proofs.shapes.copy_columns.Given as goal

-- the columns so far are copied, and there is room for all
abbrev pub invariant-loop-column : goal.invariant-loop-column
invariant-loop-column l = record {
  copied : l.copies.items ≡ take l.column-index l.columns;
  room : length l.columns ≤ vec_capacity l.copies;
}
