use Rattle.std.proofs.Common.{◌≡◌, ◌≤◌, length, take}
use Rattle.std.specs.Vec.{vec_capacity}
use Rattle.tuple_state.proofs.shapes.copy_shapes.Given as goal

-- the shapes so far are copied, and there is room for all
abbrev pub invariant-loop-shape : goal.invariant-loop-shape
invariant-loop-shape l = record {
  copied : l.copies.items ≡ take l.shape-index l.shapes;
  room : length l.shapes ≤ vec_capacity l.copies;
}
