use Rattle.std.proofs.Common.{◌≡◌, take, map}
use Rattle.tuple_state.specs.State.{shape_of}
use Rattle.tuple_state.proofs.shapes.shapes_of.Given as goal

-- the shapes of the tables so far are there
abbrev pub invariant-loop-number : goal.invariant-loop-number
invariant-loop-number l = l.shapes.items ≡ map shape_of (take l.number l.schema.tables)
