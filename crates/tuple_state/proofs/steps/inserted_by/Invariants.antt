use Rattle.std.proofs.Common.{◌≡◌, ◌++◌, length}
use Rattle.std.specs.Vec.Iter.{into_iter_items}
use Rattle.tuple_state.specs.Steps.{rows_by}
use Rattle.tuple_state.proofs.Stepping.{made_of}
use Rattle.tuple_state.proofs.steps.inserted_by.Given as goal

-- what the operations so far insert is there, and the others are still to come
abbrev pub invariant-loop-op : goal.invariant-loop-op
invariant-loop-op l = record {
  rows : l.rows.items ≡ rows_by l.position (made_of l.id l.author) 0 l.yielded;
  count : l.number ≡ length l.yielded;
  whole : l.yielded ++ into_iter_items l.op-iterator ≡ l.node-inside.ops;
}
