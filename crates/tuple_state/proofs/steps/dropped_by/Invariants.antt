use Rattle.std.proofs.Common.{◌≡◌, ◌++◌, drop}
use Rattle.tuple_state.specs.Steps.{names_by}
use Rattle.tuple_state.proofs.steps.dropped_by.Given as goal

-- the names so far and those that are still to come are all of them
abbrev pub invariant-loop-op : goal.invariant-loop-op
invariant-loop-op l = l.names.items ++ names_by l.position (drop l.op-index l.node.ops) ≡ names_by l.position l.node.ops
