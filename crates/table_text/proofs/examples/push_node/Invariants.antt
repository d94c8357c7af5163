use Rattle.std.proofs.Common.{◌≡◌, ◌++◌, take}
use Rattle.std.specs.List.{flat_map}
use Rattle.table_text.specs.Examples.{step_text}
use Rattle.table_text.proofs.examples.push_node.Given as goal

-- the operations so far
abbrev pub invariant-loop-operation : goal.invariant-loop-operation
invariant-loop-operation l = l.out.items ≡ l.fn.out.items ++ flat_map (step_text l.schema.tables l.side l.node.id) (take l.operation-index l.node.ops)
