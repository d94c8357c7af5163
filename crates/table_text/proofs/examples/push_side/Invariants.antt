use Rattle.std.proofs.Common.{◌≡◌, ◌++◌, take}
use Rattle.table_text.specs.Examples.{side_text}
use Rattle.table_text.proofs.examples.push_side.Given as goal

-- the nodes so far
abbrev pub invariant-loop-node : goal.invariant-loop-node
invariant-loop-node l = l.out.items ≡ l.fn.out.items ++ side_text l.schema.tables l.side (take l.node-index l.nodes)
