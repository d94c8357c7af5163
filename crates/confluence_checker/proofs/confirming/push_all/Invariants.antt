use Rattle.std.proofs.Common.{◌≡◌, ◌++◌, take}
use Rattle.confluence_checker.proofs.confirming.push_all.Given as goal

abbrev pub invariant-loop-node : goal.invariant-loop-node
invariant-loop-node l = l.nodes.items ≡ l.initial.nodes.items ++ take l.node-index l.more
