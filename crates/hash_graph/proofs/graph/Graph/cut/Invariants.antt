use Rattle.std.proofs.Common.{◌≡◌, ◌≤◌, length, take}
use Rattle.hash_graph.proofs.graph.Graph.cut.Given as goal

-- the first `len` members are still there, and more are still to go
abbrev pub invariant-loop-self : goal.invariant-loop-self
invariant-loop-self g l = record {
  enough : l.len ≤ length l.self;
  kept : take l.len l.self ≡ take l.len l.fn.self;
}

abbrev pub decreases-loop-self : goal.decreases-loop-self
decreases-loop-self g l = length l.self
