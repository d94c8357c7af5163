use Rattle.std.proofs.Common.{◌≡◌, ◌<◌, ◌≤◌, ℕ, ◌+◌, ◌*◌, [], get_or, length}
use Rattle.lms_tree.specs.Tree.{inner_node}
use Rattle.lms_tree.proofs.tree.write_inner_nodes.Given as goal

abbrev pub invariant-loop-r : goal.invariant-loop-r
invariant-loop-r l = record {
  len : length l.nodes ≡ 2 * l.leaves;
  leaves : (q : ℕ) → q < l.leaves → get_or l.nodes (l.leaves + q) [] ≡ get_or l.initial.nodes (l.leaves + q) [];
  inner : (m : ℕ) → l.r ≤ m → m < l.leaves → get_or l.nodes m [] ≡ inner_node l.ident m (get_or l.nodes (2 * m) []) (get_or l.nodes (2 * m + 1) []);
}
