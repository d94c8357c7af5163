use Rattle.lms_tree.specs.Leaves.{AreLeaves}
use Rattle.lms_tree.proofs.leaves.leaves_here.Given as goal

abbrev pub invariant-loop-place : goal.invariant-loop-place
invariant-loop-place l = AreLeaves l.seed l.first l.place l.values.items
