use Rattle.std.proofs.Common.{◌≡◌, length}
use Rattle.row_check.specs.Trees.{tree_of}
use Rattle.expression_text.specs.Machine.{complete}
use Rattle.expression_text.specs.Views.{frames_of}
use Rattle.expression_text.proofs.pending.completed.Given as goal

-- the operand with each NOT that was taken so far completes to the same
abbrev pub invariant-loop-whole : goal.invariant-loop-whole
invariant-loop-whole l = complete (tree_of l.whole) (frames_of l.pending.items) ≡ complete (tree_of l.fn.expr) (frames_of l.fn.pending.items)

abbrev pub decreases-loop-whole : goal.decreases-loop-whole
decreases-loop-whole l = length l.pending.items
