use Rattle.std.proofs.Common.{◌≡◌, length}
use Rattle.explanations.specs.Texts.{line_of_operation, operation_among, text_lines}
use Rattle.explanations.proofs.text_lines.operation_line.Given as goal

-- the lines that are left have the operation
abbrev pub invariant-loop-line : goal.invariant-loop-line
invariant-loop-line l = operation_among l.number l.left (text_lines l.rest) ≡ line_of_operation l.fn.text l.fn.operation

abbrev pub decreases-loop-line : goal.decreases-loop-line
decreases-loop-line l = length l.rest
