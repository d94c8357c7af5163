use Rattle.std.proofs.Common.{◌≡◌, ◌++◌, take}
use Rattle.query_answer.specs.Lines.{lines_text}
use Rattle.query_answer.proofs.lines.push_lines.Given as goal

-- the lines so far
abbrev pub invariant-loop-row : goal.invariant-loop-row
invariant-loop-row l = l.out.items ≡ l.fn.out.items ++ lines_text (take l.row-index l.rows)
