use Rattle.std.proofs.Common.{◌≡◌, length}
use Rattle.std.specs.Prelude.{slice_get}
use Rattle.explanations.specs.Texts.{line_numbered, text_lines}
use Rattle.explanations.proofs.text_lines.numbered_line.Given as goal

-- the lines that are left have the line
abbrev pub invariant-loop-line : goal.invariant-loop-line
invariant-loop-line l = slice_get (text_lines l.rest) l.left ≡ line_numbered l.fn.text l.fn.number

abbrev pub decreases-loop-line : goal.decreases-loop-line
decreases-loop-line l = length l.rest
