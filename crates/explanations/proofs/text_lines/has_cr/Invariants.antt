use Rattle.std.proofs.Common.{◌≡◌, length}
use Rattle.explanations.specs.Texts.{some_cr}
use Rattle.explanations.proofs.text_lines.has_cr.Given as goal

-- what is left has such a line where all has
abbrev pub invariant-loop-line : goal.invariant-loop-line
invariant-loop-line l = some_cr l.rest ≡ some_cr l.text

abbrev pub decreases-loop-line : goal.decreases-loop-line
decreases-loop-line l = length l.rest
