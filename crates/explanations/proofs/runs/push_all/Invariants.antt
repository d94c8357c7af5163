use Rattle.std.proofs.Common.{◌≡◌, ◌++◌, false, length}
use Rattle.text_words.specs.Lines.{lines_of}
use Rattle.explanations.specs.Explained.{setting_of}
use Rattle.explanations.specs.Run.{told_from}
use Rattle.explanations.proofs.runs.push_all.Given as goal

-- what was told so far, and what is told of the lines that are left, are all of it
abbrev pub invariant-loop-line : goal.invariant-loop-line
invariant-loop-line l =
    l.out.items ++ told_from l.told (setting_of l.asked) (lines_of l.rest) ≡ l.fn.out.items ++ told_from false (setting_of l.asked) (lines_of l.fn.heard)

abbrev pub decreases-loop-line : goal.decreases-loop-line
decreases-loop-line l = length l.rest
