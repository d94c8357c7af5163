use Rattle.std.proofs.Common.{arith}
use Rattle.std.proofs.lemmas.Grind.{common_steps}
use Rattle.explanations.specs.Shown.{shown}
use Rattle.explanations.proofs.shown_lines.push_shown.Goals as goal

pub returns-in-Some : goal.returns-in-Some
unfolding shown
returns-in-Some c = grind (arith, common_steps)

pub returns : goal.returns
unfolding shown
returns c = grind (arith, common_steps)
