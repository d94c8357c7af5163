use Rattle.std.proofs.Common.{arith}
use Rattle.std.proofs.lemmas.Grind.{common_steps}
use Rattle.explanations.specs.Explained.{excerpt}
use Rattle.explanations.proofs.excerpts.push_excerpt.Goals as goal

pub returns-then-ends_with : goal.returns-then-ends_with
unfolding excerpt
returns-then-ends_with c = grind (arith, common_steps)

pub returns : goal.returns
unfolding excerpt
returns c = grind (arith, common_steps)
