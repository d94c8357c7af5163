use Rattle.std.proofs.Common.{arith}
use Rattle.std.proofs.lemmas.Grind.{common_steps}
use Rattle.explanations.specs.Habits.{habit_entry}
use Rattle.explanations.proofs.habits.habit_of.Goals as goal

pub returns-then-starts_with : goal.returns-then-starts_with
unfolding habit_entry
returns-then-starts_with c = grind (arith, common_steps)

pub returns : goal.returns
unfolding habit_entry
returns c = grind (arith, common_steps)
