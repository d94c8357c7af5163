use Rattle.std.proofs.Common.{rules}
use Rattle.explanations.specs.Parts.{parts_of, stands_among}
use Rattle.explanations.specs.Habits.{clause_entry}
use Rattle.explanations.proofs.habits.habit_clause.Goals as goal

pub returns-then-is_among : goal.returns-then-is_among
unfolding clause_entry stands_among parts_of
returns-then-is_among c = search rules

pub returns-then-is_among-2 : goal.returns-then-is_among-2
unfolding clause_entry stands_among parts_of
returns-then-is_among-2 c = search rules

pub returns-else-is_among-2 : goal.returns-else-is_among-2
unfolding clause_entry stands_among parts_of
returns-else-is_among-2 c = search rules
