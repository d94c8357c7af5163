use Rattle.std.proofs.Common.{rules}
use Rattle.explanations.specs.Parts.{parts_of, stands_among}
use Rattle.explanations.specs.Habits.{sign_entry}
use Rattle.explanations.proofs.habits.habit_sign.Goals as goal

pub returns-then-is_among : goal.returns-then-is_among
unfolding sign_entry stands_among parts_of
returns-then-is_among c = search rules

pub returns-then-is_among-2 : goal.returns-then-is_among-2
unfolding sign_entry stands_among parts_of
returns-then-is_among-2 c = search rules

pub returns-then-is_among-3 : goal.returns-then-is_among-3
unfolding sign_entry stands_among parts_of
returns-then-is_among-3 c = search rules

pub returns-then-is_among-4 : goal.returns-then-is_among-4
unfolding sign_entry stands_among parts_of
returns-then-is_among-4 c = search rules

pub returns-else-is_among-4 : goal.returns-else-is_among-4
unfolding sign_entry stands_among parts_of
returns-else-is_among-4 c = search rules
