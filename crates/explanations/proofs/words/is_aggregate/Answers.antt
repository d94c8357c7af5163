use Rattle.explanations.specs.Habits.{aggregates}
use Rattle.explanations.proofs.words.is_aggregate.Goals as goal

pub returns : goal.returns
unfolding aggregates
returns c = c.is_among.ensures
