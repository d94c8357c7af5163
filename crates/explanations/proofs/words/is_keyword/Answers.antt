use Rattle.explanations.specs.Habits.{keywords}
use Rattle.explanations.proofs.words.is_keyword.Goals as goal

pub returns : goal.returns
unfolding keywords
returns c = c.is_among.ensures
