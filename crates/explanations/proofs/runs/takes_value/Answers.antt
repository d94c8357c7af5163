use Rattle.explanations.specs.Run.{with_values}
use Rattle.explanations.proofs.runs.takes_value.Goals as goal

pub returns : goal.returns
unfolding with_values
returns c = c.is_among.ensures
