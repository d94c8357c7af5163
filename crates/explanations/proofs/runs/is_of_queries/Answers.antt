use Rattle.explanations.specs.Run.{of_queries}
use Rattle.explanations.proofs.runs.is_of_queries.Goals as goal

pub returns : goal.returns
unfolding of_queries
returns c = c.is_among.ensures
