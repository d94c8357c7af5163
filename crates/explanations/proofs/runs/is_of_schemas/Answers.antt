use Rattle.explanations.specs.Run.{of_schemas}
use Rattle.explanations.proofs.runs.is_of_schemas.Goals as goal

pub returns : goal.returns
unfolding of_schemas
returns c = c.is_among.ensures
