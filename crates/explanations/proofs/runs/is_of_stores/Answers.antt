use Rattle.explanations.specs.Run.{of_stores}
use Rattle.explanations.proofs.runs.is_of_stores.Goals as goal

pub returns : goal.returns
unfolding of_stores
returns c = c.is_among.ensures
