use Rattle.ancestry.proofs.Steps.{stays}
use Rattle.ancestry.proofs.laws.ancestors_stay.Goals as goal

pub returns : goal.returns
returns c = stays
