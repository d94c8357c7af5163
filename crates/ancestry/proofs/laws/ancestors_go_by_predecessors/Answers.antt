use Rattle.ancestry.proofs.Steps.{by_predecessors}
use Rattle.ancestry.proofs.laws.ancestors_go_by_predecessors.Goals as goal

pub returns : goal.returns
returns c = by_predecessors
