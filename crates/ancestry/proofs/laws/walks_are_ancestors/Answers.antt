use Rattle.ancestry.proofs.Numbers.{walks_are}
use Rattle.ancestry.proofs.laws.walks_are_ancestors.Goals as goal

pub returns : goal.returns
returns c = walks_are
