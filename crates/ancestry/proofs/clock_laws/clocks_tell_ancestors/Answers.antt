use Rattle.ancestry.proofs.Chained.{clock_is}
use Rattle.ancestry.proofs.clock_laws.clocks_tell_ancestors.Goals as goal

pub returns : goal.returns
returns c = clock_is
