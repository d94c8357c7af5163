use Rattle.ancestry.proofs.Growth.{numbered_more}
use Rattle.ancestry.proofs.laws.numbers_grow.Goals as goal

pub returns : goal.returns
returns c = numbered_more
