use Rattle.ancestry.proofs.Chained.{chain_members}
use Rattle.ancestry.proofs.clock_laws.chains_are_ancestors.Goals as goal

pub returns : goal.returns
returns c = λ graph a b lower low in_one same. chain_members graph a b lower low in_one same
