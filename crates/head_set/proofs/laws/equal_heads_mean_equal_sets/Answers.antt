use Rattle.head_set.proofs.SameSets.{same_members}
use Rattle.head_set.proofs.laws.equal_heads_mean_equal_sets.Goals as goal

pub returns : goal.returns
returns c = same_members
