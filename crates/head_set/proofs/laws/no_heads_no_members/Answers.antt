use Rattle.head_set.proofs.SameSets.{no_members}
use Rattle.head_set.proofs.laws.no_heads_no_members.Goals as goal

pub returns : goal.returns
returns c = no_members
