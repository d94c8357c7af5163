use Rattle.head_set.proofs.HeadSteps.{no_heads}
use Rattle.head_set.proofs.laws.no_members_no_heads.Goals as goal

pub returns : goal.returns
returns c = no_heads
