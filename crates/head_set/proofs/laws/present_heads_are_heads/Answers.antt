use Rattle.head_set.proofs.HeadSteps.{present_heads}
use Rattle.head_set.proofs.laws.present_heads_are_heads.Goals as goal

pub returns : goal.returns
returns c = present_heads
