use Rattle.head_set.proofs.HeadSteps.{few_heads}
use Rattle.head_set.proofs.laws.heads_are_few.Goals as goal

pub returns : goal.returns
returns c = few_heads
