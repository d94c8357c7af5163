use Rattle.head_set.proofs.HeadSteps.{never_heads}
use Rattle.head_set.proofs.laws.new_ids_were_no_heads.Goals as goal

pub returns : goal.returns
returns c = never_heads
