use Rattle.head_set.proofs.HeadSteps.{heads_of_front}
use Rattle.head_set.proofs.laws.heads_of_a_front.Goals as goal

pub returns : goal.returns
returns c = heads_of_front
