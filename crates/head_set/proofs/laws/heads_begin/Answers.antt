use Rattle.head_set.proofs.HeadSteps.{no_states}
use Rattle.head_set.proofs.laws.heads_begin.Goals as goal

pub returns : goal.returns
returns c = no_states
