use Rattle.shared_replica.proofs.Going.{under_longer}
use Rattle.shared_replica.proofs.laws.frames_stay.Goals as goal

pub returns : goal.returns
returns c = under_longer
