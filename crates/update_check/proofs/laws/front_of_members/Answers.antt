use Rattle.update_check.proofs.Fronts.{members_front}
use Rattle.update_check.proofs.laws.front_of_members.Goals as goal

pub returns : goal.returns
returns c = members_front
