use Rattle.update_model.proofs.Heads.{has_head}
use Rattle.update_model.proofs.laws.nonempty_has_head.Goals as goal

pub returns : goal.returns
returns c graph closed some = has_head graph closed some
