use Rattle.update_model.proofs.Heads.{heads_same}
use Rattle.update_model.proofs.laws.heads_of_same_set.Goals as goal

pub returns : goal.returns
returns c graph other heads others same a b = heads_same graph other heads others same a b
