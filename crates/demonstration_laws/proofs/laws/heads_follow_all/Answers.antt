use Rattle.demonstration_laws.proofs.Heads.{heads_on_all}
use Rattle.demonstration_laws.proofs.laws.heads_follow_all.Goals as goal

pub returns : goal.returns
returns c rules graph nodes draft are follows heads = heads_on_all rules graph nodes draft are follows heads
