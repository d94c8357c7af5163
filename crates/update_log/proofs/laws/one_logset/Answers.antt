use Rattle.update_log.proofs.Logsets.{same_logset}
use Rattle.update_log.proofs.laws.one_logset.Goals as goal

pub returns : goal.returns
returns c rule bytes members others a b = same_logset rule bytes members others a b
