use Rattle.update_log.proofs.Logsets.{records_logset}
use Rattle.update_log.proofs.laws.whole_logset.Goals as goal

pub returns : goal.returns
returns c rule members are = records_logset rule members are
