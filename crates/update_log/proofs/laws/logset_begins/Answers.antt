use Rattle.update_log.proofs.Logsets.{begins_logset}
use Rattle.update_log.proofs.laws.logset_begins.Goals as goal

pub returns : goal.returns
returns c rule bytes members before is are begins = begins_logset rule bytes members before is are begins
