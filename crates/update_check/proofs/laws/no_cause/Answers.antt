use Rattle.update_check.proofs.Refused.{no_reason}
use Rattle.update_check.proofs.laws.no_cause.Goals as goal

pub returns : goal.returns
returns c = no_reason c.one_update.ensures c.no_fault.ensures
