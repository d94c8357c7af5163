use Rattle.update_check.proofs.Refused.{one_reason}
use Rattle.update_check.proofs.laws.one_cause.Goals as goal

pub returns : goal.returns
returns c = one_reason c.one_update.ensures c.one_fault.ensures c.no_fault.ensures
