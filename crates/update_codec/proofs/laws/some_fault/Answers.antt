use Rattle.update_codec.proofs.Causes.{has_fault}
use Rattle.update_codec.proofs.laws.some_fault.Goals as goal

pub returns : goal.returns
returns c = has_fault
