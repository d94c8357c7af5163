use Rattle.update_codec.proofs.Causes.{one_first}
use Rattle.update_codec.proofs.laws.one_fault.Goals as goal

pub returns : goal.returns
returns c = one_first
