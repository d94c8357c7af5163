use Rattle.update_codec.proofs.Causes.{fault_spells_none}
use Rattle.update_codec.proofs.laws.no_fault.Goals as goal

pub returns : goal.returns
returns c = fault_spells_none
