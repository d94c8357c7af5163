use Rattle.world_script.proofs.Unique.{fault_same}
use Rattle.world_script.proofs.laws.one_fault.Goals as goal

pub returns : goal.returns
returns c = fault_same c.one_transaction.ensures c.one_schema.ensures c.no_fault.ensures c.one_fault.ensures
