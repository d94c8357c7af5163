use Rattle.world_script.proofs.Unique.{script_right}
use Rattle.world_script.proofs.laws.no_fault.Goals as goal

pub returns : goal.returns
returns c = script_right c.one_transaction.ensures c.one_schema.ensures c.no_fault.ensures
