use Rattle.world_script.proofs.Unique.{script_one}
use Rattle.world_script.proofs.laws.one_script.Goals as goal

pub returns : goal.returns
returns c = script_one c.one_transaction.ensures c.one_schema.ensures
