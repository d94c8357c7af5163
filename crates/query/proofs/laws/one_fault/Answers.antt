use Rattle.query.proofs.Unique.{fault_one}
use Rattle.query.proofs.laws.one_fault.Goals as goal

pub returns : goal.returns
returns c = fault_one c.one_expression.ensures
