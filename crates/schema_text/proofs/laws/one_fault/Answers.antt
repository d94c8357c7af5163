use Rattle.schema_text.proofs.Unique.{first_one}
use Rattle.schema_text.proofs.laws.one_fault.Goals as goal

pub returns : goal.returns
returns c = first_one c.one_expression.ensures
