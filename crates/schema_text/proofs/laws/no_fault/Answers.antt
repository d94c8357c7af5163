use Rattle.schema_text.proofs.Unique.{declared_no_fault}
use Rattle.schema_text.proofs.laws.no_fault.Goals as goal

pub returns : goal.returns
returns c = declared_no_fault c.one_expression.ensures
