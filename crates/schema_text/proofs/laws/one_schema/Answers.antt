use Rattle.schema_text.proofs.Unique.{schema_one}
use Rattle.schema_text.proofs.laws.one_schema.Goals as goal

pub returns : goal.returns
returns c = schema_one c.one_expression.ensures
