use Rattle.schema_text.proofs.DeclaredSamples.{declared_pass}
use Rattle.schema_text.proofs.laws.declared_samples_pass.Goals as goal

pub returns : goal.returns
returns c = declared_pass c.one_expression.ensures
