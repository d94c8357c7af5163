use Rattle.schema_text.proofs.Keeping.{declared_sound}
use Rattle.schema_text.proofs.laws.declared_is_sound.Goals as goal

pub returns : goal.returns
returns c = declared_sound c.one_expression.ensures
