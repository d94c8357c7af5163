use Rattle.std.proofs.Common.{refl}
use Rattle.table_model.specs.Verdicts.{effects}
use Rattle.table_model.proofs.laws.effects_one_by_one.Goals as goal

pub returns : goal.returns
unfolding effects
returns c j js = refl
