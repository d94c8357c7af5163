use Rattle.std.proofs.Common.{refl}
use Rattle.table_model.specs.Verdicts.{judged}
use Rattle.table_model.proofs.laws.judged_one_by_one.Goals as goal

pub returns : goal.returns
unfolding judged
returns c rules older node = refl
