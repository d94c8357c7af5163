use Rattle.std.proofs.Common.{refl}
use Rattle.table_model.specs.Verdicts.{judge_next}
use Rattle.table_model.proofs.laws.verdict_is_on_ancestors.Goals as goal

pub returns : goal.returns
unfolding judge_next
returns c rules js node = refl
