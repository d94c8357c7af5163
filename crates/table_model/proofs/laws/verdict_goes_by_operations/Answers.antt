use Rattle.std.proofs.Common.{refl}
use Rattle.table_model.specs.Verdicts.{verdict_on}
use Rattle.table_model.proofs.laws.verdict_goes_by_operations.Goals as goal

pub returns : goal.returns
unfolding verdict_on
returns c rules past node = refl
