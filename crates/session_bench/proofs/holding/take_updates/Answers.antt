-- What was checked by a rule equal to the holder's is checked by the holder's.
use Rattle.std.proofs.Common.{All, subst}
use Rattle.update_model.specs.Rule.{RuleData}
use Rattle.update_check.specs.Signed.{IsChecked}
use Rattle.session_bench.proofs.holding.take_updates.Goals as goal

pub commit-requires : goal.commit-requires
commit-requires g c = subst (λ (r : RuleData). All (IsChecked r) c.in_ok-batch.batch.items) c.rule.ensures c.in_ok-batch.ensures
