use Rattle.std.proofs.Common.{All, subst}
use Rattle.update_model.specs.Rule.{RuleData}
use Rattle.update_check.specs.Signed.{IsChecked}
use Rattle.tests_of_updates.proofs.entries.entries_of.Goals as goal

pub commit-requires : goal.commit-requires
commit-requires c = subst (λ (r : RuleData). All (IsChecked r) c.in_ok-batch.batch.items) c.rule-2.ensures c.in_ok-batch.ensures
