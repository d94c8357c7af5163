use Rattle.std.proofs.Common.{subst, sym}
use Rattle.update_model.specs.Rule.{RuleData}
use Rattle.update_check.specs.Signed.{IsChecked}
use Rattle.tests_of_updates.proofs.sessions.answered.Goals as goal

pub answers_to-requires-clause-other : goal.answers_to-requires-clause-other
answers_to-requires-clause-other c = subst (λ (r : RuleData). IsChecked r c.args.other.now) (sym c.in_ok-holder.ensures) c.requires.other
