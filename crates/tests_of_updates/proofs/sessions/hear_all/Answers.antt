use Rattle.std.proofs.Common.{◌∙◌, subst, sym}
use Rattle.update_model.specs.Rule.{RuleData}
use Rattle.update_check.specs.Signed.{IsChecked}
use Rattle.tests_of_updates.proofs.sessions.hear_all.Goals as goal

pub frame_for-requires-clause-other : goal.frame_for-requires-clause-other
frame_for-requires-clause-other c = subst (λ (r : RuleData). IsChecked r c.args.other.now) (sym (c.rule.ensures ∙ c.frames.invariant.rule)) c.requires.other
