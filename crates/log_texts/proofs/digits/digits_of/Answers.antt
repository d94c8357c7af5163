use Rattle.std.proofs.Common.{◌∙◌, sym}
use Rattle.log_texts.proofs.Tried.{digits_next}
use Rattle.log_texts.proofs.digits.digits_of.Goals as goal

pub loop-digits-preserved : goal.loop-digits-preserved
loop-digits-preserved c = c.loop-digits.invariant ∙ digits_next c.args.ids.now c.loop-digits.digits (search) (sym c.in_ok-are_apart.ensures ∙ c.if-branch.false)
