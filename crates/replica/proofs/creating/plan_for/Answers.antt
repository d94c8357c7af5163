use Rattle.std.proofs.Common.{subst, sym}
use Rattle.replica.specs.Opening.{IsTextCause}
use Rattle.replica.proofs.Creates.{text_refused}
use Rattle.replica.proofs.creating.plan_for.Goals as goal

pub returns-in-Err-clause-refused : goal.returns-in-Err-clause-refused
returns-in-Err-clause-refused g c =
    subst (λ why. IsTextCause g.L.Relation.answer c.args.text.now why) (sym c.refusal_kind.ensures) (text_refused g.L.Relation.answer c.args.text.now c.in-Err.refusal c.in-Err.ensures.refused)
