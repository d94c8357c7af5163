use Rattle.std.proofs.Common.{[], subst, sym}
use Rattle.explanations.specs.Heard.{HasHeard, Hearing}
use Rattle.explanations.proofs.Hearings.{none_heard}
use Rattle.explanations.proofs.listening.Listening.new.Goals as goal

pub returns-clause-heard : goal.returns-clause-heard
returns-clause-heard g c = subst (λ (hearing : Hearing). HasHeard hearing []) (sym c.new.ensures) (none_heard _)
