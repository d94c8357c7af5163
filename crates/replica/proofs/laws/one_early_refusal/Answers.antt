use Rattle.replica.proofs.Once.{made_or_refused, one_make_cause}
use Rattle.replica.proofs.laws.one_early_refusal.Goals as goal

pub returns : goal.returns
returns c = record { refused = one_make_cause; made_or_refused = made_or_refused }
