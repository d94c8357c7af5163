use Rattle.replica.proofs.Once.{made_one, made_or_stopped, one_late_cause}
use Rattle.replica.proofs.laws.one_make.Goals as goal

pub returns : goal.returns
returns c = record { made = made_one; refused = one_late_cause; made_or_refused = made_or_stopped }
