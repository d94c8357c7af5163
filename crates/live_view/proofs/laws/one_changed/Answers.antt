use Rattle.live_view.proofs.Differing.{one_made}
use Rattle.live_view.proofs.laws.one_changed.Goals as goal

pub returns : goal.returns
returns c = one_made
