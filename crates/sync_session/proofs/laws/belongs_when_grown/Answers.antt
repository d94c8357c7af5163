use Rattle.sync_session.proofs.Growing.{belongs_grown}
use Rattle.sync_session.proofs.laws.belongs_when_grown.Goals as goal

pub returns : goal.returns
returns c = belongs_grown
