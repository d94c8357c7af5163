use Rattle.shared_replica.proofs.Going.{seen_after}
use Rattle.shared_replica.proofs.Lists.{updates_begin}
use Rattle.shared_replica.proofs.laws.acts_see_more.Goals as goal

pub returns-clause-updates : goal.returns-clause-updates
returns-clause-updates c = updates_begin

pub returns-clause-seen : goal.returns-clause-seen
returns-clause-seen c = seen_after
