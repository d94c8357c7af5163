use Rattle.shared_replica.proofs.Lists.{opening_made}
use Rattle.shared_replica.proofs.shared.Shared.new.Goals as goal

pub new-requires-2 : goal.new-requires-2
new-requires-2 g c = opening_made c.args.replica _ c.new.ensures.entries
