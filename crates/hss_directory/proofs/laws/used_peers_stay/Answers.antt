use Rattle.hss_directory.proofs.PeersLaws.{low_injective, peers_made, peers_refused}
use Rattle.hss_directory.proofs.laws.used_peers_stay.Goals as goal

pub returns-clause-made : goal.returns-clause-made
returns-clause-made c = peers_made

pub returns-clause-refused : goal.returns-clause-refused
returns-clause-refused c = peers_refused

pub returns-clause-apart : goal.returns-clause-apart
returns-clause-apart c = low_injective
