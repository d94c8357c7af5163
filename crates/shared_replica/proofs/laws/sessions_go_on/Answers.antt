use Rattle.shared_replica.proofs.Going.{begun_after, stepped_after, belongs_longer}
use Rattle.shared_replica.proofs.laws.sessions_go_on.Goals as goal

pub returns-clause-begun : goal.returns-clause-begun
returns-clause-begun c = begun_after

pub returns-clause-stepped : goal.returns-clause-stepped
returns-clause-stepped c = stepped_after

pub returns-clause-stays : goal.returns-clause-stays
returns-clause-stays c = belongs_longer
