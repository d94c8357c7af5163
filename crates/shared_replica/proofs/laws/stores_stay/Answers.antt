use Rattle.shared_replica.proofs.Going.{disk_stays, faults_rise, store_stays, updates_stay}
use Rattle.shared_replica.proofs.Lists.{updates_opened}
use Rattle.shared_replica.proofs.laws.stores_stay.Goals as goal

pub returns-clause-store : goal.returns-clause-store
returns-clause-store c = store_stays

pub returns-clause-disk : goal.returns-clause-disk
returns-clause-disk c = disk_stays

pub returns-clause-faults : goal.returns-clause-faults
returns-clause-faults c = faults_rise

pub returns-clause-updates : goal.returns-clause-updates
returns-clause-updates c = updates_stay

pub returns-clause-opened : goal.returns-clause-opened
returns-clause-opened c replica = updates_opened replica.history.members
