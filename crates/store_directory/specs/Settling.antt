-- A store whose list grew while it was open.
use Rattle.std.specs.Prelude.{◌≡◌, ℕ, List, ◌++◌}
use Rattle.bec_disk.specs.Disk.{IsSameDisk}
use Rattle.replica.specs.Replicas.{IsSameStore, ReplicaState}

-- It is the same store on the same disk, and its list grew behind.
pub record KeepsGrowing (old now : ReplicaState) : Type 0 where
  pub store : IsSameStore old now
  pub disk : IsSameDisk old.log.disk now.log.disk
  pub added : List (List ℕ)
  pub members : now.history.members ≡ old.history.members ++ added
