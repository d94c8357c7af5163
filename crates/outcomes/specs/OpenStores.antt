-- A store that is open, and what is done to its list.
use Rattle.std.specs.Prelude.{◌≡◌, ℕ, Bool, List, IsTrue}
use Rattle.update_log.specs.Log.{IsClean}
use Rattle.replica.specs.Replicas.{ReplicaState}
use Rattle.store_directory.specs.Holding.{OpenData, WorksOn}
use Rattle.store_directory.specs.Stores.{StoreData}

-- What is done to the list of an open store, as from its taking on.
abbrev pub WorksFrom : ReplicaState → ReplicaState → List (List ℕ) → Bool → Type 0
WorksFrom old new added done = (IsTrue old.log.disk.tells → IsClean old.log.end old.log.disk) → (taken : OpenData) → taken.replica ≡ old → WorksOn taken new added done

-- the store that is open
abbrev pub opened_store : ReplicaState → StoreData
opened_store replica = record { node = replica.node; schema = replica.history.schema; members = replica.history.members }
