-- What a replica is.
use Rattle.std.specs.Prelude.{◌≡◌, ℕ, List, length}
use Rattle.schema.specs.Data.{Meaning}
use Rattle.confluence_test.specs.Taking.{TakesSchema}
use Rattle.history.specs.Histories.{HistoryData}
use Rattle.update_log.specs.Log.{LogState, IsLogOf}

-- The id of its node, its schema with the updates that it holds, and the log that they stand in.
pub record ReplicaState : Type 0 where
  pub node : List ℕ
  pub history : HistoryData
  pub log : LogState

-- Each invariant of the schema survives merging, and the log has the records of what it holds. By the log's type a crash at
-- this moment leaves them in front.
pub record IsReplica (ask : Meaning) (replica : ReplicaState) : Type 0 where
  pub node : length replica.node ≡ 32
  pub taken : TakesSchema ask replica.history.schema.text replica.history.schema
  pub log : IsLogOf replica.history.members replica.log

-- It is the same store: the node, the schema and the disk's part are as they were.
pub record IsSameStore (old new : ReplicaState) : Type 0 where
  pub node : new.node ≡ old.node
  pub schema : new.history.schema ≡ old.history.schema
