-- What holds of each store that is open.
use Rattle.std.specs.Prelude.{◌≡◌, IsTrue, length}
use Rattle.bec_bytes.specs.Framed.{stream_of}
use Rattle.bec_disk.specs.Disk.{EveryImage}
use Rattle.row_check.specs.Checksum.{is_luhn}
use Rattle.confluence_test.specs.Taking.{TakesSchema}
use Rattle.history.specs.Histories.{IsHistory}
use Rattle.replica.specs.Replicas.{ReplicaState}
use Rattle.update_log.specs.Log.{IsLogOf}
use Rattle.update_log.specs.Logset.{BeginsWith}

-- The id of its node has 32 bytes. Each invariant of its schema survives merging; its updates are a closed list under the schema, its log has their
-- records, and a crash leaves them in front.
pub record Stands (replica : ReplicaState) : Type 0 where
  pub node : length replica.node ≡ 32
  pub taken : TakesSchema is_luhn replica.history.schema.text replica.history.schema
  pub history_is : IsHistory replica.history
  pub log_is : IsLogOf replica.history.members replica.log
  pub on_disk : IsTrue replica.log.disk.tells → EveryImage replica.log.disk.now (BeginsWith (stream_of replica.history.members))
