-- Opening the disks of a replica again.
use Rattle.std.specs.Prelude.{◌≡◌, false, List}
use Rattle.bec_bytes.specs.Framed.{stream_of}
use Rattle.bec_disk.specs.Disk.{DiskState, EveryImage}
use Rattle.key_index.specs.KeyState.{KeyParts}
use Rattle.key_index.specs.Opening.{OpensKey}
use Rattle.replica.specs.Opening.{IsOpened, KeepsStore}
use Rattle.schema.specs.Data.{Meaning}
use Rattle.update_log.specs.Logset.{BeginsWith}
use Rattle.update_model.specs.declared.update_id.UpdateId.{UpdateId}
use Rattle.world_rules.specs.Worlds.{SiteData, held_by}

-- The replica that stands on these disks was opened. It is up, and remembers this.
pub record OpensSite (ask : Meaning) (schema updates : DiskState) (parts : KeyParts) (remembered : List (List UpdateId)) (new : SiteData) : Type 0 where
  pub schema_is : new.schema ≡ schema
  pub opened : IsOpened ask schema updates new.store
  pub any_moment : KeepsStore ask schema updates new.store.log.disk
  pub on_disk : EveryImage new.store.log.disk.now (BeginsWith (stream_of (held_by new)))
  pub opens_key : OpensKey parts new.key
  pub up : new.is_down ≡ false
  pub remembers : new.remembered ≡ remembered
