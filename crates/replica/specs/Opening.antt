-- What opening and creating a store answers and leaves.
use Rattle.std.specs.Prelude.{◌≡◌, ◌≢◌, ◌⊎◌, ℕ, List, [], ◌++◌, IsTrue}
use Rattle.bec_bytes.specs.Framed.{stream_of}
use Rattle.bec_disk.specs.Disk.{DiskState, IsSameDisk, IsSettled, LeavesOnly}
use Rattle.bec_disk.specs.Gated.{IsOldOrNew, gated_of, whole_of}
use Rattle.bec_disk.specs.declared.gated.Gated.TheVariants.{Absent}
use Rattle.confluence_test.specs.Taking.{RefusesSchema, TakesSchema}
use Rattle.confluence_test.specs.declared.refusal.SchemaRefusal.TheVariants as refusals
use Rattle.schema.specs.Data.{Meaning, SchemaData}
use Rattle.update_log.specs.Log.{IsClean}
use Rattle.update_log.specs.Logset.{BeginsWith, IsLogset}
use Rattle.replica.specs.Payload.{DeclaresNone, DeclaresStore}
use Rattle.replica.specs.Replicas.{ReplicaState}
use Rattle.replica.specs.declared.open_fault.OpenKind.{OpenKind}
use Rattle.replica.specs.declared.open_fault.OpenKind.TheVariants as opening
use Rattle.replica.specs.declared.create_fault.CreateKind.{CreateKind}
use Rattle.replica.specs.declared.create_fault.CreateKind.TheVariants as creating

-- The replica is what the two parts stand for, and its log has nothing else.
pub record IsOpened (ask : Meaning) (schema updates : DiskState) (replica : ReplicaState) : Type 0 where
  pub declared : IsTrue schema.tells → DeclaresStore ask schema.seen replica.node replica.history.schema
  pub list : IsTrue updates.tells → IsLogset replica.history.schema.rule updates.seen replica.history.members
  pub clean : IsTrue updates.tells → IsClean replica.log.end replica.log.disk

-- Why a store was not opened.
abbrev pub IsOpenCause : Meaning → DiskState → OpenKind → Type 0
IsOpenCause ask schema opening.DiskFault = Unit {0}
IsOpenCause ask schema opening.NoStore = IsTrue schema.tells → gated_of schema.seen ≡ Absent
IsOpenCause ask schema opening.BadSchema = IsTrue schema.tells → DeclaresNone ask schema.seen
IsOpenCause ask schema opening.Memory = Unit {0}

-- It is the same disk, and the list that it stood for under the schema stands in front of it at each moment.
pub record KeepsStore (ask : Meaning) (schema old new : DiskState) : Type 0 where
  pub disk : IsSameDisk old new
  pub any_moment : IsTrue schema.tells → (node : List ℕ) (declared : SchemaData) (members : List (List ℕ)) → DeclaresStore ask schema.seen node declared
      → (IsTrue old.tells → IsLogset declared.rule old.seen members) → LeavesOnly old new (BeginsWith (stream_of members))

-- A store without updates was created, by this node and text. It is on the disk.
pub record IsCreated (ask : Meaning) (schema updates : DiskState) (node text : List ℕ) (replica : ReplicaState) (schema_new : DiskState) : Type 0 where
  pub absent : IsTrue schema.tells → gated_of schema.seen ≡ Absent
  pub node_is : replica.node ≡ node
  pub taken : TakesSchema ask text replica.history.schema
  pub members : IsTrue updates.tells → replica.history.members ≡ []
  pub clean : IsTrue updates.tells → IsClean replica.log.end replica.log.disk
  pub seen : IsTrue schema.tells → schema_new.seen ≡ whole_of (node ++ text)
  pub settled : IsTrue schema.tells → IsSettled schema_new

-- Why no store was created, in order.
abbrev pub IsCreateCause : Meaning → DiskState → List ℕ → CreateKind → Type 0
IsCreateCause ask schema text creating.NotEmpty = IsTrue schema.tells → gated_of schema.seen ≢ Absent
IsCreateCause ask schema text (creating.BadSchema fault) = (IsTrue schema.tells → gated_of schema.seen ≡ Absent) × RefusesSchema ask text (refusals.Schema fault)
IsCreateCause ask schema text (creating.NotConfluent declared which example) = (IsTrue schema.tells → gated_of schema.seen ≡ Absent) × RefusesSchema ask text (refusals.NotConfluent declared which example)
IsCreateCause ask schema text creating.DiskFault = Unit {0}
IsCreateCause ask schema text creating.Memory = Unit {0}

-- A refusal that writes nothing.
abbrev pub WritesNothing : CreateKind → Type 0
WritesNothing creating.NotEmpty = Unit {0}
WritesNothing (creating.BadSchema fault) = Unit {0}
WritesNothing (creating.NotConfluent declared which example) = Unit {0}
WritesNothing creating.DiskFault = ⊥
WritesNothing creating.Memory = ⊥

-- Creating, whatever it answers. A crash at any moment leaves the part Schema standing for what it stood for, or absent, or whole with the
-- new payload. It is left alone until the part Updates is empty and on the disk.
pub record Creating (schema updates : DiskState) (payload : List ℕ) (schema_new updates_new : DiskState) : Type 0 where
  pub schema_moments : LeavesOnly schema schema_new (IsOldOrNew schema.seen payload)
  pub updates_disk : IsSameDisk updates updates_new
  pub order : (schema_new ≡ schema) ⊎ (IsTrue updates.tells → IsSettled updates_new × (updates_new.seen ≡ []))

-- why a text is no store's
abbrev pub IsTextCause : Meaning → List ℕ → CreateKind → Type 0
IsTextCause ask text creating.NotEmpty = ⊥
IsTextCause ask text (creating.BadSchema fault) = RefusesSchema ask text (refusals.Schema fault)
IsTextCause ask text (creating.NotConfluent declared which example) = RefusesSchema ask text (refusals.NotConfluent declared which example)
IsTextCause ask text creating.DiskFault = ⊥
IsTextCause ask text creating.Memory = Unit {0}
