-- A store that is taken from a shelf, and put back.
use Rattle.std.specs.Prelude.{◌≡◌, ◌≢◌, ℕ, Bool, true, false, List, [], ◌∷◌, ◌++◌, IsTrue, Option, Some}
use Rattle.bec_bytes.specs.Framed.{stream_of}
use Rattle.bec_disk.specs.Disk.{DiskState, EveryImage, IsSameDisk, LeavesOnly, handed_out}
use Rattle.bec_disk.specs.declared.part.Part.TheVariants.{Schema, Updates}
use Rattle.bec_disk.specs.Shelf.{KeepsOthers, ShelfState, out, stands}
use Rattle.bec_disk.specs.Slot.{slot}
use Rattle.schema.specs.Data.{Meaning}
use Rattle.update_check.specs.Members.{AreMembers}
use Rattle.update_log.specs.Log.{IsClean, IsLogOf}
use Rattle.update_log.specs.Logset.{BeginsWith}
use Rattle.replica.specs.Opening.{IsOpened, KeepsStore}
use Rattle.replica.specs.Replicas.{ReplicaState}
use Rattle.store_directory.specs.declared.store_refusal.StoreRefusal.{StoreRefusal}
use Rattle.store_directory.specs.declared.store_refusal.StoreRefusal.TheVariants.{NoStore, BadStore, DiskFault, Memory}
use Rattle.key_directory.specs.Parts.{KeepsAllBut, KeepsPlaces, part_in, reading}
use Rattle.store_directory.specs.Stores.{IsBadStore, IsNoStore, KeepsList, ReadsAs, StoreData, StoreRun}

-- An open store: the disk of its part Schema with that disk's faults, and the replica.
pub record OpenData : Type 0 where
  pub schema : DiskState
  pub schema_faults : ℕ
  pub replica : ReplicaState

-- Both parts stood in the directory. They are handed out, as the store that they read as; no other part has changed.
pub record TakesStore (ask : Meaning) (before : ShelfState) (dir : List ℕ) (open_store : OpenData) (after : ShelfState) : Type 0 where
  pub tells : after.tells ≡ before.tells
  pub schema_tells : open_store.schema.tells ≡ before.tells
  pub updates_tells : open_store.replica.log.disk.tells ≡ before.tells
  pub schema : IsTrue before.tells → (part : DiskState) × (part_in before dir Schema ≡ stands part) × (open_store.schema ≡ handed_out (slot dir Schema) part)
  pub updates : IsTrue before.tells → (part : DiskState) × (part_in before dir Updates ≡ stands part)
      × IsOpened ask open_store.schema (handed_out (slot dir Updates) part) open_store.replica
      × KeepsStore ask open_store.schema (handed_out (slot dir Updates) part) open_store.replica.log.disk
  pub schema_out : IsTrue before.tells → part_in after dir Schema ≡ out
  pub updates_out : IsTrue before.tells → part_in after dir Updates ≡ out
  pub others : KeepsAllBut (Schema ∷ Updates ∷ []) dir before after

-- What calls on a store that was taken have done by now: these updates were added behind its list, which a crash at each moment of them left in
-- front, and one now leaves with them. Where they are done, the log has nothing else.
pub record WorksOn (taken : OpenData) (now : ReplicaState) (added : List (List ℕ)) (is_done : Bool) : Type 0 where
  pub schema : now.history.schema ≡ taken.replica.history.schema
  pub members : now.history.members ≡ taken.replica.history.members ++ added
  pub closed : AreMembers now.history.schema.rule now.history.members
  pub any_moment : LeavesOnly taken.replica.log.disk now.log.disk (BeginsWith (stream_of taken.replica.history.members))
  pub on_disk : IsTrue now.log.disk.tells → EveryImage now.log.disk.now (BeginsWith (stream_of now.history.members))
  pub log : is_done ≡ true → IsLogOf now.history.members now.log
  pub clean : is_done ≡ true → IsTrue now.log.disk.tells → IsClean now.log.end now.log.disk

-- What a store that was open is by now: these updates stand behind its list, and a crash now leaves them in front. Where it is done, the log has nothing
-- else. What a crash leaves in between is not told.
pub record HoldsOn (old now : ReplicaState) (added : List (List ℕ)) (is_done : Bool) : Type 0 where
  pub schema : now.history.schema ≡ old.history.schema
  pub members : now.history.members ≡ old.history.members ++ added
  pub closed : AreMembers now.history.schema.rule now.history.members
  pub disk : IsSameDisk old.log.disk now.log.disk
  pub on_disk : IsTrue now.log.disk.tells → EveryImage now.log.disk.now (BeginsWith (stream_of now.history.members))
  pub log : is_done ≡ true → IsLogOf now.history.members now.log
  pub clean : is_done ≡ true → IsTrue now.log.disk.tells → IsClean now.log.end now.log.disk

-- No store was taken: every part is in its place, and what the directory had is kept.
pub record LetsGo (ask : Meaning) (before : ShelfState) (dir : List ℕ) (after : ShelfState) : Type 0 where
  pub tells : after.tells ≡ before.tells
  pub run : IsTrue before.tells → StoreRun ask before after dir [] false
  pub others : IsTrue before.tells → KeepsAllBut (Schema ∷ Updates ∷ []) dir before after
  pub places : IsTrue before.tells → KeepsPlaces before after

-- Why no store was taken of two parts, by what they read as.
abbrev pub IsRefusalCause : Meaning → Option (List ℕ) → Option (List ℕ) → StoreRefusal → Type 0
IsRefusalCause ask schema updates NoStore = IsNoStore schema
IsRefusalCause ask schema updates BadStore = IsBadStore ask schema updates
IsRefusalCause ask schema updates DiskFault = Unit {0}
IsRefusalCause ask schema updates Memory = Unit {0}

-- Why no store was taken of a directory.
abbrev pub IsStoreCause : Meaning → ShelfState → List ℕ → StoreRefusal → Type 0
IsStoreCause ask shelf dir why = IsRefusalCause ask (reading (part_in shelf dir Schema)) (reading (part_in shelf dir Updates)) why

-- The part Updates stood in the directory. It is handed out, as the list of the store that it reads as beside this part Schema.
pub record TakesUpdates (ask : Meaning) (before : ShelfState) (dir : List ℕ) (schema : DiskState) (replica : ReplicaState) (after : ShelfState) : Type 0 where
  pub tells : after.tells ≡ before.tells
  pub disk_tells : replica.log.disk.tells ≡ before.tells
  pub part : IsTrue before.tells → (part : DiskState) × (part_in before dir Updates ≡ stands part)
      × IsOpened ask schema (handed_out (slot dir Updates) part) replica
      × KeepsStore ask schema (handed_out (slot dir Updates) part) replica.log.disk
  pub is_out : IsTrue before.tells → part_in after dir Updates ≡ out
  pub others : KeepsOthers before (slot dir Updates) after

-- No list was taken beside this part Schema: the part Updates is in its place, and its list is kept.
pub record LetsUpdatesGo (ask : Meaning) (before : ShelfState) (dir : List ℕ) (schema : DiskState) (after : ShelfState) : Type 0 where
  pub tells : after.tells ≡ before.tells
  pub list : IsTrue before.tells → IsTrue schema.tells → (store : StoreData) → ReadsAs ask (Some schema.seen) (reading (part_in before dir Updates)) store
      → KeepsList store [] (part_in before dir Updates) (part_in after dir Updates)
  pub in_place : IsTrue before.tells → part_in after dir Updates ≢ out
  pub others : IsTrue before.tells → KeepsOthers before (slot dir Updates) after

-- Both parts stand in their places again, as these disks.
pub record PutsStore (before : ShelfState) (dir : List ℕ) (schema updates : DiskState) (after : ShelfState) : Type 0 where
  pub tells : after.tells ≡ before.tells
  pub schema_back : IsTrue before.tells → part_in after dir Schema ≡ stands schema
  pub updates_back : IsTrue before.tells → part_in after dir Updates ≡ stands updates
  pub others : IsTrue before.tells → KeepsAllBut (Schema ∷ Updates ∷ []) dir before after
