-- A directory that is opened: its store, and its key where that is needed.
use Rattle.std.specs.Prelude.{◌≡◌, ◌≢◌, ℕ, ◌≤◌, ◌<◌, List, [], ◌∷◌, false, IsTrue, Option, Some, None}
use Rattle.bec_bytes.specs.Causes.{Rose}
use Rattle.bec_disk.specs.declared.part.Part.{Part}
use Rattle.bec_disk.specs.declared.part.Part.TheVariants.{Schema, Updates, Key, Used}
use Rattle.bec_disk.specs.Disk.{DiskState, IsImage}
use Rattle.bec_disk.specs.Shelf.{ShelfState, out}
use Rattle.bec_disk.specs.Slot.{slot}
use Rattle.row_check.specs.Checksum.{is_luhn}
use Rattle.key_index.specs.KeyState.{KeyState}
use Rattle.replica.specs.Replicas.{ReplicaState}
use Rattle.key_directory.specs.Keys.{IsKeyCause, PutsKey, TakesKey}
use Rattle.key_directory.specs.Parts.{IsUntouched, KeepsAllBut, KeepsPlaces, part_in}
use Rattle.store_directory.specs.declared.open_refusal.OpenRefusal.{OpenRefusal}
use Rattle.store_directory.specs.declared.open_refusal.OpenRefusal.TheVariants as refusals
use Rattle.store_directory.specs.declared.opening.Needs.{Needs}
use Rattle.store_directory.specs.declared.opening.Needs.TheVariants as needed
use Rattle.store_directory.specs.Holding.{IsStoreCause, OpenData, PutsStore, TakesStore}
use Rattle.store_directory.specs.Stores.{IsStore, StoreData, StoreRun}

-- the parts that are needed
abbrev pub parts_for : Needs → List Part
parts_for needed.Store = Schema ∷ Updates ∷ []
parts_for needed.StoreAndKey = Schema ∷ Updates ∷ Key ∷ Used ∷ []

-- The parts of the key are in their places, where they are needed.
abbrev pub IsKeyIn : Needs → ShelfState → List ℕ → Type 0
IsKeyIn needed.Store shelf dir = Unit {0}
IsKeyIn needed.StoreAndKey shelf dir = (part_in shelf dir Key ≢ out) × (part_in shelf dir Used ≢ out)

-- The store and the key were taken, one after the other.
pub record OpensBoth (before : ShelfState) (dir : List ℕ) (store : OpenData) (key : KeyState) (after : ShelfState) : Type 0 where
  pub between : ShelfState
  pub takes : TakesStore is_luhn before dir store between
  pub takes_key : TakesKey between dir key after

-- What is needed was taken, and nothing else.
abbrev pub Opens : Needs → ShelfState → List ℕ → OpenData → Option KeyState → ShelfState → Type 0
Opens needed.Store before dir store None after = TakesStore is_luhn before dir store after
Opens needed.Store before dir store (Some key) after = ⊥
Opens needed.StoreAndKey before dir store None after = ⊥
Opens needed.StoreAndKey before dir store (Some key) after = OpensBoth before dir store key after

-- Nothing was taken: every part is in its place, and what the directory had is kept. The key was at most read.
pub record LetsAllGo (needs : Needs) (before : ShelfState) (dir : List ℕ) (after : ShelfState) : Type 0 where
  pub tells : after.tells ≡ before.tells
  pub run : IsTrue before.tells → StoreRun is_luhn before after dir [] false
  pub key : IsTrue before.tells → IsUntouched (part_in before dir Key) (part_in after dir Key)
  pub used : IsTrue before.tells → IsUntouched (part_in before dir Used) (part_in after dir Used)
  pub others : IsTrue before.tells → KeepsAllBut (parts_for needs) dir before after
  pub places : IsTrue before.tells → KeepsPlaces before after

-- Why a directory is not opened. Its key is judged where its store is one.
abbrev pub Refuses : OpenRefusal → Needs → ShelfState → List ℕ → Type 0
Refuses (refusals.Store why) needs shelf dir = IsTrue shelf.tells → IsStoreCause is_luhn shelf dir why
Refuses (refusals.Key why) needed.Store shelf dir = ⊥
Refuses (refusals.Key why) needed.StoreAndKey shelf dir = IsTrue shelf.tells → ((store : StoreData) × IsStore is_luhn shelf dir store) × IsKeyCause shelf dir why

-- The disks of a store are those of its parts, which are handed out.
pub record IsStoreOut (shelf : ShelfState) (dir : List ℕ) (schema : DiskState) (replica : ReplicaState) : Type 0 where
  pub schema_of : (schema.slot ≡ Some (slot dir Schema)) × (part_in shelf dir Schema ≡ out)
  pub updates_of : (replica.log.disk.slot ≡ Some (slot dir Updates)) × (part_in shelf dir Updates ≡ out)

-- And so are those of a key.
pub record IsKeyOut (shelf : ShelfState) (dir : List ℕ) (key : KeyState) : Type 0 where
  pub key_of : (key.parts.key.slot ≡ Some (slot dir Key)) × (part_in shelf dir Key ≡ out)
  pub used_of : (key.parts.used.slot ≡ Some (slot dir Used)) × (part_in shelf dir Used ≡ out)

-- A store was put back. A fault that one of its disks counted is counted.
pub record ClosesStore (before : ShelfState) (faults : ℕ) (dir : List ℕ) (store : OpenData) (after : ShelfState) (faults_new : ℕ) : Type 0 where
  pub puts : PutsStore before dir store.schema store.replica.log.disk after
  pub later : faults ≤ faults_new
  pub schema_faulted : 0 < store.schema_faults → Rose faults faults_new
  pub log_faulted : 0 < store.replica.log.faults → Rose faults faults_new

-- And so was a key, before the store.
pub record ClosesBoth (before : ShelfState) (faults : ℕ) (dir : List ℕ) (store : OpenData) (key : KeyState) (after : ShelfState) (faults_new : ℕ) : Type 0 where
  pub between : ShelfState
  pub counted : ℕ
  pub puts_key : PutsKey before dir key.parts between
  pub reads : IsTrue key.parts.used.tells → IsImage key.parts.used.now key.parts.used.seen
  pub later : faults ≤ counted
  pub key_faulted : 0 < key.parts.key_faults → Rose faults counted
  pub used_faulted : 0 < key.parts.used_faults → Rose faults counted
  pub closes : ClosesStore between counted dir store after faults_new

-- What was opened is in its place again.
abbrev pub Closes : ShelfState → ℕ → List ℕ → OpenData → Option KeyState → ShelfState → ℕ → Type 0
Closes before faults dir store None after faults_new = ClosesStore before faults dir store after faults_new
Closes before faults dir store (Some key) after faults_new = ClosesBoth before faults dir store key after faults_new
