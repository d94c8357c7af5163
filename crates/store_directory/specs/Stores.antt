-- Stores on a shelf, and what a run leaves of them.
use Rattle.std.specs.Prelude.{◌≡◌, ◌≢◌, ◌⊎◌, ℕ, Bool, true, List, [], ◌++◌, Option, Some, None}
use Rattle.bec_bytes.specs.Framed.{stream_of}
use Rattle.bec_disk.specs.declared.part.Part.TheVariants.{Schema, Updates}
use Rattle.bec_disk.specs.Disk.{EveryImage, LeavesSince}
use Rattle.bec_disk.specs.Gated.{gated_of}
use Rattle.bec_disk.specs.declared.gated.Gated.TheVariants.{Absent}
use Rattle.bec_disk.specs.Shelf.{PartState, ShelfState, moments_of}
use Rattle.schema.specs.Data.{Meaning, SchemaData}
use Rattle.update_check.specs.Members.{AreMembers}
use Rattle.update_log.specs.Logset.{BeginsWith, IsLogset}
use Rattle.replica.specs.Payload.{DeclaresNone, DeclaresStore}
use Rattle.key_directory.specs.Parts.{IfStands, IsUntouched, part_in, reading}

-- A store: the id of its node, its schema, and its updates in the order of arrival.
pub record StoreData : Type 0 where
  pub node : List ℕ
  pub schema : SchemaData
  pub members : List (List ℕ)

-- the store with these updates behind its own
abbrev pub with_added : StoreData → List (List ℕ) → StoreData
with_added store added = record { node = store.node; schema = store.schema; members = store.members ++ added }

-- The two parts read as this store: the part Schema declares it, and the part Updates stands for its updates.
abbrev pub ReadsAs : Meaning → Option (List ℕ) → Option (List ℕ) → StoreData → Type 0
ReadsAs ask (Some schema) (Some updates) store = DeclaresStore ask schema store.node store.schema × IsLogset store.schema.rule updates store.members
ReadsAs ask (Some schema) None store = ⊥
ReadsAs ask None updates store = ⊥

-- The directory has this store.
abbrev pub IsStore : Meaning → ShelfState → List ℕ → StoreData → Type 0
IsStore ask shelf dir store = ReadsAs ask (reading (part_in shelf dir Schema)) (reading (part_in shelf dir Updates)) store

-- There is no part Schema, or it is absent behind its gate.
abbrev pub IsNoStore : Option (List ℕ) → Type 0
IsNoStore None = Unit {0}
IsNoStore (Some schema) = gated_of schema ≡ Absent

-- The part Schema is not absent, and there is no part Updates beside it, or it declares no store.
abbrev pub IsBadStore : Meaning → Option (List ℕ) → Option (List ℕ) → Type 0
IsBadStore ask None updates = ⊥
IsBadStore ask (Some schema) None = gated_of schema ≢ Absent
IsBadStore ask (Some schema) (Some updates) = DeclaresNone ask schema

-- What a run does to the list of a store: these were added behind it. A crash at a moment of the run leaves a log that begins with the list at
-- entry, and one after it a log that begins with the list now; or the part was not touched, and nothing was added.
pub record KeepsList (store : StoreData) (added : List (List ℕ)) (old new : PartState) : Type 0 where
  pub closed : AreMembers store.schema.rule (store.members ++ added)
  pub any_moment : LeavesSince (moments_of old) (moments_of new) (BeginsWith (stream_of store.members))
  pub from_now : ((new ≡ old) × (added ≡ [])) ⊎ IfStands new (λ part. EveryImage part.now (BeginsWith (stream_of (store.members ++ added))))

-- The same of the end of a run alone.
pub record HoldsList (store : StoreData) (added : List (List ℕ)) (old new : PartState) : Type 0 where
  pub closed : AreMembers store.schema.rule (store.members ++ added)
  pub from_now : ((new ≡ old) × (added ≡ [])) ⊎ IfStands new (λ part. EveryImage part.now (BeginsWith (stream_of (store.members ++ added))))

-- A run over the store of a directory, whatever it answers. These updates were added to the list of the store; where the run is done, the
-- directory has the store with them.
pub record StoreRun (ask : Meaning) (before after : ShelfState) (dir : List ℕ) (added : List (List ℕ)) (is_done : Bool) : Type 0 where
  pub list : (store : StoreData) → IsStore ask before dir store → KeepsList store added (part_in before dir Updates) (part_in after dir Updates)
  pub reads : is_done ≡ true → (store : StoreData) → IsStore ask before dir store → IsStore ask after dir (with_added store added)
  pub schema : IsUntouched (part_in before dir Schema) (part_in after dir Schema)

-- The same of the end of a run alone: what a crash leaves at the moments of the run is not told.
pub record HoldsRun (ask : Meaning) (before after : ShelfState) (dir : List ℕ) (added : List (List ℕ)) (is_done : Bool) : Type 0 where
  pub list : (store : StoreData) → IsStore ask before dir store → HoldsList store added (part_in before dir Updates) (part_in after dir Updates)
  pub reads : is_done ≡ true → (store : StoreData) → IsStore ask before dir store → IsStore ask after dir (with_added store added)
  pub schema : IsUntouched (part_in before dir Schema) (part_in after dir Schema)
