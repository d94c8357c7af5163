-- What `clone` of a bundle or of the store of another directory comes to.
use Rattle.std.specs.Prelude.{◌≡◌, ℕ, ◌≤◌, List, IsTrue, Vec, Ok, Err}
use Rattle.std.specs.declared.alloc.Global.{Global}
use Rattle.rand_core.specs.Stream.{Stream}
use Rattle.bec_disk.specs.Shelf.{ShelfState}
use Rattle.key_directory.specs.Parts.{IsHome}
use Rattle.outcomes.specs.declared.refusal.Refusal.{Refusal}
use Rattle.outcomes.specs.declared.refusal.Refusal.TheVariants.{StoreThere}
use Rattle.outcomes.specs.Comes.{IsShelfFault, ReadsShelf}
use Rattle.outcomes.specs.Outcome.{Outcome}
use Rattle.outcomes.specs.Outside.{Outside}
use Rattle.outcomes.specs.StoreAnswers.{ReadsStore}
use Rattle.store_directory.specs.Stores.{StoreData}
use Rattle.schema.specs.Data.{SchemaData}
use Rattle.import_commands.specs.Importing.{Imports, IsNotThere, IsThere, LooksThere, PutsIn}

-- The source and the generator are as they were.
pub record UsesShelf {S H R : Type 0} (before after : Outside S H R) : Type 0 where
  pub source : after.source ≡ before.source
  pub left : after.left ≡ before.left
  pub faults : after.source_faults ≡ before.source_faults
  pub random : after.random ≡ before.random
  pub stream : after.stream ≡ before.stream

-- `clone` of a bundle, for which it is looked first whether there is a store. Where there is, nothing is read; where there is none, it is imported.
pub data ClonesBundle {S H R : Type 0} (dir : List ℕ) (before after : Outside S H R) (outcome : Outcome) : Type 0 where
  unknown : LooksThere dir before.store after.store before.shelf_faults after.shelf_faults → IsShelfFault before.shelf_faults after.shelf_faults outcome → UsesShelf before after
      → ClonesBundle dir before after outcome
  there : LooksThere dir before.store after.store before.shelf_faults after.shelf_faults → IsThere dir before.store → UsesShelf before after → outcome ≡ Err StoreThere
      → ClonesBundle dir before after outcome
  imported : (between : Outside S H R) → LooksThere dir before.store between.store before.shelf_faults between.shelf_faults → IsNotThere dir before.store → UsesShelf before between
      → Imports dir between after outcome → ClonesBundle dir before after outcome

-- A store has this schema and these updates.
abbrev pub HasThese : SchemaData → List (List ℕ) → StoreData → Outcome → Type 0
HasThese schema members store outcome = (store.schema ≡ schema) × (store.members ≡ members)

-- no store has what is asked for
abbrev pub HasNone : StoreData → Outcome → Type 0
HasNone store outcome = ⊥

-- The schema and the updates of the store of a directory are copied, as by a command that only reads it.
abbrev pub CopiesStore : List ℕ → ShelfState → ShelfState → ℕ → ℕ → SchemaData → List (List ℕ) → Type 0
CopiesStore dir before after old new schema members = (text : Vec ℕ Global) → ReadsShelf (ReadsStore (HasThese schema members)) dir before after old new (Ok text)

-- They are not: the store is refused, or a fault came.
abbrev pub LacksStore : List ℕ → ShelfState → ShelfState → ℕ → ℕ → Refusal → Type 0
LacksStore dir before after old new refusal = ReadsShelf (ReadsStore HasNone) dir before after old new (Err refusal)

-- Every part is in its place again.
pub record KeepsHome (before after : ShelfState) (old new : ℕ) : Type 0 where
  pub tells : after.tells ≡ before.tells
  pub home : IsTrue after.tells → IsHome after
  pub later : old ≤ new

-- `clone` of the store of another directory, for which it is looked first whether there is a store. Where there is, the other one is not opened; where
-- there is none, what that holds is copied and put in.
pub data ClonesStore (from dir : List ℕ) (stream stream_new : Stream) (before after : ShelfState) (old new : ℕ) (outcome : Outcome) : Type 0 where
  unknown : LooksThere dir before after old new → IsShelfFault old new outcome → stream_new ≡ stream → ClonesStore from dir stream stream_new before after old new outcome
  there : LooksThere dir before after old new → IsThere dir before → stream_new ≡ stream → outcome ≡ Err StoreThere → ClonesStore from dir stream stream_new before after old new outcome
  lacks : (mid : ShelfState) (counted : ℕ) (refusal : Refusal) → LooksThere dir before mid old counted → IsNotThere dir before → LacksStore from mid after counted new refusal
      → stream_new ≡ stream → outcome ≡ Err refusal → ClonesStore from dir stream stream_new before after old new outcome
  put : (mid copied : ShelfState) (counted copied_counted : ℕ) (schema : SchemaData) (members : List (List ℕ)) → LooksThere dir before mid old counted → IsNotThere dir before
      → CopiesStore from mid copied counted copied_counted schema members → KeepsHome mid copied counted copied_counted
      → PutsIn (record { text = schema.text; updates = members }) dir stream stream_new copied after copied_counted new outcome
      → ClonesStore from dir stream stream_new before after old new outcome
