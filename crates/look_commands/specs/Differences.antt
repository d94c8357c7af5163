-- What differs in two stores, each in a directory or in a bundle that is read.
use Rattle.std.specs.Prelude.{◌≡◌, ◌⊎◌, ℕ, ◌≤◌, Bool, false, List, Option, Some, None, Ok, Err, IsTrue, Result, Vec, is_none}
use Rattle.std.specs.declared.alloc.Global.{Global}
use Rattle.bec_disk.specs.Shelf.{ShelfState}
use Rattle.key_directory.specs.Parts.{IsHome}
use Rattle.log_texts.specs.declared.entry.Entry.{Entry}
use Rattle.log_texts.specs.declared.style.Style.{Style}
use Rattle.log_texts.specs.Differing.{diff_text}
use Rattle.outcomes.specs.Comes.{ReadsShelf}
use Rattle.outcomes.specs.Outcome.{IsFault, Outcome}
use Rattle.outcomes.specs.Outside.{Outside}
use Rattle.outcomes.specs.StoreAnswers.{ReadsStore}
use Rattle.outcomes.specs.declared.refusal.Refusal.{Refusal}
use Rattle.outcomes.specs.declared.refusal.Refusal.TheVariants.{Memory}
use Rattle.schema.specs.Data.{SchemaData}
use Rattle.schema_verdict.specs.Verdict.{Prints}
use Rattle.store_directory.specs.Stores.{StoreData}
use Rattle.look_commands.specs.Bundles.{AreEntriesOf, BundleLacks, BundleRead}

-- What comes of listing: entries, or a refusal.
abbrev pub Listed : Type 0
Listed = Result (Vec Entry Global) Refusal

-- The outcome of a command is told as it: something is printed where there are entries, and the refusal is the same.
abbrev pub IsToldAs : Listed → Outcome → Type 0
IsToldAs (Ok entries) (Ok text) = Unit {0}
IsToldAs (Err refusal) (Err other) = other ≡ refusal
IsToldAs listed outcome = ⊥

-- where there are entries, they are those of the store
abbrev pub HasEntries : Listed → StoreData → Outcome → Type 0
HasEntries (Ok entries) store outcome = AreEntriesOf store.schema store.members entries.items
HasEntries (Err refusal) store outcome = ⊥

-- The entries of the store of a directory are listed as by a command that only reads it; or it is refused, or a fault came.
pub record ListsStore (dir : List ℕ) (before after : ShelfState) (old new : ℕ) (listed : Listed) : Type 0 where
  pub reads : (outcome : Outcome) → IsToldAs listed outcome → ReadsShelf (ReadsStore (HasEntries listed)) dir before after old new outcome
  pub tells : after.tells ≡ before.tells
  pub home : IsTrue before.tells → IsHome after
  pub later : old ≤ new

-- The source and the generator are as they were.
pub record UsesShelf {S H R : Type 0} (before after : Outside S H R) : Type 0 where
  pub source : after.source ≡ before.source
  pub left : after.left ≡ before.left
  pub faults : after.source_faults ≡ before.source_faults
  pub random : after.random ≡ before.random

-- The shelf and the generator are as they were.
pub record UsesSource {S H R : Type 0} (before after : Outside S H R) : Type 0 where
  pub shelf : after.shelf ≡ before.shelf
  pub store : after.store ≡ before.store
  pub faults : after.shelf_faults ≡ before.shelf_faults
  pub random : after.random ≡ before.random
  pub later : before.source_faults ≤ after.source_faults

-- The entries of one side are listed: of the store of a directory; or, where there is none, of the bundle that is read.
pub data ListsSide {S H R : Type 0} (framed : Bool) (before after : Outside S H R) (entries : Vec Entry Global) : Option (List ℕ) → Type 0 where
  of_store : (dir : List ℕ) → ListsStore dir before.store after.store before.shelf_faults after.shelf_faults (Ok entries) → UsesShelf before after
      → ListsSide framed before after entries (Some dir)
  of_bundle : (schema : SchemaData) (members : List (List ℕ)) → BundleRead framed before.left after.left schema members → AreEntriesOf schema members entries.items
      → UsesSource before after → ListsSide framed before after entries None

-- One side is refused, or a fault came.
pub data LacksSide {S H R : Type 0} (framed : Bool) (before after : Outside S H R) (refusal : Refusal) : Option (List ℕ) → Type 0 where
  no_store : (dir : List ℕ) → ListsStore dir before.store after.store before.shelf_faults after.shelf_faults (Err refusal) → UsesShelf before after
      → LacksSide framed before after refusal (Some dir)
  no_bundle : BundleLacks framed before.left after.left refusal ⊎ IsFault before.source_faults after.source_faults refusal → UsesSource before after
      → LacksSide framed before after refusal None

-- The first side is refused; or the second is; or the text shows which updates only one has, or memory ran out. The first of two bundles stands behind its length.
pub data ShowsDifference {S H R : Type 0} (style : Style) (first second : Option (List ℕ)) (before after : Outside S H R) (outcome : Outcome) : Type 0 where
  lacks_first : (refusal : Refusal) → LacksSide (is_none second) before after refusal first → outcome ≡ Err refusal → ShowsDifference style first second before after outcome
  lacks_second : (between : Outside S H R) (firsts : Vec Entry Global) (refusal : Refusal) → ListsSide (is_none second) before between firsts first
      → LacksSide false between after refusal second → outcome ≡ Err refusal → ShowsDifference style first second before after outcome
  differ : (between : Outside S H R) (firsts seconds : Vec Entry Global) → ListsSide (is_none second) before between firsts first → ListsSide false between after seconds second
      → Prints outcome (diff_text style firsts.items seconds.items) ⊎ (outcome ≡ Err Memory) → ShowsDifference style first second before after outcome
