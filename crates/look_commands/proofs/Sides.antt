-- The entries of a store, from its opening to what a difference is made of.
use Rattle.std.proofs.Common.{◌≡◌, ◌∙◌, ◌⊎◌, ◌≤◌, arith, inl, inr, ℕ, Bool, List, refl, subst, sym, IsTrue, Ok, Err, IfErr, IfOk, None, Some, Option, Vec}
use Rattle.std.specs.declared.alloc.Global.{Global}
use Rattle.bec_bytes.specs.Causes.{Rose}
use Rattle.bec_disk.specs.Shelf.{ShelfState}
use Rattle.key_directory.specs.Parts.{IsHome}
use Rattle.key_index.specs.KeyState.{KeyState}
use Rattle.log_texts.specs.declared.entry.Entry.{Entry}
use Rattle.outcomes.proofs.Reading.{open_answered, open_refused}
use Rattle.outcomes.specs.Comes.{ReadsShelf}
use Rattle.outcomes.specs.Outcome.{IsFault, Outcome, from_open}
use Rattle.outcomes.specs.Outside.{Outside}
use Rattle.outcomes.specs.StoreAnswers.{ReadsStore}
use Rattle.outcomes.specs.declared.refusal.Refusal.{Refusal}
use Rattle.outcomes.specs.declared.refusal.Refusal.TheVariants.{Memory}
use Rattle.schema.specs.Data.{SchemaData}
use Rattle.store_directory.proofs.Readings.{OneSchema}
use Rattle.store_directory.proofs.Working.{store_of}
use Rattle.store_directory.specs.Holding.{OpenData}
use Rattle.store_directory.specs.Opening.{Closes, LetsAllGo, Opens, Refuses}
use Rattle.store_directory.specs.Standing.{Stands}
use Rattle.store_directory.specs.declared.open_refusal.OpenRefusal.{OpenRefusal}
use Rattle.store_directory.specs.declared.open_refusal.OpenRefusal.TheVariants as open_refusals
use Rattle.store_directory.specs.declared.opening.Needs.TheVariants as needed
use Rattle.store_directory.specs.declared.store_refusal.StoreRefusal.TheVariants.{DiskFault}
use Rattle.look_commands.specs.Bundles.{AreEntriesOf, BundleLacks, BundleRead}
use Rattle.look_commands.specs.Differences.{HasEntries, IsToldAs, LacksSide, Listed, ListsSide, ListsStore, UsesShelf, UsesSource, no_bundle, no_store, of_bundle, of_store}

-- what holds of a refusal holds of an outcome that tells it
of_refused : (refusal : Refusal) (P : Outcome → Type 0) → P (Err refusal) → (outcome : Outcome) → IsToldAs (Err refusal) outcome → P outcome
of_refused refusal P holds (Ok text) told = absurd told
of_refused refusal P holds (Err other) told = subst (λ (r : Refusal). P (Err r)) (sym told) holds

module _ (dir : List ℕ) (before after : ShelfState) (old new : ℕ) (home : IsTrue before.tells → IsHome before) where
  -- where the directory was not opened
  pub unopened : (why : OpenRefusal) → LetsAllGo needed.Store before dir after → Refuses why needed.Store before dir → (why ≡ open_refusals.Store DiskFault → Rose old new) → old ≤ new
      → ListsStore dir before after old new (Err (from_open why))
  unopened why lets cause failed later =
      let refused = open_refused (HasEntries (Err (from_open why))) dir before after old new why home lets cause failed in
      record { reads = of_refused (from_open why) (λ outcome. ReadsShelf (ReadsStore (HasEntries (Err (from_open why)))) dir before after old new outcome) refused; tells = lets.tells; home = refused.runs.home; later = later }

  -- where it was opened, listed and closed
  module _ (one : OneSchema) (opened : ShelfState) (counted : ℕ) (store : OpenData) (key : Option KeyState) (opens : Opens needed.Store before dir store key opened)
      (closes : Closes opened counted dir store key after new) (stands : Stands store.replica) (later : old ≤ counted) where
    answered : (listed : Listed) (outcome : Outcome) → HasEntries listed (store_of store.replica) outcome ⊎ (outcome ≡ Err Memory) → ReadsShelf (ReadsStore (HasEntries listed)) dir before after old new outcome
    answered listed outcome answers = open_answered (HasEntries listed) dir before after old new one opened counted store key outcome home opens closes stands answers

    still_tells : (key : Option KeyState) → Opens needed.Store before dir store key opened → Closes opened counted dir store key after new → after.tells ≡ before.tells
    still_tells None opens closes = closes.puts.tells ∙ opens.tells
    still_tells (Some key) opens closes = absurd opens

    counted_later : (key : Option KeyState) → Opens needed.Store before dir store key opened → Closes opened counted dir store key after new → old ≤ new
    counted_later None opens closes = omega (arith, later, closes.later)
    counted_later (Some key) opens closes = absurd opens

    lacked : (listed : Listed) → ReadsShelf (ReadsStore (HasEntries listed)) dir before after old new (Err Memory)
    lacked listed = answered listed (Err Memory) (inr refl)

    pub unlisted : ListsStore dir before after old new (Err Memory)
    unlisted = record {
      reads = of_refused Memory (λ outcome. ReadsShelf (ReadsStore (HasEntries (Err Memory))) dir before after old new outcome) (lacked (Err Memory));
      tells = still_tells key opens closes;
      home = (lacked (Err Memory)).runs.home;
      later = counted_later key opens closes;
    }

    pub listed_whole : (entries : Vec Entry Global) → AreEntriesOf store.replica.history.schema store.replica.history.members entries.items → ListsStore dir before after old new (Ok entries)
    listed_whole entries are = record { reads = by; tells = still_tells key opens closes; home = (lacked (Ok entries)).runs.home; later = counted_later key opens closes }
      where
        by : (outcome : Outcome) → IsToldAs (Ok entries) outcome → ReadsShelf (ReadsStore (HasEntries (Ok entries))) dir before after old new outcome
        by (Ok text) told = answered (Ok entries) (Ok text) (inl are)
        by (Err other) told = absurd told

-- one side, in a directory or in a bundle
module _ {S H R : Type 0} (framed : Bool) (before after : Outside S H R) where
  pub store_side : (dir : List ℕ) (listed : Listed) → ListsStore dir before.store after.store before.shelf_faults after.shelf_faults listed → UsesShelf before after
      → IfOk listed (λ entries. ListsSide framed before after entries (Some dir)) × IfErr listed (λ refusal. LacksSide framed before after refusal (Some dir))
  store_side dir (Ok entries) lists uses = (of_store dir lists uses, tt)
  store_side dir (Err refusal) lists uses = (tt, no_store dir lists uses)

  pub bundle_side : (listed : Listed)
      → IfOk listed (λ entries. (schema : SchemaData) × (members : List (List ℕ)) × BundleRead framed before.left after.left schema members × AreEntriesOf schema members entries.items)
      → IfErr listed (λ refusal. BundleLacks framed before.left after.left refusal ⊎ IsFault before.source_faults after.source_faults refusal) → UsesSource before after
      → IfOk listed (λ entries. ListsSide framed before after entries None) × IfErr listed (λ refusal. LacksSide framed before after refusal None)
  bundle_side (Ok entries) read lacks uses = (of_bundle read.0 read.1 read.2 read.3 uses, tt)
  bundle_side (Err refusal) read lacks uses = (tt, no_bundle lacks uses)
