-- Copying what the store of a directory holds.
use Rattle.std.proofs.Common.{◌≡◌, ◌∙◌, ◌≤◌, arith, inl, inr, ℕ, List, refl, sym, IsTrue, Ok, Err, None, Some, Option}
use Rattle.bec_bytes.specs.Causes.{Rose}
use Rattle.bec_disk.specs.Shelf.{ShelfState}
use Rattle.key_directory.proofs.Putting.{told}
use Rattle.key_directory.specs.Parts.{IsHome}
use Rattle.key_index.specs.KeyState.{KeyState}
use Rattle.outcomes.proofs.Reading.{open_answered, open_refused}
use Rattle.outcomes.specs.Outcome.{from_open}
use Rattle.outcomes.specs.declared.refusal.Refusal.TheVariants.{Memory}
use Rattle.schema.specs.Data.{SchemaData}
use Rattle.store_directory.proofs.Readings.{OneSchema}
use Rattle.store_directory.specs.Holding.{OpenData}
use Rattle.store_directory.specs.Opening.{Closes, LetsAllGo, Opens, Refuses}
use Rattle.store_directory.specs.Standing.{Stands}
use Rattle.store_directory.specs.declared.open_refusal.OpenRefusal.{OpenRefusal}
use Rattle.store_directory.specs.declared.open_refusal.OpenRefusal.TheVariants as open_refusals
use Rattle.store_directory.specs.declared.opening.Needs.TheVariants as needed
use Rattle.store_directory.specs.declared.store_refusal.StoreRefusal.TheVariants.{DiskFault}
use Rattle.import_commands.specs.Cloning.{CopiesStore, HasNone, HasThese, KeepsHome, LacksStore}

module _ (dir : List ℕ) (before after : ShelfState) (old new : ℕ) (home : IsTrue before.tells → IsHome before) where
  -- where the directory was not opened
  pub unopened_lacks : (why : OpenRefusal) → LetsAllGo needed.Store before dir after → Refuses why needed.Store before dir → (why ≡ open_refusals.Store DiskFault → Rose old new)
      → LacksStore dir before after old new (from_open why)
  unopened_lacks why lets cause failed = open_refused HasNone dir before after old new why home lets cause failed

  pub unopened_keeps : LetsAllGo needed.Store before dir after → old ≤ new → KeepsHome before after old new
  unopened_keeps lets later = record {
    tells = lets.tells;
    home = λ tells place. let was = told after.tells before.tells (sym lets.tells) tells in lets.places was place (home was place);
    later = later;
  }

  -- where it was opened, copied and closed
  module _ (one : OneSchema) (opened : ShelfState) (counted : ℕ) (store : OpenData) (key : Option KeyState) (opens : Opens needed.Store before dir store key opened)
      (closes : Closes opened counted dir store key after new) (stands : Stands store.replica) (later : old ≤ counted) where
    still_tells : (key : Option KeyState) → Opens needed.Store before dir store key opened → Closes opened counted dir store key after new → after.tells ≡ before.tells
    still_tells None opens closes = closes.puts.tells ∙ opens.tells
    still_tells (Some key) opens closes = absurd opens

    counted_later : (key : Option KeyState) → Opens needed.Store before dir store key opened → Closes opened counted dir store key after new → old ≤ new
    counted_later None opens closes = omega (arith, later, closes.later)
    counted_later (Some key) opens closes = absurd opens

    pub copied : (schema : SchemaData) (members : List (List ℕ)) → store.replica.history.schema ≡ schema → store.replica.history.members ≡ members → CopiesStore dir before after old new schema members
    copied schema members same are = λ text. open_answered (HasThese schema members) dir before after old new one opened counted store key (Ok text) home opens closes stands (inl (same, are))

    pub uncopied : LacksStore dir before after old new Memory
    uncopied = open_answered HasNone dir before after old new one opened counted store key (Err Memory) home opens closes stands (inr refl)

    pub keeps : KeepsHome before after old new
    keeps =
        let same = still_tells key opens closes in
        record { tells = same; home = λ tells. uncopied.runs.home (told after.tells before.tells (sym same) tells); later = counted_later key opens closes }
