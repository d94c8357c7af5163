-- Stores that are made in a directory.
use Rattle.std.specs.Prelude.{◌≡◌, ℕ, List, [], ◌∷◌, ◌++◌, IsTrue, Option}
use Rattle.bec_disk.specs.Disk.{DiskState}
use Rattle.bec_disk.specs.declared.part.Part.TheVariants.{Schema, Updates}
use Rattle.bec_disk.specs.Shelf.{ShelfState, out}
use Rattle.bec_disk.specs.Slot.{slot}
use Rattle.confluence_test.specs.Taking.{RefusesSchema}
use Rattle.confluence_test.specs.declared.refusal.SchemaRefusal.TheVariants as refusals
use Rattle.schema.specs.Data.{Meaning}
use Rattle.replica.specs.Opening.{Creating, IsCreated}
use Rattle.replica.specs.declared.create_fault.CreateKind.{CreateKind}
use Rattle.replica.specs.declared.create_fault.CreateKind.TheVariants as creating
use Rattle.store_directory.specs.Holding.{OpenData}
use Rattle.key_directory.specs.Parts.{KeepsAllBut, part_in, IsHanded}
use Rattle.store_directory.specs.Stores.{IsNoStore}

-- A store was made of two parts, which are handed out: it is on the disk, and has no updates.
pub record MakesStore (ask : Meaning) (before : ShelfState) (dir node text : List ℕ) (store : OpenData) (after : ShelfState) : Type 0 where
  pub tells : after.tells ≡ before.tells
  pub schema_tells : store.schema.tells ≡ before.tells
  pub updates_tells : store.replica.log.disk.tells ≡ before.tells
  pub created : IsTrue before.tells → (schema updates : DiskState)
      × IsHanded (slot dir Schema) (part_in before dir Schema) schema
      × IsHanded (slot dir Updates) (part_in before dir Updates) updates
      × IsCreated ask schema updates node text store.replica store.schema
      × Creating schema updates (node ++ text) store.schema store.replica.log.disk
  pub schema_out : IsTrue before.tells → part_in after dir Schema ≡ out
  pub updates_out : IsTrue before.tells → part_in after dir Updates ≡ out
  pub others : KeepsAllBut (Schema ∷ Updates ∷ []) dir before after

-- Why no store was made, by what the part Schema reads as and by the text.
abbrev pub IsNewStoreCause : Meaning → Option (List ℕ) → List ℕ → CreateKind → Type 0
IsNewStoreCause ask schema text creating.NotEmpty = IsNoStore schema → ⊥
IsNewStoreCause ask schema text (creating.BadSchema fault) = IsNoStore schema × RefusesSchema ask text (refusals.Schema fault)
IsNewStoreCause ask schema text (creating.NotConfluent declared which example) = IsNoStore schema × RefusesSchema ask text (refusals.NotConfluent declared which example)
IsNewStoreCause ask schema text creating.DiskFault = Unit {0}
IsNewStoreCause ask schema text creating.Memory = Unit {0}
