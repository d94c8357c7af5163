-- What `import` and `clone` come to.
use Rattle.std.specs.Prelude.{◌≡◌, ◌⊎◌, ℕ, ◌≤◌, List, [], ◌∷◌, Vec, IsTrue, Ok, Err}
use Rattle.std.specs.declared.alloc.Global.{Global}
use Rattle.rand_core.specs.Stream.{Stream}
use Rattle.bec_disk.specs.declared.part.Part.TheVariants.{Schema}
use Rattle.bec_disk.specs.Shelf.{ShelfState}
use Rattle.bundles.specs.Bundles.{BundleHeld, BundleRefused}
use Rattle.key_directory.specs.Parts.{IsUntouched, KeepsAllBut, part_in, reading}
use Rattle.outcomes.specs.declared.refusal.Refusal.{Refusal}
use Rattle.outcomes.specs.Comes.{IsShelfFault}
use Rattle.outcomes.specs.Outcome.{IsFault, Outcome}
use Rattle.outcomes.specs.Outside.{Outside}
use Rattle.schema.specs.Data.{SchemaData}
use Rattle.store_directory.specs.Stores.{IsNoStore}
use Rattle.import_commands.specs.Making.{MakesEmpty}
use Rattle.import_commands.specs.Taking.{ContentsData, TakesInto}

-- The part Schema of a directory was looked at, and nothing written.
pub record LooksThere (dir : List ℕ) (before after : ShelfState) (old new : ℕ) : Type 0 where
  pub tells : after.tells ≡ before.tells
  pub untouched : IsTrue before.tells → IsUntouched (part_in before dir Schema) (part_in after dir Schema)
  pub others : IsTrue before.tells → KeepsAllBut (Schema ∷ []) dir before after
  pub later : old ≤ new

-- There is a store, of whatever kind.
abbrev pub IsThere : List ℕ → ShelfState → Type 0
IsThere dir shelf = IsTrue shelf.tells → IsNoStore (reading (part_in shelf dir Schema)) → ⊥

-- There is none.
abbrev pub IsNotThere : List ℕ → ShelfState → Type 0
IsNotThere dir shelf = IsTrue shelf.tells → IsNoStore (reading (part_in shelf dir Schema))

-- Updates are put into a directory, whose part Schema is looked at first. Where it has a store they are taken into that, and no random bytes are drawn.
-- Where it has none, one is made of their text; and where that is done they are taken into it, and the line of its database stands first. The shelf may
-- fail before it is known whether there is one.
pub data PutsIn (contents : ContentsData) (dir : List ℕ) (stream stream_new : Stream) (before after : ShelfState) (old new : ℕ) (outcome : Outcome) : Type 0 where
  unknown : LooksThere dir before after old new → IsShelfFault old new outcome → stream_new ≡ stream → PutsIn contents dir stream stream_new before after old new outcome
  taken : (mid : ShelfState) (counted : ℕ) → LooksThere dir before mid old counted → IsThere dir before → TakesInto contents [] dir mid after counted new outcome
      → stream_new ≡ stream → PutsIn contents dir stream stream_new before after old new outcome
  not_made : (mid : ShelfState) (counted : ℕ) (refusal : Refusal) → LooksThere dir before mid old counted → IsNotThere dir before
      → MakesEmpty contents.text dir stream stream_new mid after counted new (Err refusal) → outcome ≡ Err refusal → PutsIn contents dir stream stream_new before after old new outcome
  made : (mid between : ShelfState) (counted made_counted : ℕ) (lines : Vec ℕ Global) → LooksThere dir before mid old counted → IsNotThere dir before
      → MakesEmpty contents.text dir stream stream_new mid between counted made_counted (Ok lines) → TakesInto contents lines.items dir between after made_counted new outcome
      → PutsIn contents dir stream stream_new before after old new outcome

-- The shelf and the generator are as they were.
pub record UsesSource {S H R : Type 0} (before after : Outside S H R) : Type 0 where
  pub shelf : after.shelf ≡ before.shelf
  pub store : after.store ≡ before.store
  pub shelf_faults : after.shelf_faults ≡ before.shelf_faults
  pub random : after.random ≡ before.random
  pub stream : after.stream ≡ before.stream

-- `import`. The whole bundle is read first; where it is refused, nothing else is touched. Then what it holds is put into the directory.
pub data Imports {S H R : Type 0} (dir : List ℕ) (before after : Outside S H R) (outcome : Outcome) : Type 0 where
  refused : (refusal : Refusal) → BundleRefused before.left after.left refusal ⊎ IsFault before.source_faults after.source_faults refusal → UsesSource before after → outcome ≡ Err refusal
      → Imports dir before after outcome
  put : (schema : SchemaData) (members : List (List ℕ)) → BundleHeld before.left after.left schema members
      → PutsIn (record { text = schema.text; updates = members }) dir before.stream after.stream before.store after.store before.shelf_faults after.shelf_faults outcome
      → Imports dir before after outcome
