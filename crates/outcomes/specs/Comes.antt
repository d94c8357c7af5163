-- What a command over the source or over a directory comes to, and what it leaves of what stands outside.
use Rattle.std.specs.Prelude.{◌≡◌, ◌⊎◌, ℕ, Bool, true, false, List, [], ◌∷◌, IsTrue, Ok, Err}
use Rattle.row_check.specs.Checksum.{is_luhn}
use Rattle.bec_bytes.specs.Causes.{Rose}
use Rattle.bec_disk.specs.declared.part.Part.{Part}
use Rattle.bec_disk.specs.declared.part.Part.TheVariants.{Schema, Updates, Key, Used}
use Rattle.bec_disk.specs.Shelf.{ShelfState}
use Rattle.outcomes.specs.declared.refusal.Refusal.{Refusal}
use Rattle.outcomes.specs.declared.refusal.Refusal.TheVariants.{Memory, StoreFault, Stream}
use Rattle.outcomes.specs.Outcome.{ComesTo, Outcome}
use Rattle.outcomes.specs.Outside.{Outside}
use Rattle.outcomes.specs.StoreAnswers.{Readings}
use Rattle.std.specs.declared.option.Option.{Option}
use Rattle.key_directory.specs.Parts.{IsHome, KeepsAllBut, part_in, reading}
use Rattle.store_directory.specs.Stores.{StoreRun}

-- what the parts of a directory read as
abbrev pub readings : ShelfState → List ℕ → Readings
readings shelf dir = record { schema = reading (part_in shelf dir Schema); updates = reading (part_in shelf dir Updates); key = reading (part_in shelf dir Key); used = reading (part_in shelf dir Used) }

abbrev pub is_done : Outcome → Bool
is_done (Ok text) = true
is_done (Err refusal) = false

-- A refusal by the shelf: memory ran out, or a disk failed, and the count of faults rose.
abbrev pub IsDiskRefusal : ℕ → ℕ → Refusal → Type 0
IsDiskRefusal old new refusal = (refusal ≡ Memory) ⊎ ((refusal ≡ StoreFault) × Rose old new)

-- What may come in place of an answer: memory ran out, or the shelf failed, whose count of faults rose.
abbrev pub IsShelfFault : ℕ → ℕ → Outcome → Type 0
IsShelfFault old new outcome = (outcome ≡ Err Memory) ⊎ ((outcome ≡ Err StoreFault) × Rose old new)

-- A command over the store of a directory. Where the shelf tells what it has, the outcome is the answer to what the parts read as, or a fault
-- came in its place and nothing was added; what a fault is, is told whether it tells or not. These updates were added to the list of the store, as
-- the answer says. No part but these is touched, and every part is put back.
pub record RunsStore (Fault : Outcome → Type 0) (Answer : Readings → List (List ℕ) → Outcome → Type 0) (touched : List Part) (dir : List ℕ) (before after : ShelfState) (outcome : Outcome) : Type 0 where
  pub added : List (List ℕ)
  pub comes : (IsTrue before.tells → Answer (readings before dir) added outcome) ⊎ (Fault outcome × (added ≡ []))
  pub run : IsTrue before.tells → StoreRun is_luhn before after dir added (is_done outcome)
  pub others : IsTrue before.tells → KeepsAllBut touched dir before after
  pub home : IsTrue before.tells → IsHome after

-- The outcome is the answer to what the parts of some directory read as.
abbrev pub AnswersSome : (Readings → List (List ℕ) → Outcome → Type 0) → Outcome → Type 0
AnswersSome Answer outcome = (parts : Readings) × (added : List (List ℕ)) × Answer parts added outcome

-- A command that only reads the store of a directory: its two parts are at most read. Whether the shelf tells what it has or not, the outcome is an
-- answer to some parts, or a fault.
pub record ReadsShelf (Answer : Readings → List (List ℕ) → Outcome → Type 0) (dir : List ℕ) (before after : ShelfState) (old new : ℕ) (outcome : Outcome) : Type 0 where
  pub runs : RunsStore (IsShelfFault old new) Answer (Schema ∷ Updates ∷ []) dir before after outcome
  pub ends : AnswersSome Answer outcome ⊎ IsShelfFault old new outcome

-- It uses neither the source nor the generator.
pub record ReadsStoreOnly {S H R : Type 0} (Answer : Readings → List (List ℕ) → Outcome → Type 0) (dir : List ℕ) (before after : Outside S H R) (outcome : Outcome) : Type 0 where
  pub runs : ReadsShelf Answer dir before.store after.store before.shelf_faults after.shelf_faults outcome
  pub source : after.source ≡ before.source
  pub random : after.random ≡ before.random

-- The same, or the source failed, whose count of faults rose.
abbrev pub IsAnyFault : ℕ → ℕ → ℕ → ℕ → Outcome → Type 0
IsAnyFault source_old source_new old new outcome = ((outcome ≡ Err Stream) × Rose source_old source_new) ⊎ IsShelfFault old new outcome

-- A command was refused by what it read, or by the source, and not by the shelf or for want of memory.
abbrev pub IsRefused : Outcome → Type 0
IsRefused (Ok text) = ⊥
IsRefused (Err StoreFault) = ⊥
IsRefused (Err Memory) = ⊥
IsRefused (Err refusal) = Unit {0}

-- The source failed, and its count of faults rose.
abbrev pub IsSourceFault : ℕ → ℕ → Outcome → Type 0
IsSourceFault old new outcome = (outcome ≡ Err Stream) × Rose old new

-- A command over the source alone.
pub record ReadsSource {S H R : Type 0} (Answer : Option (List ℕ) → Option (List ℕ) → Outcome → Type 0) (before after : Outside S H R) (outcome : Outcome) : Type 0 where
  pub comes : ComesTo Answer before.left after.left before.source_faults after.source_faults outcome
  pub shelf : after.shelf ≡ before.shelf
  pub random : after.random ≡ before.random
