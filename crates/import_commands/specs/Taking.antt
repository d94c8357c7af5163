-- What taking updates into a store at once answers, and what it leaves.
use Rattle.std.specs.Prelude.{◌≡◌, ◌⊎◌, ℕ, ◌≤◌, List, [], ◌∷◌, ◌++◌, All, IsTrue, codes, length, map, Ok, Err}
use Rattle.std.specs.Fmt.{decimal}
use Rattle.bec_bytes.specs.Causes.{Rose}
use Rattle.bec_disk.specs.declared.part.Part.TheVariants.{Schema, Updates}
use Rattle.bec_disk.specs.Shelf.{ShelfState}
use Rattle.key_directory.specs.Parts.{IsHome, KeepsAllBut}
use Rattle.outcomes.specs.declared.refusal.Refusal.{Refusal}
use Rattle.outcomes.specs.declared.refusal.Refusal.TheVariants as refusals
use Rattle.outcomes.specs.Comes.{IsShelfFault, is_done, readings}
use Rattle.outcomes.specs.OpenStores.{WorksFrom, opened_store}
use Rattle.outcomes.specs.Outcome.{Outcome}
use Rattle.outcomes.specs.StoreAnswers.{HasStore, Readings, RefusesStore}
use Rattle.replica.specs.Replicas.{ReplicaState}
use Rattle.row_check.specs.Checksum.{is_luhn}
use Rattle.schema.specs.Data.{SchemaData}
use Rattle.schema_verdict.specs.Verdict.{Prints}
use Rattle.session_rules.specs.declared.peer_fault.PeerFault.TheVariants.{WrongDatabase}
use Rattle.store_directory.specs.Stores.{IsStore, StoreData, StoreRun}
use Rattle.update_check.specs.Signed.{IsUnder}
use Rattle.update_codec.specs.Parts.{body_of, entry_of}
use Rattle.update_model.specs.Batch.{Adds, IsTooMuch, store_limits}

-- Updates are taken into a list: each that is not in it is added, once, and none of them waits.
abbrev pub TakesIn : (before updates added : List (List ℕ)) → Type 0
TakesIn before updates added = Adds (map entry_of before) (map entry_of updates) (map entry_of added) []

-- the line for so many updates that were added
abbrev pub gained_text : ℕ → List ℕ
gained_text count = codes "gained " ++ (decimal count ++ 10 ∷ [])

-- Updates, and the text of the schema that they are under.
pub record ContentsData : Type 0 where
  pub text : List ℕ
  pub updates : List (List ℕ)

-- They are of the database of this schema: the text is its own, and each update is of its database, by a listed author.
pub record IsOfDatabase (schema : SchemaData) (contents : ContentsData) : Type 0 where
  pub text : schema.text ≡ contents.text
  pub under : All (λ bytes. IsUnder schema.rule (body_of bytes)) contents.updates

-- What is answered over a store: they are of another database; or all that it lacks of them would pass a limit; or that was added, and these lines are
-- printed, and how many.
pub data StoreAnswer (contents : ContentsData) (lines : List ℕ) (store : StoreData) (added : List (List ℕ)) (outcome : Outcome) : Type 0 where
  other_database : (IsOfDatabase store.schema contents → ⊥) → added ≡ [] → outcome ≡ Err (refusals.Peer WrongDatabase) → StoreAnswer contents lines store added outcome
  too_much : IsOfDatabase store.schema contents → IsTooMuch store_limits (map entry_of store.members) (map entry_of contents.updates) → added ≡ [] → outcome ≡ Err refusals.Full
      → StoreAnswer contents lines store added outcome
  taken : IsOfDatabase store.schema contents → TakesIn store.members contents.updates added → Prints outcome (lines ++ gained_text (length added)) → StoreAnswer contents lines store added outcome

-- What is answered by what the parts of a directory read as: its store is refused, or it is answered over that.
pub data TakeAnswer (contents : ContentsData) (lines : List ℕ) (parts : Readings) (added : List (List ℕ)) (outcome : Outcome) : Type 0 where
  refused : (refusal : Refusal) → RefusesStore parts refusal → added ≡ [] → outcome ≡ Err refusal → TakeAnswer contents lines parts added outcome
  answered : (store : StoreData) → HasStore parts store → StoreAnswer contents lines store added outcome → TakeAnswer contents lines parts added outcome

-- It is done, or a store is refused, or they are of another database, or too much.
abbrev pub IsTakeEnd : Outcome → Type 0
IsTakeEnd (Ok text) = Unit {0}
IsTakeEnd (Err refusals.NoStore) = Unit {0}
IsTakeEnd (Err refusals.BadStore) = Unit {0}
IsTakeEnd (Err (refusals.Peer WrongDatabase)) = Unit {0}
IsTakeEnd (Err refusals.Full) = Unit {0}
IsTakeEnd outcome = ⊥

-- All that the store lacked of them was added, or nothing.
abbrev pub IsAllOrNone : (before updates added : List (List ℕ)) → Type 0
IsAllOrNone before updates added = (added ≡ []) ⊎ TakesIn before updates added

-- Updates are taken into the store of a directory. Where the shelf tells what it has, the outcome is the answer to what the parts read as, or a fault came
-- in its place. All that the store lacked was added, or nothing; all only where it is done, or where memory ran out for saying so. No part but these is
-- touched, and every part is put back. Whether the shelf tells or not, it ends in one of its own ways, or a fault came.
pub record TakesInto (contents : ContentsData) (lines : List ℕ) (dir : List ℕ) (before after : ShelfState) (old new : ℕ) (outcome : Outcome) : Type 0 where
  pub added : List (List ℕ)
  pub comes : (IsTrue before.tells → TakeAnswer contents lines (readings before dir) added outcome) ⊎ IsShelfFault old new outcome
  pub ends : IsTakeEnd outcome ⊎ IsShelfFault old new outcome
  pub all : IsTrue before.tells → (store : StoreData) → IsStore is_luhn before dir store → IsAllOrNone store.members contents.updates added
  pub run : IsTrue before.tells → StoreRun is_luhn before after dir added (is_done outcome)
  pub tells : after.tells ≡ before.tells
  pub others : IsTrue before.tells → KeepsAllBut (Schema ∷ Updates ∷ []) dir before after
  pub home : IsTrue before.tells → IsHome after
  pub later : old ≤ new

-- ---- the same of what is open

-- What may come in place of an answer over a store that is open.
abbrev pub IsLogFault : ℕ → ℕ → Outcome → Type 0
IsLogFault old new outcome = (outcome ≡ Err refusals.Memory) ⊎ ((outcome ≡ Err refusals.StoreFault) × Rose old new)

-- Updates are taken into a store that is open.
pub record TakesOpen (contents : ContentsData) (lines : List ℕ) (old new : ReplicaState) (outcome : Outcome) : Type 0 where
  pub added : List (List ℕ)
  pub comes : StoreAnswer contents lines (opened_store old) added outcome ⊎ IsLogFault old.log.faults new.log.faults outcome
  pub ends : IsTakeEnd outcome ⊎ IsLogFault old.log.faults new.log.faults outcome
  pub all : IsAllOrNone old.history.members contents.updates added
  pub works : WorksFrom old new added (is_done outcome)
  pub later : old.log.faults ≤ new.log.faults
