-- Each answer comes with its status.
use Rattle.std.proofs.Common.{◌≡◌, ◌⊎◌, inl, inr, ℕ, List, [], ◌∷◌, sym, ap, subst, ◌∙◌, IsTrue, Option, Some, None, Ok, Err}
use Rattle.bec_disk.specs.declared.part.Part.{Part}
use Rattle.bec_disk.specs.declared.part.Part.TheVariants.{Schema, Updates}
use Rattle.bec_disk.specs.Shelf.{ShelfState}
use Rattle.outcomes.specs.declared.refusal.Refusal.TheVariants.{Memory}
use Rattle.store_directory.specs.Stores.{StoreData}
use Rattle.schema_verdict.specs.declared.status.TheConstants.{OUT_OF_MEMORY, STORE_FAULT, STREAM_FAULT}
use Rattle.outcomes.specs.Comes.{IsShelfFault, ReadsStoreOnly, RunsStore, readings}
use Rattle.outcomes.specs.Outcome.{ComesTo, Ends, Outcome, Says, status_for, status_of}
use Rattle.outcomes.specs.Only.{EachAs, ShelfOnly, SourceOnly}
use Rattle.outcomes.specs.Outside.{Outside}
use Rattle.outcomes.specs.StoreAnswers.{Readings, ReadsStore}
use Rattle.outcomes.proofs.Same.{IsOneAnswer}
use Rattle.outcomes.proofs.StoreOnce.{IsOneOfParts}

-- the status is the outcome's own, or a stream fault's
abbrev pub IsSaidAs : Outcome → ℕ → Type 0
IsSaidAs outcome status = (status ≡ status_of outcome) ⊎ (status ≡ STREAM_FAULT)

pub status_said : (old new : ℕ) (held held_new : Option (List ℕ)) (outcome : Outcome) (status : ℕ) → Says old new held held_new outcome status → IsSaidAs outcome status
status_said old new held held_new (Err Memory) status said = inl said.0
status_said old new held held_new outcome status (inl whole) = inl whole.0
status_said old new held held_new outcome status (inr front) = inr front.0

-- the status of a fault comes in the place of each answer
abbrev pub IsFaultStatus : ℕ → Type 0
IsFaultStatus status = (status ≡ STORE_FAULT) ⊎ ((status ≡ STREAM_FAULT) ⊎ (status ≡ OUT_OF_MEMORY))

pub each_fault : (MayBe : Outcome → Type 0) (status : ℕ) → IsFaultStatus status → EachAs MayBe status
each_fault MayBe status fault = λ outcome is. inr fault

-- where each outcome that may be has the status of the one that came, or that is a fault's, each comes with its status
pub each_said : (MayBe : Outcome → Type 0) (outcome : Outcome) (status : ℕ) → ((other : Outcome) → MayBe other → status_of outcome ≡ status_of other) ⊎ IsFaultStatus (status_of outcome) → IsSaidAs outcome status
    → EachAs MayBe status
each_said MayBe outcome status same (inr stream) = each_fault MayBe status (inr (inl stream))
each_said MayBe outcome status (inl same) (inl own) = λ other is. inl (own ∙ same other is)
each_said MayBe outcome status (inr fault) (inl own) = each_fault MayBe status (subst IsFaultStatus (sym own) fault)

-- an outcome that was told has its status, or that of a fault comes in its place
pub ended_as : (old new : ℕ) (held held_new : Option (List ℕ)) (outcome : Outcome) (status : ℕ) → Ends old new held held_new outcome status → IsSaidAs outcome status ⊎ IsFaultStatus status
ended_as old new held held_new outcome status (inl said) = inl (status_said old new held held_new outcome status said)
ended_as old new held held_new outcome status (inr lacked) = inr (inr (inr lacked.1.0))

-- ---- over a source

pub source_fault : (Answer : Option (List ℕ) → Option (List ℕ) → Outcome → Type 0) (before : Option (List ℕ)) (status : ℕ) → IsFaultStatus status → SourceOnly Answer before status
source_fault Answer None status fault = tt
source_fault Answer (Some input) status fault = λ after. each_fault (Answer (Some input) after) status fault

pub source_said : (Answer : Option (List ℕ) → Option (List ℕ) → Outcome → Type 0) → IsOneAnswer Answer → (before after : Option (List ℕ)) (old new : ℕ) (outcome : Outcome) (status : ℕ)
    → ComesTo Answer before after old new outcome → IsSaidAs outcome status → SourceOnly Answer before status
source_said Answer one None after old new outcome status comes said = tt
source_said Answer one (Some input) after old new outcome status comes said = λ other. each_said (Answer (Some input) other) outcome status (by other outcome comes) said
  where
    by : (other : Option (List ℕ)) (o : Outcome) → ComesTo Answer (Some input) after old new o → ((p : Outcome) → Answer (Some input) other p → status_of o ≡ status_of p) ⊎ IsFaultStatus (status_of o)
    by other (Ok text) is = inl (λ p answer. (one input after other (Ok text) p is answer).0)
    by other (Err refusal) (inl is) = inl (λ p answer. (one input after other (Err refusal) p is answer).0)
    by other (Err refusal) (inr (inl memory)) = inr (inr (inr (ap status_for memory)))
    by other (Err refusal) (inr (inr failed)) = inr (inr (inl (ap status_for failed.0)))

-- ---- over a directory

pub shelf_fault : (Answer : Readings → List (List ℕ) → Outcome → Type 0) (dir : List ℕ) (shelf : ShelfState) (status : ℕ) → IsFaultStatus status → ShelfOnly Answer dir shelf status
shelf_fault Answer dir shelf status fault = λ tells added. each_fault (Answer (readings shelf dir) added) status fault

-- the fault of a shelf has its status
pub fault_status : (old new : ℕ) (outcome : Outcome) → IsShelfFault old new outcome → IsFaultStatus (status_of outcome)
fault_status old new outcome (inl memory) = inr (inr (ap status_of memory))
fault_status old new outcome (inr failed) = inl (ap status_of failed.0)

pub shelf_said : (Fault : Outcome → Type 0) (Answer Other : Readings → List (List ℕ) → Outcome → Type 0) (touched : List Part) (dir : List ℕ) (before after : ShelfState) (outcome : Outcome) (status : ℕ)
    → ((parts : Readings) (added others : List (List ℕ)) (a b : Outcome) → Answer parts added a → Other parts others b → status_of a ≡ status_of b)
    → (Fault outcome → IsFaultStatus (status_of outcome)) → RunsStore Fault Answer touched dir before after outcome → IsSaidAs outcome status → ShelfOnly Other dir before status
shelf_said Fault Answer Other touched dir before after outcome status one fault runs said = λ tells others. each_said (Other (readings before dir) others) outcome status (by tells others runs.comes) said
  where
    by : IsTrue before.tells → (others : List (List ℕ)) → (IsTrue before.tells → Answer (readings before dir) runs.added outcome) ⊎ (Fault outcome × (runs.added ≡ []))
        → ((other : Outcome) → Other (readings before dir) others other → status_of outcome ≡ status_of other) ⊎ IsFaultStatus (status_of outcome)
    by tells others (inl answers) = inl (λ other answer. one (readings before dir) runs.added others outcome other (answers tells) answer)
    by tells others (inr f) = inr (fault f.0)

-- ---- over what is there before

-- what is answered over what is there before, or a fault
pub told_only : (status : ℕ) (Fault : Outcome → Type 0) (Came MayBe : Outcome → Type 0) (outcome : Outcome) → ((other : Outcome) → Came outcome → MayBe other → status_of outcome ≡ status_of other)
    → (Fault outcome → IsFaultStatus (status_of outcome)) → Came outcome ⊎ Fault outcome → IsSaidAs outcome status → EachAs MayBe status
told_only status Fault Came MayBe outcome one fault (inl came) said = each_said MayBe outcome status (inl (λ other may_be. one other came may_be)) said
told_only status Fault Came MayBe outcome one fault (inr failed) said = each_said MayBe outcome status (inr (fault failed)) said

-- told where the shelf tells
pub told_now : {Came Fault : Type 0} (shelf : ShelfState) → IsTrue shelf.tells → (IsTrue shelf.tells → Came) ⊎ Fault → Came ⊎ Fault
told_now shelf tells (inl answers) = inl (answers tells)
told_now shelf tells (inr fault) = inr fault

-- ---- an outcome that came and was said

module _ {S H R : Type 0} (before after : Outside S H R) (status : ℕ) where
  -- of a command over the source alone
  pub source_only : (Answer : Option (List ℕ) → Option (List ℕ) → Outcome → Type 0) → IsOneAnswer Answer → (outcome : Outcome)
      → ComesTo Answer before.left after.left before.source_faults after.source_faults outcome → IsSaidAs outcome status → SourceOnly Answer before.left status
  source_only Answer single outcome comes said = source_said Answer single before.left after.left before.source_faults after.source_faults outcome status comes said

  -- of a command that only reads a store
  pub read_only : (Answers : StoreData → Outcome → Type 0) → IsOneOfParts (ReadsStore Answers) → (dir : List ℕ) (outcome : Outcome) → ReadsStoreOnly (ReadsStore Answers) dir before after outcome → IsSaidAs outcome status
      → ShelfOnly (ReadsStore Answers) dir before.store status
  read_only Answers single dir outcome comes said =
      shelf_said (IsShelfFault before.shelf_faults after.shelf_faults) (ReadsStore Answers) (ReadsStore Answers) (Schema ∷ Updates ∷ []) dir before.store after.store outcome status
      (λ shown added others a b is so. (single shown added others a b is so).0)
      (fault_status before.shelf_faults after.shelf_faults outcome) comes.runs.runs said
