-- A command is answered once what it comes to was said.
use Rattle.std.proofs.Common.{◌⊎◌, inl, inr, ℕ, List, Option}
use Rattle.store_directory.specs.Stores.{StoreData}
use Rattle.schema_verdict.specs.Written.{SinkState}
use Rattle.outcomes.specs.Comes.{ReadsSource, ReadsStoreOnly}
use Rattle.outcomes.specs.Only.{ShelfOnly, SourceOnly}
use Rattle.outcomes.specs.Outcome.{Ends, Outcome}
use Rattle.outcomes.specs.Outside.{Outside}
use Rattle.outcomes.specs.StoreAnswers.{ReadsStore}
use Rattle.outcomes.proofs.Only.{IsFaultStatus, IsSaidAs, ended_as, read_only, shelf_fault, source_fault, source_only}
use Rattle.outcomes.proofs.Same.{IsOneAnswer}
use Rattle.outcomes.proofs.StoreOnce.{IsOneOfParts}
use Rattle.bec_node.specs.Families.{IsAnswered}

module _ {S H R : Type 0} (before after : Outside S H R) (sink sink_new : SinkState) (status : ℕ) where
  -- of a command over the source alone
  pub source_answered : (Answer : Option (List ℕ) → Option (List ℕ) → Outcome → Type 0) → IsOneAnswer Answer → (outcome : Outcome) → ReadsSource Answer before after outcome
      → Ends sink.faults sink_new.faults sink.held sink_new.held outcome status → IsAnswered (ReadsSource Answer) (SourceOnly Answer before.left) before after sink sink_new status
  source_answered Answer one outcome comes said =
      record { outcome = outcome; comes = comes; said = said; only = by (ended_as sink.faults sink_new.faults sink.held sink_new.held outcome status said) }
    where
      by : IsSaidAs outcome status ⊎ IsFaultStatus status → SourceOnly Answer before.left status
      by (inl told) = source_only before after status Answer one outcome comes.comes told
      by (inr fault) = source_fault Answer before.left status fault

  -- of one that only reads a store
  pub store_answered : (Answers : StoreData → Outcome → Type 0) → IsOneOfParts (ReadsStore Answers) → (dir : List ℕ) (outcome : Outcome) → ReadsStoreOnly (ReadsStore Answers) dir before after outcome
      → Ends sink.faults sink_new.faults sink.held sink_new.held outcome status
      → IsAnswered (ReadsStoreOnly (ReadsStore Answers) dir) (ShelfOnly (ReadsStore Answers) dir before.store) before after sink sink_new status
  store_answered Answers one dir outcome comes said =
      record { outcome = outcome; comes = comes; said = said; only = by (ended_as sink.faults sink_new.faults sink.held sink_new.held outcome status said) }
    where
      by : IsSaidAs outcome status ⊎ IsFaultStatus status → ShelfOnly (ReadsStore Answers) dir before.store status
      by (inl told) = read_only before after status Answers one dir outcome comes told
      by (inr fault) = shelf_fault (ReadsStore Answers) dir before.store status fault
