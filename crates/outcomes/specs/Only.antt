-- Each answer comes with its status.
use Rattle.std.specs.Prelude.{◌≡◌, ◌⊎◌, ℕ, List, IfSome, IsTrue, Some}
use Rattle.std.specs.declared.option.Option.{Option}
use Rattle.bec_disk.specs.Shelf.{ShelfState}
use Rattle.schema_verdict.specs.declared.status.TheConstants.{STORE_FAULT, STREAM_FAULT, OUT_OF_MEMORY}
use Rattle.outcomes.specs.Comes.{readings}
use Rattle.outcomes.specs.Outcome.{Outcome, status_of}
use Rattle.outcomes.specs.StoreAnswers.{Readings}

-- the status, or one of a fault of the store or of a stream, or of want of memory, in its place
abbrev pub ComesAs : ℕ → ℕ → Type 0
ComesAs status own = (status ≡ own) ⊎ ((status ≡ STORE_FAULT) ⊎ ((status ≡ STREAM_FAULT) ⊎ (status ≡ OUT_OF_MEMORY)))

-- Each outcome that may be comes with its status.
abbrev pub EachAs : (Outcome → Type 0) → ℕ → Type 0
EachAs MayBe status = (outcome : Outcome) → MayBe outcome → ComesAs status (status_of outcome)

-- Each answer to what the source tells comes with its status.
abbrev pub SourceOnly : (Option (List ℕ) → Option (List ℕ) → Outcome → Type 0) → Option (List ℕ) → ℕ → Type 0
SourceOnly Answer before status = IfSome before (λ input. (after : Option (List ℕ)) → EachAs (Answer (Some input) after) status)

-- Each answer to what the parts of a directory read as comes with its status, where the shelf tells.
abbrev pub ShelfOnly : (Readings → List (List ℕ) → Outcome → Type 0) → List ℕ → ShelfState → ℕ → Type 0
ShelfOnly Answer dir shelf status = IsTrue shelf.tells → (added : List (List ℕ)) → EachAs (Answer (readings shelf dir) added) status
