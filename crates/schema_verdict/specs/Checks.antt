-- What `check` does, from what it reads to its exit status.
use Rattle.std.specs.Prelude.{◌≡◌, ℕ, Bool, true, false, List, [], ◌∷◌, bytes_eq, codes, Option, Ok, Err}
use Rattle.std.specs.Io.KnownBytes.{Appends}
use Rattle.bec_bytes.specs.Causes.{Rose}
use Rattle.confluence_test.specs.declared.refusal.SchemaRefusal.{SchemaRefusal}
use Rattle.schema_verdict.specs.declared.status.TheConstants.{DONE, NO_COMMAND, OUT_OF_MEMORY, REFUSED, STREAM_FAULT}
use Rattle.schema_verdict.specs.Verdict.{CheckAnswer, OutcomeOf, text_for}
use Rattle.schema_verdict.specs.Written.{Puts, SinkState}

-- What a source has: what it has left, and its count of faults.
pub record SourceState : Type 0 where
  pub left : Option (List ℕ)
  pub faults : ℕ

-- the verdict, where the text is taken or refused
abbrev pub Verdict : Type 0
Verdict = OutcomeOf SchemaRefusal

-- its exit status
abbrev pub status_of : Verdict → ℕ
status_of (Ok text) = DONE
status_of (Err why) = REFUSED

-- its text
abbrev pub text_of : Verdict → List ℕ
text_of (Ok text) = text.items
text_of (Err why) = text_for why

-- The verdict on what the source has is written, with its status; or the source failed, which is said; or memory ran out, and nothing is written.
pub data Checks (source source_new : SourceState) (sink sink_new : SinkState) (status : ℕ) : Type 0 where
  told : (verdict : Verdict) → CheckAnswer (λ why. why) source.left source_new.left verdict
      → Puts sink.faults sink_new.faults sink.held sink_new.held (status_of verdict) (text_of verdict) status → Checks source source_new sink sink_new status
  failed : Rose source.faults source_new.faults → Puts sink.faults sink_new.faults sink.held sink_new.held STREAM_FAULT (codes "! stream fault\n") status
      → Checks source source_new sink sink_new status
  unmade : status ≡ OUT_OF_MEMORY → Appends sink.held sink_new.held [] → Checks source source_new sink sink_new status

-- the words are the one word `check`
abbrev pub is_check : List (List ℕ) → Bool
is_check [] = false
is_check (word ∷ []) = bytes_eq word (codes "check")
is_check (word ∷ other ∷ words) = false

-- The words ask for a verdict, and it is told; other words leave the source as it was, and are no command.
pub data RunsCheck {S : Type 0} (words : List (List ℕ)) (input input_new : S) (source source_new : SourceState) (sink sink_new : SinkState) (status : ℕ) : Type 0 where
  asked : is_check words ≡ true → Checks source source_new sink sink_new status → RunsCheck words input input_new source source_new sink sink_new status
  other : is_check words ≡ false → input_new ≡ input → Puts sink.faults sink_new.faults sink.held sink_new.held NO_COMMAND (codes "! words\n") status
      → RunsCheck words input input_new source source_new sink sink_new status
