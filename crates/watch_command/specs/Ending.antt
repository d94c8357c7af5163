-- How a watch ends.
use Rattle.std.specs.Prelude.{◌≡◌, ◌⊎◌, ℕ, ◌+◌, ◌≤◌, List, [], ◌++◌, length, map, take, Option, None, Some, Result, Ok, Err}
use Rattle.std.specs.Io.KnownBytes.{Appends}
use Rattle.bec_bytes.specs.Causes.{Rose}
use Rattle.bec_bytes.specs.Framed.{StaysWithin}
use Rattle.bec_bytes.specs.Moved.{IfTold}
use Rattle.update_model.specs.Graph.{IsNext}
use Rattle.update_model.specs.Rule.{RuleData}
use Rattle.update_codec.specs.Parts.{entry_of}
use Rattle.update_codec.specs.declared.limits.TheConstants.{UPDATE_LIMIT}
use Rattle.schema_verdict.specs.Written.{Puts, SinkState}
use Rattle.schema_verdict.specs.declared.status.TheConstants.{DONE, OUT_OF_MEMORY, STREAM_FAULT}
use Rattle.outcomes.specs.Outcome.{MayLackMemory, status_for, text_for}
use Rattle.outcomes.specs.declared.refusal.Refusal.{Refusal}
use Rattle.outcomes.specs.declared.refusal.Refusal.TheVariants as refusals
use Rattle.watch_command.specs.Records.{IsRead, IsStop}
use Rattle.watch_command.specs.declared.stop.Stop.{Stop}
use Rattle.watch_command.specs.declared.stop.Stop.TheVariants.{Refused, Unwritten}

-- why it stopped before the end of its stream, if it did
abbrev pub stop_of : {T : Type 0} → Result T Stop → Option Stop
stop_of (Ok done) = None
stop_of (Err stop) = Some stop

-- What the stream has left, of these bytes behind the records that were taken: a stop has its cause in what stands next.
abbrev pub Leaves : RuleData → List (List ℕ) → ℕ → Option Stop → List ℕ → List ℕ → Type 0
Leaves rule members count None bytes rest = (bytes ≡ []) × (rest ≡ [])
Leaves rule members count (Some (Refused (refusals.Record n fault))) bytes rest = (n ≡ count + 1) × IsStop rule members count fault bytes rest
Leaves rule members count (Some (Refused refusals.StoreFault)) bytes rest = IsRead rule (λ update. IsNext (map entry_of members) (entry_of update)) bytes rest
Leaves rule members count (Some (Refused refusals.Stream)) bytes rest = StaysWithin UPDATE_LIMIT bytes rest
Leaves rule members count (Some Unwritten) bytes rest = rest ≡ bytes
Leaves rule members count other bytes rest = Unit {0}

-- A disk or the source failed only where its count of faults rose.
abbrev pub HasCause : (store store_new source source_new : ℕ) → Option Stop → Type 0
HasCause store store_new source source_new (Some (Refused refusals.StoreFault)) = Rose store store_new
HasCause store store_new source source_new (Some (Refused refusals.Stream)) = Rose source source_new
HasCause store store_new source source_new other = Unit {0}

-- A front of a text is written, and a call of the sink failed.
abbrev pub WritesFront : SinkState → SinkState → List ℕ → Type 0
WritesFront old new text = Rose old.faults new.faults × ((n : ℕ) × (n ≤ length text) × Appends old.held new.held (take n text))

-- what it may stop for once the answer of the query was found
abbrev pub MayStop : Refusal → Type 0
MayStop (refusals.Record n fault) = Unit {0}
MayStop refusals.StoreFault = Unit {0}
MayStop refusals.Stream = Unit {0}
MayStop refusals.Memory = Unit {0}
MayStop other = ⊥

-- Why no record is taken behind so many.
pub record StopsAt (rule : RuleData) (members : List (List ℕ)) (count : ℕ) (before after : Option (List ℕ)) (store store_new source source_new : ℕ) (why : Refusal) : Type 0 where
  pub may : MayStop why
  pub leaves : IfTold before after (Leaves rule members count (Some (Refused why)))
  pub cause : HasCause store store_new source source_new (Some (Refused why))

-- what stands beside a store that is watched: what the source has left and its count of faults, and the sink
pub record Streams : Type 0 where
  pub left : Option (List ℕ)
  pub faults : ℕ
  pub sink : SinkState

-- this source and this sink, seen so
abbrev pub streams : {S K : Type 0} → (S → Option (List ℕ)) → (S → ℕ) → (K → Option (List ℕ)) → (K → ℕ) → S → K → Streams
streams left source_faults held sink_faults source sink =
    record { left = left source; faults = source_faults source; sink = record { held = held sink; faults = sink_faults sink } }

-- The blocks are written, or the sink failed and took a front of them.
abbrev pub Writes : SinkState → SinkState → List ℕ → Option Stop → Type 0
Writes old new text (Some Unwritten) = WritesFront old new text
Writes old new text other = Appends old.held new.held text

-- The blocks are written and behind them the lines of a refusal, if it stopped for one, with the status of that. Where memory runs out for lines that are
-- made of what a refusal has, the status is that, and they are left out.
abbrev pub Says : SinkState → SinkState → List ℕ → Option Stop → ℕ → Type 0
Says old new text None status = (status ≡ DONE) × Appends old.held new.held text
Says old new text (Some Unwritten) status = (status ≡ STREAM_FAULT) × WritesFront old new text
Says old new text (Some (Refused refusal)) status =
    Puts old.faults new.faults old.held new.held (status_for refusal) (text ++ text_for refusal) status
    ⊎ (MayLackMemory (Err refusal) × (status ≡ OUT_OF_MEMORY) × Appends old.held new.held text)
