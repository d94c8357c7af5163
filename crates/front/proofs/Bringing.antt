-- What is told of a request that brings updates into a directory.
use Rattle.std.proofs.Common.{ℕ}
use Rattle.bec_node.proofs.Faults.{ended_store, ended_stream, source_or_sink}
use Rattle.import_commands.specs.Bringing.{BlamesRightly}
use Rattle.outcomes.specs.Outcome.{Ends, Outcome}
use Rattle.outcomes.specs.Outside.{Outside}
use Rattle.schema_verdict.specs.Written.{SinkState}
use Rattle.front.specs.Front.{Blames}

-- the faults that are told have their causes
pub said_rightly : {S H R : Type 0} (before after : Outside S H R) (sink sink_new : SinkState) (outcome : Outcome) (status : ℕ) → BlamesRightly before after outcome
    → Ends sink.faults sink_new.faults sink.held sink_new.held outcome status → Blames before after sink sink_new status
said_rightly before after sink sink_new outcome status blames said = record {
  store = λ e. blames.store (ended_store sink.faults sink_new.faults sink.held sink_new.held outcome status said e);
  stream = λ e. source_or_sink blames.source (ended_stream sink.faults sink_new.faults sink.held sink_new.held outcome status said e);
}
