use Rattle.std.proofs.Common.{ℕ, List, subst}
use Rattle.schema_verdict.specs.declared.status.TheConstants.{DONE, REFUSED}
use Rattle.schema_verdict.specs.Checks.{SourceState}
use Rattle.schema_verdict.specs.Written.{Puts, SinkState}
use Rattle.schema_verdict.proofs.Telling.{refusal_told, verdict_told}
use Rattle.schema_verdict.proofs.checking.check.Goals as goal

pub returns-in-Ok : goal.returns-in-Ok
returns-in-Ok g c =
    let source : SourceState = record { left = g.S.Source.left c.args.input.now; faults = g.S.Counted.faults c.args.input.now } in
    let source_new : SourceState = record { left = g.S.Source.left c.verdict.new.input; faults = g.S.Counted.faults c.verdict.new.input } in
    let sink : SinkState = record { held = g.K.Sink.held c.args.out.now; faults = g.K.Counted.faults c.args.out.now } in
    let sink_new : SinkState = record { held = g.K.Sink.held c.put.new.out; faults = g.K.Counted.faults c.put.new.out } in
    let P : List ℕ → Type 0 = λ w. Puts sink.faults sink_new.faults sink.held sink_new.held DONE w c.put.result in
    verdict_told source source_new sink sink_new c.put.result c.in-Ok.text c.in-Ok.ensures.confluent (subst P c.deref.ensures.value c.put.ensures)

pub returns-in-Ok-refusal_lines : goal.returns-in-Ok-refusal_lines
returns-in-Ok-refusal_lines g c =
    let source : SourceState = record { left = g.S.Source.left c.args.input.now; faults = g.S.Counted.faults c.args.input.now } in
    let source_new : SourceState = record { left = g.S.Source.left c.verdict.new.input; faults = g.S.Counted.faults c.verdict.new.input } in
    let sink : SinkState = record { held = g.K.Sink.held c.args.out.now; faults = g.K.Counted.faults c.args.out.now } in
    let sink_new : SinkState = record { held = g.K.Sink.held c.put-in-Ok-refusal_lines.new.out; faults = g.K.Counted.faults c.put-in-Ok-refusal_lines.new.out } in
    let P : List ℕ → Type 0 = λ w. Puts sink.faults sink_new.faults sink.held sink_new.held REFUSED w c.put-in-Ok-refusal_lines.result in
    let refused = rw c.in-Err-NotTaken.field-0-is at c.in-Err-NotTaken.ensures.refused in
    refusal_told source source_new sink sink_new c.put-in-Ok-refusal_lines.result c.in-Err-NotTaken.why c.in-Ok-refusal_lines.lines.items refused
    c.in-Ok-refusal_lines.ensures (subst P c.deref-in-Ok-refusal_lines.ensures.value c.put-in-Ok-refusal_lines.ensures)
