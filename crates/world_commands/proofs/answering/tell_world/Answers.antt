use Rattle.std.proofs.Common.{ℕ, List, Ok, refl, subst}
use Rattle.schema_verdict.specs.Checks.{SourceState}
use Rattle.schema_verdict.specs.Written.{Puts, SinkState}
use Rattle.schema_verdict.specs.declared.status.TheConstants.{DONE}
use Rattle.world_commands.specs.Answers.{reported_so}
use Rattle.world_commands.proofs.Telling.{not_reported}
use Rattle.world_commands.proofs.answering.tell_world.Goals as goal

pub returns-in-Ok : goal.returns-in-Ok
returns-in-Ok g c =
    let sink : SinkState = record { held = g.K.Sink.held c.args.out.now; faults = g.K.Counted.faults c.args.out.now } in
    let sink_new : SinkState = record { held = g.K.Sink.held c.put.new.out; faults = g.K.Counted.faults c.put.new.out } in
    reported_so c.in-Ok.report.items (Ok c.in-Ok.report) refl c.in-Ok.ensures.reported
    (subst (λ (w : List ℕ). Puts sink.faults sink_new.faults sink.held sink_new.held DONE w c.put.result) c.as_slice.ensures.value c.put.ensures)

pub returns-in-Err : goal.returns-in-Err
returns-in-Err g c =
    let source : SourceState = record { left = g.S.Source.left c.args.input.now; faults = g.S.Counted.faults c.args.input.now } in
    let source_new : SourceState = record { left = g.S.Source.left c.run_world.new.input; faults = g.S.Counted.faults c.run_world.new.input } in
    let sink : SinkState = record { held = g.K.Sink.held c.args.out.now; faults = g.K.Counted.faults c.args.out.now } in
    let sink_new : SinkState = record { held = g.K.Sink.held c.refuse.new.out; faults = g.K.Counted.faults c.refuse.new.out } in
    not_reported c.args.audit source source_new sink sink_new c.refuse.result c.in-Err.why c.in-Err.ensures.refused c.refuse.ensures
