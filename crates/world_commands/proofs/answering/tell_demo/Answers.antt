use Rattle.std.proofs.Common.{ℕ, List, ◌∙◌, subst}
use Rattle.schema_verdict.specs.Written.{Puts, SinkState}
use Rattle.schema_verdict.specs.declared.status.TheConstants.{DONE}
use Rattle.world_commands.specs.Demos.{counted}
use Rattle.world_commands.proofs.answering.tell_demo.Goals as goal

pub returns-in-Ok : goal.returns-in-Ok
returns-in-Ok g c =
    let sink : SinkState = record { held = g.K.Sink.held c.args.out.now; faults = g.K.Counted.faults c.args.out.now } in
    let sink_new : SinkState = record { held = g.K.Sink.held c.put.new.out; faults = g.K.Counted.faults c.put.new.out } in
    let found = c.in-Ok.ensures in
    counted found.0 found.1 found.2
    (subst (λ (w : List ℕ). Puts sink.faults sink_new.faults sink.held sink_new.held DONE w c.put.result) (c.as_slice.ensures.value ∙ found.3) c.put.ensures)
