use Rattle.outcomes.specs.Outside.{outside}
use Rattle.schema_verdict.specs.Written.{SinkState}
use Rattle.front.proofs.Bringing.{said_rightly}
use Rattle.front.proofs.brought.brought.Goals as goal

pub returns : goal.returns
returns g c =
    let seen = outside g.S.Source.left g.S.Counted.faults g.H.Shelf.state g.H.Counted.faults g.R.Rng.stream c.args.outside.now.input c.args.outside.now.shelf c.args.outside.now.random in
    let then = outside g.S.Source.left g.S.Counted.faults g.H.Shelf.state g.H.Counted.faults g.R.Rng.stream c.bring-outcome.new.outside.input c.bring-outcome.new.outside.shelf c.bring-outcome.new.outside.random in
    let sink : SinkState = record { held = g.K.Sink.held c.args.out.now; faults = g.K.Counted.faults c.args.out.now } in
    let sink_new : SinkState = record { held = g.K.Sink.held c.finish-status.new.out; faults = g.K.Counted.faults c.finish-status.new.out } in
    record {
      brings = record { outcome = c.bring-outcome.result; brings = c.bring-outcome.ensures.brings; said = c.finish-status.ensures };
      blames = said_rightly seen then sink sink_new c.bring-outcome.result c.finish-status.result c.bring-outcome.ensures.blames c.finish-status.ensures;
      home = c.bring-outcome.ensures.home;
    }
