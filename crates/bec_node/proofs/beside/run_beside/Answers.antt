use Rattle.std.proofs.Common.{ap, refl, arith}
use Rattle.outcomes.specs.Outside.{outside}
use Rattle.schema_verdict.specs.Written.{SinkState}
use Rattle.bec_node.specs.Beside.{alone, unread}
use Rattle.bec_node.specs.Families.{beside_seen}
use Rattle.bec_node.proofs.Asking.{appends_none}
use Rattle.bec_node.proofs.Leaving.{runs_asked}
use Rattle.bec_node.proofs.beside.run_beside.Goals as goal

pub returns-in_default : goal.returns-in_default
returns-in_default g c = record {
  does = unread (record { source = refl; shelf = refl; random = refl }) refl (appends_none (g.K.Sink.held c.args.out.now));
  store_fault = λ e. absurd (omega (arith, e));
  stream_fault = λ e. absurd (omega (arith, e));
  home = c.requires;
}

pub returns-in_default-asked : goal.returns-in_default-asked
returns-in_default-asked g c = record {
  does = alone (rw c.in_default-asked.is at c.in-Ok.ensures) c.run_alone.ensures;
  store_fault = c.run_alone.ensures.store_fault;
  stream_fault = c.run_alone.ensures.stream_fault;
  home = c.run_alone.ensures.home;
}

pub returns : goal.returns
returns g c =
    let seen = outside g.S.Source.left g.S.Counted.faults g.H.Shelf.state g.H.Counted.faults g.R.Rng.stream c.args.outside.now.input c.args.outside.now.shelf c.args.outside.now.random in
    let then = outside g.S.Source.left g.S.Counted.faults g.H.Shelf.state g.H.Counted.faults g.R.Rng.stream c.run_asked.new.outside.input c.run_asked.new.outside.shelf c.run_asked.new.outside.random in
    let sink : SinkState = record { held = g.K.Sink.held c.args.out.now; faults = g.K.Counted.faults c.args.out.now } in
    let sink_new : SinkState = record { held = g.K.Sink.held c.run_asked.new.out; faults = g.K.Counted.faults c.run_asked.new.out } in
    runs_asked seen then sink sink_new c.run_asked.result c.args.words.now c.requires (λ same. (ap g.H.Shelf.state same, ap g.H.Counted.faults same)) (beside_seen c.in-Some.request)
    (rw c.in-Some.is at c.in-Ok.ensures) c.run_asked.ensures
