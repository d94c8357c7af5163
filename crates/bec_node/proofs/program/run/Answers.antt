use Rattle.std.proofs.Common.{map, refl, arith}
use Rattle.std.specs.String.{string_bytes}
use Rattle.command_words.specs.Seen.{net_seen}
use Rattle.outcomes.specs.Outside.{outside}
use Rattle.schema_verdict.specs.Written.{SinkState}
use Rattle.bec_node.specs.Run.{NetSeen, beside, over_net, unread}
use Rattle.bec_node.proofs.Asking.{appends_none, asks_for_some}
use Rattle.bec_node.proofs.Leaving.{beside_net, net_home, net_leaves}
use Rattle.bec_node.proofs.program.run.Goals as goal

pub returns-in_default : goal.returns-in_default
returns-in_default g c = record {
  runs = unread (record { source = refl; shelf = refl; random = refl }) refl refl (appends_none (g.K.Sink.held c.args.out.now));
  leaves = record { links = refl; store_fault = λ e. absurd (omega (arith, e)); stream_fault = λ e. absurd (omega (arith, e)) };
  home = c.requires;
}

pub returns-in_default-asked : goal.returns-in_default-asked
returns-in_default-asked g c = record {
  runs = beside (rw c.in_default-asked.is at c.in-Ok.ensures) c.run_beside.ensures refl;
  leaves = record { links = refl; store_fault = c.run_beside.ensures.store_fault; stream_fault = λ e. beside_net (c.run_beside.ensures.stream_fault e) };
  home = c.run_beside.ensures.home;
}

pub meet_others-told-requires-clause-some : goal.meet_others-told-requires-clause-some
meet_others-told-requires-clause-some g c κs lives =
    asks_for_some (map string_bytes c.args.words.now) (net_seen c.in-Some.request) (rw c.in-Some.is at c.in-Ok.ensures)

pub returns : goal.returns
returns g c =
    let seen = outside g.S.Source.left g.S.Counted.faults g.H.Shelf.state g.H.Counted.faults g.R.Rng.stream c.args.outside.now.input c.args.outside.now.shelf c.args.outside.now.random in
    let then = outside g.S.Source.left g.S.Counted.faults g.H.Shelf.state g.H.Counted.faults g.R.Rng.stream c.args.outside.now.input c.meet_others-told.new.shelf c.args.outside.now.random in
    let net : NetSeen _ = record { net = c.args.net.now; state = g.N.Net.state c.args.net.now; faults = g.N.Counted.faults c.args.net.now } in
    let net_new : NetSeen _ = record { net = c.meet_others-told.new.net; state = g.N.Net.state c.meet_others-told.new.net; faults = g.N.Counted.faults c.meet_others-told.new.net } in
    let sink : SinkState = record { held = g.K.Sink.held c.args.out.now; faults = g.K.Counted.faults c.args.out.now } in
    let sink_new : SinkState = record { held = g.K.Sink.held c.end.new.out; faults = g.K.Counted.faults c.end.new.out } in
    let request = net_seen c.in-Some.request in
    let told = c.meet_others-told.result in
    let does = c.meet_others-told.ensures in
    record {
      runs = over_net request (rw c.in-Some.is at c.in-Ok.ensures) (record { told = told; does = does; source = refl; random = refl; said = c.end.ensures });
      leaves = net_leaves seen then net net_new sink sink_new c.end.result request told does c.end.ensures;
      home = net_home seen then net net_new sink sink_new c.end.result request told does;
    }
