use Rattle.std.proofs.Common.{ap}
use Rattle.session_server.specs.Serving.{Ran}
use Rattle.net_commands.proofs.Dialling.{meets_nobody, meets_none, meets_somebody}
use Rattle.net_commands.proofs.syncing.meet.Goals as goal

pub returns-in-Err : goal.returns-in-Err
returns-in-Err g c = meets_nobody _ c.in-Err.field-0 _ _ _ _ _ _ _ c.in-Err.is c.dial.ensures.refused c.dial.ensures.cause.failed

pub returns-in-Err-new : goal.returns-in-Err-new
returns-in-Err-new g c = meets_none _ _ _ (g.N.Net.state c.dial.new.self) _ _ _ _ _ _ _ c.in-Ok.ensures.handed c.put_back.ensures.taken c.in-Err-new.ensures.err

pub returns : goal.returns
returns g c =
    let ran : Ran = record {
      before = c.in-Ok-new.both.1;
      after = c.run_session-pass.result.0;
      left = g.N.L.Source.left c.in-Ok.link;
      left' = g.N.L.Source.left c.run_session-pass.new.link;
      held = g.N.L.Sink.held c.in-Ok.link;
      held' = g.N.L.Sink.held c.run_session-pass.new.link;
      faults = g.N.L.Counted.faults c.in-Ok.link;
      faults' = g.N.L.Counted.faults c.run_session-pass.new.link;
      served = c.run_session-pass.result.1;
    } in
    meets_somebody c.args.known.now.rule _ _ c.name_of.result _ (g.N.Net.state c.dial.new.self) _ _ (g.N.Counted.faults c.dial.new.self) _ _ _ ran c.end.ensures.0 c.requires c.name_of.ensures (ap (λ k. k.seen) c.in-Ok-new.ensures.ok) c.run_session-pass.ensures
    c.in-Ok.ensures.handed c.put_back-2.ensures.taken c.in-Ok.ensures.clean c.in-Ok.ensures.count c.put_back-2.ensures.faulted c.end.ensures.1 c.end.ensures.2
