use Rattle.std.proofs.Common.{inr, refl}
use Rattle.sync_session.specs.Kept.{frame_of}
use Rattle.session_server.proofs.Passing.{still_then}
use Rattle.session_server.proofs.Talking.{heard_checked}
use Rattle.session_server.proofs.talk.hear_checked.Goals as goal

pub returns-in-Ok-clause-goes : goal.returns-in-Ok-clause-goes
returns-in-Ok-clause-goes g c = record {
  still = still_then c.args.talk.pass c.in-Ok.talk.pass c.take.result.0.pass c.in-Ok.ensures.ok.0.still c.take.ensures.goes.still;
  belongs = c.take.ensures.goes.belongs;
}

pub returns-in-Ok-clause-talk : goal.returns-in-Ok-clause-talk
returns-in-Ok-clause-talk g c rule start heard t =
    let again = c.in-Ok.ensures.ok.1 rule start (g.K.Sink.held c.args.link.now) (g.K.Counted.faults c.args.link.now) heard t in
    heard_checked rule c.args.side.now.role c.args.side.now.common.now.peers.now start c.args.talk.pass c.in-Ok.talk.pass c.take.result.0.pass c.args.talk.session c.take.result.0.session c.args.talk.is_fresh c.in-Ok.talk.is_fresh c.take.result.0.is_fresh
    (g.K.Sink.held c.args.link.now) (g.K.Sink.held c.take.new.link) (g.K.Counted.faults c.args.link.now) (g.K.Counted.faults c.take.new.link) heard (frame_of c.args.frame) c.take.result.1 again.0
    t c.in-Ok.ensures.ok.0.still c.take.ensures.goes.still c.in-Ok.ensures.fresh again.1 (c.take.ensures.talk rule c.args.side.now.role start again.0 heard again.2)

pub returns-in-Err-clause-talk : goal.returns-in-Err-clause-talk
returns-in-Err-clause-talk g c rule start heard t = (heard, inr (refl, refl), c.in-Err.ensures.err.1 rule start (g.K.Sink.held c.args.link.now) (g.K.Counted.faults c.args.link.now) heard t)
