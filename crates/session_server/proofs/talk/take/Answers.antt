use Rattle.std.proofs.Common.{sym, subst}
use Rattle.sync_session.specs.Kept.{frame_of}
use Rattle.sync_session.specs.declared.checked_frame.CheckedFrame.{CheckedFrame}
use Rattle.session_server.specs.Talks.{TookOne}
use Rattle.session_server.proofs.talk.take.Goals as goal

pub returns-in-Item-clause-talk : goal.returns-in-Item-clause-talk
returns-in-Item-clause-talk g c rule role start old heard t =
    let h = c.gather.ensures.talk rule role start old (g.K.Sink.held c.args.link.now) (g.K.Counted.faults c.args.link.now) heard t in (
      h.0,
      subst (λ (f : CheckedFrame). TookOne (frame_of f) heard c.gather.result.1 h.0 c.gather.result.0.session c.args.talk.is_fresh c.gather.result.0.is_fresh (g.K.Sink.held c.args.link.now) (g.K.Sink.held c.args.link.now)
          (g.K.Counted.faults c.args.link.now) (g.K.Counted.faults c.args.link.now)) (sym c.in-Item.is) h.1,
      h.2,
    )
