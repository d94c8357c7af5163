use Rattle.std.proofs.Common.{[], refl, sym, subst, ◌∙◌, List, ℕ, Option}
use Rattle.link_frames.specs.Listening.{HearsIn}
use Rattle.session_server.proofs.Passing.{still_self}
use Rattle.session_server.proofs.Talking.{reads_cut, reads_frames, reads_none, reads_stops, rose_since, talk_broken, talk_cut, talk_moves, talk_starved}
use Rattle.session_server.proofs.talk.go_on.Goals as goal

pub returns-in-Frames-clause-talk : goal.returns-in-Frames-clause-talk
returns-in-Frames-clause-talk g c start before heard t r =
    let moved = talk_moves c.args.side.now.common.now.rule.now c.args.side.now.role c.args.side.now.common.now.peers.now start c.args.talk.pass c.args.talk.session c.args.talk.is_fresh (g.K.Sink.held c.args.link.now) (g.K.Sink.held c.listen.new.link) (g.K.Counted.faults c.args.link.now)
    (g.K.Counted.faults c.listen.new.link) heard t c.listen.ensures.held c.listen.ensures.later in
    let h = c.hear_all.ensures.talk start heard moved in (
      h.0,
      h.2,
      reads_frames c.args.side.now.common.now.rule.now before (g.K.Source.left c.args.link.now) (g.K.Source.left c.hear_all.new.link) c.args.frames.now c.listen.new.frames c.in-Frames.all.items heard h.0 c.hear_all.result.1 r
          (subst (λ (o : Option (List ℕ)). HearsIn (g.K.Source.left c.args.link.now) o c.args.frames.now c.listen.new.frames c.in-Frames.all.items) (sym c.hear_all.ensures.left) c.in-Frames.ensures.listens) c.hear_all.ensures.uncut h.1,
    )

pub returns-in-NoFrame-clause-talk : goal.returns-in-NoFrame-clause-talk
returns-in-NoFrame-clause-talk g c start before heard t r =
    let moved = talk_moves c.args.side.now.common.now.rule.now c.args.side.now.role c.args.side.now.common.now.peers.now start c.args.talk.pass c.args.talk.session c.args.talk.is_fresh (g.K.Sink.held c.args.link.now) (g.K.Sink.held c.listen.new.link) (g.K.Counted.faults c.args.link.now)
    (g.K.Counted.faults c.listen.new.link) heard t c.listen.ensures.held c.listen.ensures.later in
    let h = c.hear_checked.ensures.talk c.args.side.now.common.now.rule.now start heard moved in
    let none = c.in-NoFrame.ensures.listens in (
      h.0,
      h.2,
      reads_none c.args.side.now.common.now.rule.now c.args.side.now.role c.args.side.now.common.now.peers.now start _ _ _ _ _ before (g.K.Source.left c.args.link.now) (g.K.Source.left c.hear_checked.new.link) c.args.frames.now c.listen.new.frames heard h.0 c.in-NoFrame.place c.hear_checked.result.1
          r none.0 none.1 (c.hear_checked.ensures.left ∙ none.2) c.hear_checked.ensures.uncut h.1 h.2,
    )

pub returns-in-End-clause-goes : goal.returns-in-End-clause-goes
returns-in-End-clause-goes g c = record { still = still_self c.args.talk.pass; belongs = c.requires.belongs }

pub returns-in-End-clause-talk : goal.returns-in-End-clause-talk
returns-in-End-clause-talk g c start before heard t r =
    let moved = talk_moves c.args.side.now.common.now.rule.now c.args.side.now.role c.args.side.now.common.now.peers.now start c.args.talk.pass c.args.talk.session c.args.talk.is_fresh (g.K.Sink.held c.args.link.now) (g.K.Sink.held c.listen.new.link) (g.K.Counted.faults c.args.link.now)
    (g.K.Counted.faults c.listen.new.link) heard t c.listen.ensures.held c.listen.ensures.later in
    let at_end = c.in-End.ensures.listens in
    (heard, talk_cut c.args.side.now.common.now.rule.now c.args.side.now.role c.args.side.now.common.now.peers.now start _ _ _ _ _ heard moved, reads_cut c.args.side.now.common.now.rule.now before (g.K.Source.left c.args.link.now) (g.K.Source.left c.listen.new.link) c.args.frames.now c.listen.new.frames heard r at_end.0 at_end.1 at_end.2)

pub returns-in-Broken-clause-goes : goal.returns-in-Broken-clause-goes
returns-in-Broken-clause-goes g c = record { still = still_self c.args.talk.pass; belongs = c.requires.belongs }

pub returns-in-Broken-clause-talk : goal.returns-in-Broken-clause-talk
returns-in-Broken-clause-talk g c start before heard t r =
    let moved = talk_moves c.args.side.now.common.now.rule.now c.args.side.now.role c.args.side.now.common.now.peers.now start c.args.talk.pass c.args.talk.session c.args.talk.is_fresh (g.K.Sink.held c.args.link.now) (g.K.Sink.held c.listen.new.link) (g.K.Counted.faults c.args.link.now)
    (g.K.Counted.faults c.listen.new.link) heard t c.listen.ensures.held c.listen.ensures.later in
    let broke = c.in-Broken.ensures.listens in (
      heard,
      talk_broken c.args.side.now.common.now.rule.now c.args.side.now.role c.args.side.now.common.now.peers.now start _ _ _ _ _ heard moved (rose_since c.args.side.now.common.now.rule.now c.args.side.now.role c.args.side.now.common.now.peers.now start _ _ _ _ (g.K.Counted.faults c.args.link.now) (g.K.Counted.faults c.listen.new.link) heard t broke.1),
      reads_stops c.args.side.now.common.now.rule.now before (g.K.Source.left c.args.link.now) (g.K.Source.left c.listen.new.link) c.args.frames.now heard _ [] r broke.0 refl,
    )

pub returns-in-Memory-clause-goes : goal.returns-in-Memory-clause-goes
returns-in-Memory-clause-goes g c = record { still = still_self c.args.talk.pass; belongs = c.requires.belongs }

pub returns-in-Memory-clause-talk : goal.returns-in-Memory-clause-talk
returns-in-Memory-clause-talk g c start before heard t r =
    let moved = talk_moves c.args.side.now.common.now.rule.now c.args.side.now.role c.args.side.now.common.now.peers.now start c.args.talk.pass c.args.talk.session c.args.talk.is_fresh (g.K.Sink.held c.args.link.now) (g.K.Sink.held c.listen.new.link) (g.K.Counted.faults c.args.link.now)
    (g.K.Counted.faults c.listen.new.link) heard t c.listen.ensures.held c.listen.ensures.later in
    let some = c.in-Memory.ensures.listens in
    (heard, talk_starved c.args.side.now.common.now.rule.now c.args.side.now.role c.args.side.now.common.now.peers.now start _ _ _ _ _ heard moved, reads_stops c.args.side.now.common.now.rule.now before (g.K.Source.left c.args.link.now) (g.K.Source.left c.listen.new.link) c.args.frames.now heard _ some.0 r some.1 refl)
