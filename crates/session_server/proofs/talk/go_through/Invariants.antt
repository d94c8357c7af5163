use Rattle.std.proofs.Common.{◌≡◌, ◌<◌, List, [], None, length}
use Rattle.session_rules.specs.State.{FrameData}
use Rattle.link_frames.specs.Hearing.{Reads}
use Rattle.session_server.specs.Talks.{Goes, IsTalkWith, Start}
use Rattle.session_server.proofs.talk.go_through.Given as goal

abbrev pub invariant-loop : goal.invariant-loop
invariant-loop g l =
    Goes l.fn.talk.pass l.talk.pass l.talk.session
    × ((start : Start) (heard : List FrameData) → IsTalkWith l.side.common.now.rule.now l.side.role l.side.common.now.peers.now start l.fn.talk.pass l.fn.talk.session l.fn.talk.is_fresh (g.K.Sink.held l.initial.link) (g.K.Counted.faults l.initial.link) heard None → heard ≡ []
    → (all : List FrameData) × IsTalkWith l.side.common.now.rule.now l.side.role l.side.common.now.peers.now start l.talk.pass l.talk.session l.talk.is_fresh (g.K.Sink.held l.link) (g.K.Counted.faults l.link) all None
    × Reads l.side.common.now.rule.now (g.K.Source.left l.initial.link) (g.K.Source.left l.link) l.frames all)
    × (0 < length l.buffer.items)
