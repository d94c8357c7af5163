use Rattle.std.proofs.Common.{◌≡◌, All, List, length, None}
use Rattle.std.specs.Vec.Iter.{into_iter_items}
use Rattle.session_rules.specs.State.{FrameData}
use Rattle.sync_session.specs.Kept.{IsFrameUnder}
use Rattle.session_server.specs.Talks.{Goes, IsTalkWith, Start}
use Rattle.session_server.proofs.Talking.{HeardUpTo}
use Rattle.session_server.proofs.talk.hear_all.Given as goal

abbrev pub invariant-frames : goal.invariant-frames
invariant-frames g l =
    Goes l.initial.talk.pass l.talk.pass l.talk.session × (g.K.Source.left l.link ≡ g.K.Source.left l.initial.link) × All (IsFrameUnder l.side.common.now.rule.now) (into_iter_items l.frames)
    × ((start : Start) (heard : List FrameData) → IsTalkWith l.side.common.now.rule.now l.side.role l.side.common.now.peers.now start l.initial.talk.pass l.initial.talk.session l.initial.talk.is_fresh (g.K.Sink.held l.initial.link) (g.K.Counted.faults l.initial.link) heard None
    → (all : List FrameData) × HeardUpTo l.side.common.now.rule.now l.fn.frames.items (into_iter_items l.frames) heard all
    × IsTalkWith l.side.common.now.rule.now l.side.role l.side.common.now.peers.now start l.talk.pass l.talk.session l.talk.is_fresh (g.K.Sink.held l.link) (g.K.Counted.faults l.link) all None)

abbrev pub decreases-frames : goal.decreases-frames
decreases-frames g l = length (into_iter_items l.frames)
