use Rattle.std.proofs.Common.{◌≡◌, ◌++◌, List, length}
use Rattle.std.specs.Vec.Iter.{into_iter_items}
use Rattle.sync_session.specs.declared.checked_frame.CheckedFrame.{CheckedFrame}
use Rattle.byzantine_world.specs.Taking.{TakesFrames}
use Rattle.byzantine_world.proofs.talk.Side.take_all.Given as goal

-- the frames so far are taken
abbrev pub invariant-frames : goal.invariant-frames
invariant-frames l = (taken : List CheckedFrame) × (l.fn.heard.items ≡ taken ++ into_iter_items l.frames) × TakesFrames l.fn.site l.fn.self taken l.site l.self

abbrev pub decreases-frames : goal.decreases-frames
decreases-frames l = length (into_iter_items l.frames)
