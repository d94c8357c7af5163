use Rattle.std.proofs.Common.{◌+◌, List, sym, subst}
use Rattle.sync_frames.specs.declared.frame.Frame.{Frame}
use Rattle.sync_frames.proofs.Pieces.{SoFar, whole_behind, broken_behind}
use Rattle.sync_frames.proofs.finding.split.Goals as goal

pub loop-frames-preserved : goal.loop-frames-preserved
loop-frames-preserved c =
    subst (λ (frames : List Frame). SoFar c.args.bytes.now frames (c.loop-frames.len + c.in-Whole.more)) (sym c.in_ok-push-in-Whole.ensures.items)
    (whole_behind c.args.bytes.now c.loop-frames.frames.items c.loop-frames.len c.in_ok-frame.field-0 c.in-Whole.frame c.in-Whole.more c.in-Whole.is c.in_ok-frame.ensures c.loop-frames.invariant)

pub returns-in-Broken : goal.returns-in-Broken
returns-in-Broken c = broken_behind c.args.bytes.now c.loop-frames.frames.items c.loop-frames.len c.in_ok-frame.field-0 c.in-Broken.is c.in_ok-frame.ensures c.loop-frames.invariant
