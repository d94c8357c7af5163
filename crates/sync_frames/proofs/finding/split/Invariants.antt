use Rattle.std.proofs.Common.{◌-◌, length}
use Rattle.sync_frames.proofs.Pieces.{SoFar}
use Rattle.sync_frames.proofs.finding.split.Given as goal

abbrev pub invariant-loop-frames : goal.invariant-loop-frames
invariant-loop-frames l = SoFar l.bytes l.frames.items l.len

abbrev pub decreases-loop-frames : goal.decreases-loop-frames
decreases-loop-frames l = length l.bytes - l.len
