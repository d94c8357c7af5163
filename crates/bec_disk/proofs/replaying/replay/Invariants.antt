use Rattle.std.proofs.Common.{◌≡◌, take}
use Rattle.bec_disk.specs.Replay.{begun_with, replayed}
use Rattle.bec_disk.proofs.replaying.replay.Given as goal

abbrev pub invariant-loop-call : goal.invariant-loop-call
invariant-loop-call l = l.bytes.items ≡ (replayed (begun_with l.start) (take l.call-index l.calls)).seen
