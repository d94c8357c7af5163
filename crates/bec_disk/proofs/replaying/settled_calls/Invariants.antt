use Rattle.std.proofs.Common.{◌≡◌, ◌≤◌, ℕ, List, length, take}
use Rattle.bec_disk.specs.Replay.{begun_with, replayed}
use Rattle.bec_disk.proofs.replaying.settled_calls.Given as goal

abbrev pub invariant-loop-count : goal.invariant-loop-count
invariant-loop-count l = record {
  within : l.count ≤ length l.calls;
  synced : (start : List ℕ) → (replayed (begun_with start) l.calls).now.synced ≡ (replayed (begun_with start) (take l.count l.calls)).now.synced;
}

abbrev pub decreases-loop-count : goal.decreases-loop-count
decreases-loop-count l = l.count
