use Rattle.std.proofs.Common.{◌≡◌, ◌≤◌, ℕ, ◌<◌, ◌-◌, true, length, slice_index_or}
use Rattle.key_index.proofs.indices.next_unused.Given as goal

abbrev pub invariant-loop-next : goal.invariant-loop-next
invariant-loop-next l = record {
  within : l.next ≤ length l.used;
  below : (index : ℕ) → index < l.next → slice_index_or l.used index true ≡ true;
}

abbrev pub decreases-loop-next : goal.decreases-loop-next
decreases-loop-next l = length l.used - l.next
