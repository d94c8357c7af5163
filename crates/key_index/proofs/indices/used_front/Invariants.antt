use Rattle.std.proofs.Common.{◌≡◌, ◌≤◌, ℕ, false, length, slice_index_or}
use Rattle.key_index.proofs.indices.used_front.Given as goal

abbrev pub invariant-loop-count : goal.invariant-loop-count
invariant-loop-count l = record {
  within : l.count ≤ length l.used;
  above : (index : ℕ) → l.count ≤ index → slice_index_or l.used index false ≡ false;
}

abbrev pub decreases-loop-count : goal.decreases-loop-count
decreases-loop-count l = l.count
