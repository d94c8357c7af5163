use Rattle.std.proofs.Common.{◌≡◌, ◌⊎◌, ◌<◌, ℕ, length}
use Rattle.std.specs.Prelude.{slice_index}
use Rattle.bec_disk.proofs.replaying.image_of.Given as goal

abbrev pub invariant-loop-i : goal.invariant-loop-i
invariant-loop-i l = record {
  long : length l.image.items ≡ l.i;
  each : (k : ℕ) → k < l.i → k < length l.fn.synced.items
      → (slice_index l.image.items k ≡ slice_index l.fn.synced.items k) ⊎ ((k < length l.bytes) × (slice_index l.image.items k ≡ slice_index l.bytes k));
}
