use Rattle.std.proofs.Common.{◌≡◌, ◌<◌, ℕ, length, slice_index_or, take}
use Rattle.ancestry.proofs.Clocking.{brought, greatest}
use Rattle.ancestry.proofs.clock.merged.Given as goal

abbrev pub invariant-loop-position : goal.invariant-loop-position
invariant-loop-position l = (length l.counts ≡ 64) × ((c : ℕ) → c < 64 → slice_index_or l.counts c 0 ≡ greatest (brought l.members c) 0 (take l.position-index l.preds))
