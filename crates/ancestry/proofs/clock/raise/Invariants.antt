use Rattle.std.proofs.Common.{◌≡◌, ◌<◌, ◌≤◌, ℕ, length, slice_index_or}
use Rattle.ancestry.specs.Clocked.{raised, with_own}
use Rattle.ancestry.proofs.clock.raise.Given as goal

abbrev pub invariant-loop-c : goal.invariant-loop-c
invariant-loop-c l = (length l.counts ≡ 64)
    × ((k : ℕ) → k < l.c → slice_index_or l.counts k 0 ≡ raised (slice_index_or l.fn.counts k 0) (with_own l.clock.chain k (slice_index_or l.clock.counts k 0)))
    × ((k : ℕ) → l.c ≤ k → slice_index_or l.counts k 0 ≡ slice_index_or l.fn.counts k 0)
