use Rattle.std.proofs.Common.{◌≡◌, ◌<◌, ◌+◌, ◌||◌, ℕ, false, length, slice_index_or, take}
use Rattle.std.specs.Prelude.{◌==◌}
use Rattle.std.specs.List.{list_any}
use Rattle.ancestry.proofs.walk.mark_all.Given as goal

abbrev pub invariant-loop-position : goal.invariant-loop-position
invariant-loop-position l = (k : ℕ) → k < length l.fn.marks
    → slice_index_or l.marks k false ≡ (slice_index_or l.fn.marks k false || list_any (λ p. p == l.first + k) (take l.position-index l.positions))
