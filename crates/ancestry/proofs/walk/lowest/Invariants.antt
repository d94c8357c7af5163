use Rattle.std.proofs.Common.{◌≡◌, ◌<◌, ◌≤◌, ◌+◌, ℕ, false, take}
use Rattle.std.specs.Prelude.{◌==◌}
use Rattle.std.specs.List.{list_any}
use Rattle.ancestry.proofs.walk.lowest.Given as goal

abbrev pub invariant-loop-position : goal.invariant-loop-position
invariant-loop-position l = record {
  least : l.low ≤ l.fn.low;
  below : (k : ℕ) → k < l.low → list_any (λ p. p == l.first + k) (take l.position-index l.positions) ≡ false;
}
