use Rattle.std.proofs.Common.{◌≡◌, ◌<◌, ℕ, true, length}
use Rattle.std.specs.Prelude.{◌==◌}
use Rattle.std.specs.List.{list_any}
use Rattle.ancestry.proofs.namers.Namers.shorten.Given as goal

abbrev pub invariant-loop-last : goal.invariant-loop-last
invariant-loop-last l = (q : ℕ) → q < l.len → list_any (λ s. s == q) l.initial.self-inside.positions.items ≡ true → list_any (λ s. s == q) l.self-inside.positions.items ≡ true

abbrev pub decreases-loop-last : goal.decreases-loop-last
decreases-loop-last l = length l.self-inside.positions.items
