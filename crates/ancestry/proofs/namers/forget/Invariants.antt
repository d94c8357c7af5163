use Rattle.std.proofs.Common.{◌≡◌, ◌<◌, ℕ, true}
use Rattle.ancestry.specs.Named.{is_noted}
use Rattle.ancestry.proofs.namers.forget.Given as goal

abbrev pub invariant-loop-pred : goal.invariant-loop-pred
invariant-loop-pred l = (p q : ℕ) → q < l.len → is_noted l.initial.namers p q ≡ true → is_noted l.namers p q ≡ true
