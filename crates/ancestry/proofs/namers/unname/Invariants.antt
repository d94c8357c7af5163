use Rattle.std.proofs.Common.{◌≡◌, ◌<◌, ℕ, true}
use Rattle.ancestry.specs.Named.{is_noted}
use Rattle.ancestry.proofs.namers.unname.Given as goal

abbrev pub invariant-loop-position : goal.invariant-loop-position
invariant-loop-position l = (p q : ℕ) → q < l.len → is_noted l.initial.namers p q ≡ true → is_noted l.namers p q ≡ true
