use Rattle.std.proofs.Common.{◌<◌, ℕ}
use Rattle.ancestry.specs.Chains.{chain_of}
use Rattle.ancestry.proofs.ancestry.Ancestry.marks_of_unchained.Given as goal

abbrev pub invariant-loop-position : goal.invariant-loop-position
invariant-loop-position l = (k : ℕ) → k < l.position → chain_of l.self k < 64
