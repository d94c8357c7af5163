use Rattle.std.proofs.Common.{◌≡◌, ◌<◌, ℕ, length, false, take}
use Rattle.ancestry.specs.Chains.{chains, joined}
use Rattle.ancestry.proofs.Merging.{is_free}
use Rattle.ancestry.proofs.clock.join.Given as goal

abbrev pub invariant-loop-position : goal.invariant-loop-position
invariant-loop-position l = l.least ≡ joined (chains l.members (length l.members)) (take l.position-index l.preds)

abbrev pub invariant-loop-c : goal.invariant-loop-c
invariant-loop-c l = (k : ℕ) → k < l.c → is_free l.members k ≡ false
