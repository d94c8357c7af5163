use Rattle.std.proofs.Common.{◌≤◌, take}
use Rattle.ancestry.specs.Clocked.{AreSizes}
use Rattle.ancestry.proofs.clock.uncount.Given as goal

abbrev pub invariant-loop-position : goal.invariant-loop-position
invariant-loop-position l = (l.len ≤ l.position) × AreSizes (take l.position l.members) l.sizes
