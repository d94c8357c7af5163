use Rattle.std.specs.BTreeSet.{keys}
use Rattle.mem_holder.proofs.Sweeps.{Swept}
use Rattle.mem_holder.proofs.sweeping.since_of.Given as goal

abbrev pub invariant-positions : goal.invariant-positions
invariant-positions l = Swept l.graph l.below l.old l.position (keys l.behind) l.positions.items

abbrev pub decreases-positions : goal.decreases-positions
decreases-positions l = l.position
