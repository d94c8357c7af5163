use Rattle.std.proofs.Common.{take}
use Rattle.bec_disk.specs.Left.{AreLeft}
use Rattle.bec_disk.proofs.shelved.left_of.Given as goal

abbrev pub invariant-loop-entry : goal.invariant-loop-entry
invariant-loop-entry l = AreLeft l.choice (take l.entry-index l.entries) l.left.items
