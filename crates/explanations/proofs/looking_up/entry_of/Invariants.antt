use Rattle.std.proofs.Common.{◌≡◌, length}
use Rattle.explanations.specs.Table.{entry_of}
use Rattle.explanations.proofs.looking_up.entry_of.Given as goal

-- the lines that are left have the entry
abbrev pub invariant-loop-key : goal.invariant-loop-key
invariant-loop-key l = entry_of l.rest l.said ≡ entry_of l.table l.said

abbrev pub decreases-loop-key : goal.decreases-loop-key
decreases-loop-key l = length l.rest
