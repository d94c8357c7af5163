use Rattle.std.proofs.Common.{◌≡◌, take}
use Rattle.query.specs.Columns.{seen_kinds}
use Rattle.query.proofs.condition.seen_kinds.Given as goal

-- the kinds of the columns so far
abbrev pub invariant-loop-slot : goal.invariant-loop-slot
invariant-loop-slot l = l.kinds.items ≡ seen_kinds (take l.slot-index l.slots)
