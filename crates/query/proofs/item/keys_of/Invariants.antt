use Rattle.std.proofs.Common.{◌≡◌, ◌++◌, length}
use Rattle.query.specs.Columns.{keys_of}
use Rattle.query.proofs.item.keys_of.Given as goal

-- the keys so far, and those of the words that are left, are all
abbrev pub invariant-loop-left : goal.invariant-loop-left
invariant-loop-left l = l.keys.items ++ keys_of l.schema.tables l.table l.left ≡ keys_of l.schema.tables l.table l.words

abbrev pub decreases-loop-left : goal.decreases-loop-left
decreases-loop-left l = length l.left
