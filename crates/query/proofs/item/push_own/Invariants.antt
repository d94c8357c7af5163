use Rattle.std.proofs.Common.{◌≡◌, ◌++◌, drop}
use Rattle.query.specs.Columns.{own_items}
use Rattle.query.proofs.item.push_own.Given as goal

-- the columns so far, and those that are left, are all
abbrev pub invariant-loop-n : goal.invariant-loop-n
invariant-loop-n l = l.items.items ++ own_items l.n (drop l.n l.columns) ≡ l.initial.items.items ++ own_items 0 l.columns
