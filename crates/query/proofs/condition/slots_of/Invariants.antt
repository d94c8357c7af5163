use Rattle.std.proofs.Common.{◌≡◌, take}
use Rattle.query.specs.Columns.{slots_of}
use Rattle.query.proofs.condition.slots_of.Given as goal

-- the columns of the names so far
abbrev pub invariant-loop-name : goal.invariant-loop-name
invariant-loop-name l = l.slots.items ≡ slots_of l.schema.tables l.table (take l.name-index l.names)
