use Rattle.std.proofs.Common.{◌≡◌, ◌++◌, take}
use Rattle.table_text.specs.Tables.{filled_text}
use Rattle.table_text.proofs.tables.push_filled.Given as goal

-- the tables so far
abbrev pub invariant-loop-number : goal.invariant-loop-number
invariant-loop-number l = l.out.items ≡ l.fn.out.items ++ filled_text (take l.number l.schema.tables) l.lists
