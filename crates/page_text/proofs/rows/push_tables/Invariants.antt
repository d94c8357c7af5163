use Rattle.std.proofs.Common.{◌≡◌, ◌++◌, take}
use Rattle.page_text.specs.Parts.{each_listed, table_part}
use Rattle.page_text.proofs.rows.push_tables.Given as goal

-- the tables so far
abbrev pub invariant-loop-number : goal.invariant-loop-number
invariant-loop-number l = l.out.items ≡ l.fn.out.items ++ each_listed table_part (take l.number l.schema.tables) l.lists
