use Rattle.std.proofs.Common.{◌≡◌, ◌++◌, take}
use Rattle.std.specs.List.{flat_map}
use Rattle.table_text.specs.Tables.{void_text}
use Rattle.table_text.proofs.tables.push_voids.Given as goal

-- the updates so far
abbrev pub invariant-loop-line : goal.invariant-loop-line
invariant-loop-line l = l.out.items ≡ l.fn.out.items ++ flat_map void_text (take l.line-index l.voids)
