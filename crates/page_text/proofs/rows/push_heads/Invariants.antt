use Rattle.std.proofs.Common.{◌≡◌, ◌++◌, take}
use Rattle.std.specs.List.{flat_map}
use Rattle.page_text.specs.Parts.{head_cell}
use Rattle.page_text.proofs.rows.push_heads.Given as goal

-- the heads so far
abbrev pub invariant-loop-column : goal.invariant-loop-column
invariant-loop-column l = l.out.items ≡ l.fn.out.items ++ flat_map head_cell (take l.column-index l.columns)
