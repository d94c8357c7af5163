use Rattle.std.proofs.Common.{◌≡◌, ◌++◌, take}
use Rattle.page_text.specs.Cells.{cells}
use Rattle.page_text.proofs.cells.push_cells.Given as goal

-- the cells so far
abbrev pub invariant-loop-value : goal.invariant-loop-value
invariant-loop-value l = l.out.items ≡ l.fn.out.items ++ cells (take l.value-index l.values)
