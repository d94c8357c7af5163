use Rattle.std.proofs.Common.{◌≡◌, ◌++◌, take}
use Rattle.query_answer.specs.Lines.{each_after}
use Rattle.query_answer.specs.TablesJson.{json_row}
use Rattle.query_answer.proofs.tables_object.push_later_rows.Given as goal

-- the rows so far
abbrev pub invariant-loop-row : goal.invariant-loop-row
invariant-loop-row l = l.out.items ≡ l.fn.out.items ++ each_after 44 json_row (take l.row-index l.rows)
