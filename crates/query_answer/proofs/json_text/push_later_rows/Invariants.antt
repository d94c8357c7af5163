use Rattle.std.proofs.Common.{◌≡◌, ◌++◌, take}
use Rattle.query_answer.specs.Json.{json_list, json_value}
use Rattle.query_answer.specs.Lines.{each_after}
use Rattle.query_answer.proofs.json_text.push_later_rows.Given as goal

-- the rows so far
abbrev pub invariant-loop-row : goal.invariant-loop-row
invariant-loop-row l = l.out.items ≡ l.fn.out.items ++ each_after 44 (json_list json_value) (take l.row-index l.rows)
