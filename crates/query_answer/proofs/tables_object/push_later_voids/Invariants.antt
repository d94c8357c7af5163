use Rattle.std.proofs.Common.{◌≡◌, ◌++◌, take}
use Rattle.query_answer.specs.Lines.{each_after}
use Rattle.query_answer.specs.TablesJson.{json_void}
use Rattle.query_answer.proofs.tables_object.push_later_voids.Given as goal

-- the updates so far
abbrev pub invariant-loop-line : goal.invariant-loop-line
invariant-loop-line l = l.out.items ≡ l.fn.out.items ++ each_after 44 json_void (take l.line-index l.voids)
