use Rattle.std.proofs.Common.{◌≡◌, ◌++◌, take}
use Rattle.query_answer.specs.Json.{json_quoted}
use Rattle.query_answer.specs.Lines.{each_after}
use Rattle.query_answer.proofs.json_text.push_later_names.Given as goal

-- the names so far
abbrev pub invariant-loop-name : goal.invariant-loop-name
invariant-loop-name l = l.out.items ≡ l.fn.out.items ++ each_after 44 json_quoted (take l.name-index l.names)
