use Rattle.std.proofs.Common.{◌≡◌, ◌++◌, take}
use Rattle.query_answer.specs.Json.{json_value}
use Rattle.query_answer.specs.Lines.{each_after}
use Rattle.query_answer.proofs.json_text.push_later_values.Given as goal

-- the values so far
abbrev pub invariant-loop-value : goal.invariant-loop-value
invariant-loop-value l = l.out.items ≡ l.fn.out.items ++ each_after 44 json_value (take l.value-index l.values)
