use Rattle.std.proofs.Common.{◌≡◌, ◌++◌, take}
use Rattle.query_answer.specs.Lines.{each_after}
use Rattle.csv_text.specs.Csv.{csv_value}
use Rattle.csv_text.proofs.values.push_later.Given as goal

-- the values so far
abbrev pub invariant-loop-value : goal.invariant-loop-value
invariant-loop-value l = l.out.items ≡ l.fn.out.items ++ each_after 44 csv_value (take l.value-index l.values)
