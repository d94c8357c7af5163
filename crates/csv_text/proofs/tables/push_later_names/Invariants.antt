use Rattle.std.proofs.Common.{◌≡◌, ◌++◌, take}
use Rattle.query_answer.specs.Lines.{each_after}
use Rattle.csv_text.specs.Csv.{csv_name}
use Rattle.csv_text.proofs.tables.push_later_names.Given as goal

-- the names so far
abbrev pub invariant-loop-name : goal.invariant-loop-name
invariant-loop-name l = l.out.items ≡ l.fn.out.items ++ each_after 44 csv_name (take l.name-index l.names)
