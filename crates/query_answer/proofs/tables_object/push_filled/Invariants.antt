use Rattle.std.proofs.Common.{◌≡◌, ◌++◌, ◌∷◌, take}
use Rattle.std.specs.List.{zip}
use Rattle.query_answer.specs.Lines.{apart}
use Rattle.query_answer.specs.TablesJson.{json_table}
use Rattle.query_answer.proofs.tables_object.push_filled.Given as goal

-- the bracket and the tables so far
abbrev pub invariant-loop-number : goal.invariant-loop-number
invariant-loop-number l = l.out.items ≡ l.fn.out.items ++ (91 ∷ apart 44 json_table (zip (take l.number l.schema.tables) l.lists))
