use Rattle.std.proofs.Common.{◌≡◌, take, map}
use Rattle.row_check.specs.Meaning.{value_at}
use Rattle.row_check.proofs.evaluation.arguments.Given as goal

-- the values in the columns so far
abbrev pub invariant-loop-column : goal.invariant-loop-column
invariant-loop-column l = l.args.items ≡ map (value_at l.row) (take l.column-index l.columns)
