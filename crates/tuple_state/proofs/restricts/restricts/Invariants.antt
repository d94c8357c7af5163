use Rattle.std.proofs.Common.{◌≡◌, drop}
use Rattle.tuple_state.specs.Parents.{any_restricts}
use Rattle.tuple_state.proofs.restricts.restricts.Given as goal

-- what is to be asked of the columns that are left is to be asked of all
abbrev pub invariant-loop-number : goal.invariant-loop-number
invariant-loop-number l = any_restricts l.name (drop l.number l.columns) (drop l.number l.values) ≡ any_restricts l.name l.columns l.values
