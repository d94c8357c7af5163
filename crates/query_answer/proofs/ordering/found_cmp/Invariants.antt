use Rattle.std.proofs.Common.{◌≡◌, drop, map}
use Rattle.query_answer.specs.Order.{found_cmp}
use Rattle.query_answer.specs.Rows.{told}
use Rattle.query_answer.proofs.ordering.found_cmp.Given as goal

-- the keys that are left decide
abbrev pub invariant-loop-at : goal.invariant-loop-at
invariant-loop-at l = found_cmp l.at (drop l.at l.keys) (map told l.a) (map told l.b) ≡ found_cmp 0 l.keys (map told l.a) (map told l.b)
