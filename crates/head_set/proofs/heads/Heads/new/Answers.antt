use Rattle.std.proofs.Common.{arith, refl}
use Rattle.std.specs.List.Sorted.{IsStrictlySortedBy}
use Rattle.head_set.specs.Spans.{heads_at}
use Rattle.head_set.proofs.States.{states_none}
use Rattle.head_set.proofs.heads.Heads.new.Goals as goal

pub invariant_of-result : goal.invariant_of-result
unfolding heads_at IsStrictlySortedBy
invariant_of-result c = rw c.new.ensures.empty record { rising = tt; before = tt; few = omega arith; fewer = λ n low. omega arith; counted = refl }

pub returns : goal.returns
returns c = states_none c.new.result.entries
