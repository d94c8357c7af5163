use Rattle.std.proofs.Common.{arith, ◌∙◌, true, false}
use Rattle.std.proofs.lemmas.List.{get_or_default}
use Rattle.key_index.proofs.IndexLaws.{least_is}
use Rattle.key_index.proofs.indices.next_unused.Goals as goal

pub returns-else-used-next : goal.returns-else-used-next
returns-else-used-next c = least_is _ _ c.loop-next.invariant.within c.loop-next.invariant.below (λ lt. get_or_default _ _ true false lt ∙ c.if-used-next.false)

pub returns-after-loop-next : goal.returns-after-loop-next
returns-after-loop-next c = least_is _ _ c.loop-next.invariant.within c.loop-next.invariant.below (λ lt. absurd (omega arith))
