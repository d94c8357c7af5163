use Rattle.std.proofs.Common.{◌≡◌, List, ◌++◌, subst, arith}
use Rattle.std.specs.BTreeSet.{keys}
use Rattle.update_model.specs.declared.update_id.UpdateId.{UpdateId}
use Rattle.peer_memory.proofs.IdLists.{front_is, whole_is}
use Rattle.peer_memory.proofs.ids.first_of.Goals as goal

pub returns-then-len : goal.returns-then-len
returns-then-len c = front_is c.loop-id.ids.items c.loop-id.id-iterator (keys c.args.all.now) c.loop-id.invariant.whole c.loop-id.invariant.few (let a = c.len.ensures in let b = c.if-len.true in omega arith)

pub returns : goal.returns
returns c = whole_is c.loop-id.ids.items (keys c.args.all.now) (subst (λ (rest : List UpdateId). c.loop-id.ids.items ++ rest ≡ keys c.args.all.now) c.in-None.ensures.steps.0 c.loop-id.invariant.whole) c.loop-id.invariant.few
