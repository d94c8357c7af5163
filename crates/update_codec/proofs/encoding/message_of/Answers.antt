use Rattle.std.proofs.lemmas.List.Elements.{All-from_recursion}
use Rattle.update_codec.proofs.TakesRows.{counted}
use Rattle.update_codec.proofs.encoding.message_of.Goals as goal

-- the operations of a body are in form
pub put_ops-requires-clause-counted : goal.put_ops-requires-clause-counted
put_ops-requires-clause-counted c = rw c.as_slice.ensures (All-from_recursion _ c.body.inside.ops (counted 0 c.body.inside.ops c.body.invariant.ops))
