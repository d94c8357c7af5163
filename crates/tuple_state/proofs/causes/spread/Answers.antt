use Rattle.std.proofs.Common.{arith}
use Rattle.tuple_state.proofs.Raising.{absent_fewer}
use Rattle.tuple_state.proofs.causes.spread.Goals as goal

pub raise_children-requires-clause-few : goal.raise_children-requires-clause-few
raise_children-requires-clause-few c k =
    let even = c.loop-place.invariant.even k in
    let few = c.requires.few k in
    let fewer = absent_fewer c.args.children.now.links c.loop-place.causes k in
    omega (arith, even, few, fewer)
