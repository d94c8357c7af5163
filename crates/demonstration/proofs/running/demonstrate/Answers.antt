use Rattle.std.proofs.Common.{◌-◌, ◌≡◌, min, subst, sym, arith}
use Rattle.demonstration.specs.Demos.{keys_of}
use Rattle.demonstration.specs.Sites.{IsCourse, steps}
use Rattle.demonstration.proofs.running.demonstrate.Goals as goal

pub returns-clause-made : goal.returns-clause-made
returns-clause-made c =
    let all : c.updates.k ≡ c.args.count = omega arith in
    let since : min c.args.count (c.args.count - 4) ≡ c.args.count - 4 = omega arith in
    let keys = keys_of c.args.number in
    let course = subst (λ k. IsCourse keys (steps k (min k (c.args.count - 4)) (min k (c.args.count - 4)) 0) c.updates.authors.items) all c.updates.invariant.1 in
    c.ended.ensures.made c.args.number c.args.count
    (subst (IsCourse keys (steps c.args.count (c.args.count - 4) (c.args.count - 4) 0)) (sym c.deref_mut-2.ensures.value)
    (subst (λ k. IsCourse keys (steps c.args.count k k 0) c.updates.authors.items) since course))
