use Rattle.std.proofs.Common.{subst, rules, ◌≡◌, ◌∷◌, All}
use Rattle.std.proofs.lemmas.List.Elements.{All-head, All-tail}
use Rattle.std.specs.Vec.Iter.{into_iter_items}
use Rattle.bec_links.specs.Memory.{IsFresh}
use Rattle.bec_links.proofs.mem_net.MemNet.next_link.Goals as goal

pub invariant_of-self-in-Some : goal.invariant_of-self-in-Some
invariant_of-self-in-Some c =
    let e : into_iter_items c.self.inside.coming ≡ c.in-Some.link ∷ into_iter_items c.next.new.self = search rules in
    (search rules, All-tail IsFresh _ _ (subst (All IsFresh) e c.self.invariant.1))

pub returns-in-Some-clause-fresh : goal.returns-in-Some-clause-fresh
returns-in-Some-clause-fresh c =
    let e : into_iter_items c.self.inside.coming ≡ c.in-Some.link ∷ into_iter_items c.next.new.self = search rules in
    All-head IsFresh _ _ (subst (All IsFresh) e c.self.invariant.1)
