use Rattle.std.proofs.Common.{◌++◌, ap, ◌∙◌}
use Rattle.std.specs.Option.{option_to_list}
use Rattle.hash_graph.proofs.KeptLemmas.{IsKept-without_last}
use Rattle.hash_graph.proofs.graph.Graph.drop_last.Goals as goal

pub invariant_of-self : goal.invariant_of-self
invariant_of-self g c =
    IsKept-without_last g.M.Member.entry c.self.inside.members.items c.pop.new.self.items c.unwrap-member.result c.id.result c.bytes.result.now c.self.inside.index c.remove.new.self
    c.self.inside.bytes c.self.invariant
    (c.pop.ensures.items ∙ ap (λ last. c.pop.new.self.items ++ option_to_list last) c.unwrap-member.ensures)
    c.id.ensures c.bytes.ensures c.remove.ensures.updates.0
