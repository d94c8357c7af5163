use Rattle.std.proofs.Common.{sym, ◌∙◌}
use Rattle.hash_graph.proofs.KeptLemmas.{IsKept-with_member, ok_gives}
use Rattle.hash_graph.proofs.graph.Graph.push.Goals as goal

pub invariant_of-self-2 : goal.invariant_of-self-2
invariant_of-self-2 g c =
    let added = rw (c.unwrap.ensures, c.reserve.ensures.items) at c.push.ensures.items in
    let updates = ok_gives c.insert.result (sym c.is_err-2.ensures.value ∙ c.if-is_err-2.false) c.insert.ensures.updates in
    IsKept-with_member g.M.Member.entry c.self.inside.members.items c.push.new.self.items c.args.member c.id-id.result c.bytes.result.now c.self.inside.index c.insert.new.self
    c.self.inside.bytes c.len-position.result c.self.invariant
    (rw (← c.self.view_is) at c.requires.next) (rw (← c.self.view_is) at c.requires.fits)
    added c.id-id.ensures c.bytes.ensures (rw (← c.self.view_is) at c.len-position.ensures.value) updates.0
