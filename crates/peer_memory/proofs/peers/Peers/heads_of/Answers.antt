use Rattle.std.proofs.Common.{◌≡◌, [], rules, sym, subst}
use Rattle.std.specs.List.Sorted.{IsStrictlySortedBy}
use Rattle.update_model.specs.Entry.{id_cmp}
use Rattle.peer_memory.specs.Peers.{heads_under}
use Rattle.peer_memory.proofs.Found.{FewRising, found_heads, none_rise}
use Rattle.peer_memory.proofs.peers.Peers.heads_of.Goals as goal

pub returns-in-Some-clause-few : goal.returns-in-Some-clause-few
returns-in-Some-clause-few c =
    let same : c.as_slice-in-Some.result.now ≡ heads_under c.self.inside.entries.items c.args.name.now = search rules in
    (subst FewRising (sym same) (found_heads c.args.name.now c.self.inside.entries.items c.self.invariant.each)).0

pub returns-in-Some-clause-rising : goal.returns-in-Some-clause-rising
returns-in-Some-clause-rising c =
    let same : c.as_slice-in-Some.result.now ≡ heads_under c.self.inside.entries.items c.args.name.now = search rules in
    (subst FewRising (sym same) (found_heads c.args.name.now c.self.inside.entries.items c.self.invariant.each)).1

pub returns-in-None-clause-rising : goal.returns-in-None-clause-rising
returns-in-None-clause-rising c = none_rise
