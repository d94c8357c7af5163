use Rattle.std.proofs.Common.{◌∙◌, sym, true, false, map}
use Rattle.std.specs.BTreeSet.{keys}
use Rattle.update_codec.specs.Parts.{entry_of}
use Rattle.update_model.specs.Graph.{holds, has}
use Rattle.sync_session.proofs.Searching.{held_by}
use Rattle.sync_session.proofs.Wanting.{shut_held, shut_waiting, open_unasked, waits_by}
use Rattle.sync_session.proofs.needs.is_open.Goals as goal

pub returns-then-is_some : goal.returns-then-is_some
returns-then-is_some g c =
    let graph = map entry_of (g.H.Holder.members c.args.holder.now) in
    shut_held (holds graph c.args.id.now) (holds (map entry_of c.args.pending.now.waiting) c.args.id.now) (has (keys c.args.asked.now) c.args.id.now)
    (held_by graph c.args.id.now c.position.result true c.position.ensures (sym c.is_some.ensures ∙ c.if-is_some.true))

pub returns-then-contains : goal.returns-then-contains
returns-then-contains g c =
    let graph = map entry_of (g.H.Holder.members c.args.holder.now) in
    shut_waiting (holds graph c.args.id.now) (holds (map entry_of c.args.pending.now.waiting) c.args.id.now) (has (keys c.args.asked.now) c.args.id.now)
    (waits_by c.args.pending.now.waiting c.args.pending.now.gathered c.args.id.now c.contains.result true c.requires c.contains.ensures.found c.if-contains.true)

pub returns : goal.returns
returns g c =
    let graph = map entry_of (g.H.Holder.members c.args.holder.now) in
    open_unasked (holds graph c.args.id.now) (holds (map entry_of c.args.pending.now.waiting) c.args.id.now) (has (keys c.args.asked.now) c.args.id.now) c.contains-2.result
    (held_by graph c.args.id.now c.position.result false c.position.ensures (sym c.is_some.ensures ∙ c.if-is_some.false))
    (waits_by c.args.pending.now.waiting c.args.pending.now.gathered c.args.id.now c.contains.result false c.requires c.contains.ensures.found c.if-contains.false) c.contains-2.ensures
