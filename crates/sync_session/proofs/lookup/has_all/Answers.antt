use Rattle.std.proofs.Common.{sym, true, false, map, []}
use Rattle.update_codec.specs.Parts.{entry_of}
use Rattle.update_model.specs.declared.update_id.UpdateId.{UpdateId as Id}
use Rattle.update_model.specs.Graph.{holds}
use Rattle.sync_session.proofs.Searching.{fails_at, all_more, unheld_by}
use Rattle.sync_session.proofs.lookup.has_all.Goals as goal

pub returns-then-is_none : goal.returns-then-is_none
returns-then-is_none g c =
    let none : Id = record { 0 = [] } in
    let graph = map entry_of (g.H.Holder.members c.args.holder.now) in
    sym (fails_at (holds graph) c.args.ids.now c.loop-id.id-index none c.loop-id-test.true c.loop-id.invariant
    (unheld_by graph _ c.position.result c.is_none.result true c.position.ensures c.is_none.ensures c.if-is_none.true))

pub loop-id-preserved : goal.loop-id-preserved
loop-id-preserved g c =
    let none : Id = record { 0 = [] } in
    let graph = map entry_of (g.H.Holder.members c.args.holder.now) in
    all_more (holds graph) c.args.ids.now c.loop-id.id-index none c.loop-id-test.true c.loop-id.invariant
    (unheld_by graph _ c.position.result c.is_none.result false c.position.ensures c.is_none.ensures c.if-is_none.false)
