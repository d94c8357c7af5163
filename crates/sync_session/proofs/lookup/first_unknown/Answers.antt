use Rattle.std.proofs.Common.{sym, ap, true, false, not, map, take, []}
use Rattle.update_codec.specs.Parts.{entry_of}
use Rattle.update_model.specs.declared.update_id.UpdateId.{UpdateId as Id}
use Rattle.update_model.specs.Graph.{holds}
use Rattle.sync_session.proofs.Searching.{found_at, none_more, unheld_by}
use Rattle.sync_session.proofs.lookup.first_unknown.Goals as goal

pub returns-then-is_none : goal.returns-then-is_none
returns-then-is_none g c =
    let none : Id = record { 0 = [] } in
    let graph = take c.args.below (map entry_of (g.H.Holder.members c.args.holder.now)) in
    sym (found_at (λ (id : Id). not (holds graph id)) c.args.ids.now c.loop-id.id-index none c.loop-id-test.true c.loop-id.invariant
    (ap not (unheld_by graph _ c.position_below.result c.is_none.result true c.position_below.ensures c.is_none.ensures c.if-is_none.true)))

pub loop-id-preserved : goal.loop-id-preserved
loop-id-preserved g c =
    let none : Id = record { 0 = [] } in
    let graph = take c.args.below (map entry_of (g.H.Holder.members c.args.holder.now)) in
    none_more (λ (id : Id). not (holds graph id)) c.args.ids.now c.loop-id.id-index none c.loop-id-test.true c.loop-id.invariant
    (ap not (unheld_by graph _ c.position_below.result c.is_none.result false c.position_below.ensures c.is_none.ensures c.if-is_none.false))
