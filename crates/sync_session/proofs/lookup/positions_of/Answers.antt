use Rattle.std.proofs.Common.{sym, map, length, []}
use Rattle.update_codec.specs.Parts.{entry_of}
use Rattle.update_model.specs.declared.update_id.UpdateId.{UpdateId as Id}
use Rattle.sync_session.proofs.Searching.{answers_found, answers_none}
use Rattle.sync_session.proofs.Sending.{found_within, more_within}
use Rattle.sync_session.proofs.lookup.positions_of.Goals as goal
use Rattle.sync_session.proofs.lookup.positions_of.Goals.{in-Some+in_ok-push, in_default}

pub loop-id-preserved : goal.loop-id-preserved
loop-id-preserved g c =
    let none : Id = record { 0 = [] } in
    let members = g.H.Holder.members c.args.holder.now in
    let graph = map entry_of members in
    elim c.match-position_below.branch [
      | in-Some+in_ok-push w ↦ (
        rw (w.positions-is, w.in_ok-push.ensures.items) (answers_found graph c.args.below c.loop-id.positions.items c.args.ids.now c.loop-id.id-index w.in-Some.position none c.loop-id-test.true (sym w.in-Some.ensures) c.loop-id.invariant.0),
        rw (w.positions-is, w.in_ok-push.ensures.items) (more_within (length members) c.loop-id.positions.items w.in-Some.position c.loop-id.invariant.1 (found_within members _ c.args.below w.in-Some.position (sym w.in-Some.ensures))),
      )
      | in_default w ↦ (
        rw w.positions-is (answers_none graph c.args.below c.loop-id.positions.items c.args.ids.now c.loop-id.id-index none c.loop-id-test.true (sym w.in_default.ensures) c.loop-id.invariant.0),
        rw w.positions-is c.loop-id.invariant.1,
      )
    ]
