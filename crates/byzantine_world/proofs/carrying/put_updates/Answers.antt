use Rattle.std.proofs.Common.{◌≤◌, List, All, length, map, get_or, ap, subst, sym, ◌∙◌}
use Rattle.std.specs.VecDeque.{deque_items}
use Rattle.replica.specs.Replicas.{ReplicaState}
use Rattle.sync_session.specs.Kept.{IsFrameUnder, frame_of}
use Rattle.sync_session.specs.declared.checked_frame.CheckedFrame.{CheckedFrame}
use Rattle.sync_session.specs.declared.checked_frame.CheckedFrame.TheVariants as checked
use Rattle.world_rules.specs.Worlds.{held_by}
use Rattle.byzantine_world.proofs.Taking.{member_under, pushed_under, put_more, skip_more}
use Rattle.byzantine_world.proofs.carrying.put_updates.Goals.{then-position-len+in_ok-update+in_ok-push_back, else-position-len}
use Rattle.byzantine_world.proofs.carrying.put_updates.Goals as goal

pub updates-preserved : goal.updates-preserved
updates-preserved c =
    let members = held_by c.args.site.now in
    let ps = c.args.positions.now in
    let i = c.updates.position-index in
    let old = deque_items c.args.leaving.now in
    let now = deque_items c.updates.leaving in
    let later = deque_items c.if-position-len.leaving in
    elim c.if-position-len.branch [
      | then-position-len+in_ok-update+in_ok-push_back w ↦ (
        put_more old now later members ps i 0 w.in_ok-update.update c.updates-test.true c.updates.invariant.0 w.in_ok-update.ensures (ap deque_items w.leaving-is ∙ w.in_ok-push_back.ensures.items),
        λ rule are all. pushed_under rule now later (checked.Item w.in_ok-update.update) (c.updates.invariant.1 rule are all) (member_under rule members _ w.in_ok-update.update are w.in_ok-update.ensures)
            (ap deque_items w.leaving-is ∙ w.in_ok-push_back.ensures.items),
      )
      | else-position-len w ↦ (
        ap (λ (xs : List CheckedFrame). map frame_of xs) (ap deque_items w.leaving-is)
            ∙ skip_more old now members ps i 0 c.updates-test.true c.updates.invariant.0
            (subst (λ n. n ≤ get_or ps i 0) (c.len.ensures.value ∙ ap (λ (s : ReplicaState). length s.history.members) c.store.ensures) w.if-position-len.false),
        λ rule are all. subst (All (IsFrameUnder rule)) (ap deque_items (sym w.leaving-is)) (c.updates.invariant.1 rule are all),
      )
    ]
