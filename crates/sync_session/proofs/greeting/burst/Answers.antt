use Rattle.std.proofs.Common.{◌≡◌, ◌∙◌, ℕ, List, refl, sym, ap, subst, cond, not, ◌||◌, length, true}
use Rattle.std.specs.BTreeSet.{BTreeSet, keys}
use Rattle.std.specs.List.{list_any}
use Rattle.bloom_summary.specs.Bloom.{is_member}
use Rattle.update_check.specs.Holding.{ArePositionsSince}
use Rattle.update_model.specs.declared.update_id.UpdateId.{UpdateId as Id}
use Rattle.update_model.specs.Entry.{same_id}
use Rattle.update_model.specs.Graph.{has}
use Rattle.sync_frames.specs.Payload.{HelloData}
use Rattle.sync_session.proofs.BurstSteps.{sends_none, sends_in, sends_over, burst_is}
use Rattle.sync_session.proofs.Sending.{more_within, none_within, since_within}
use Rattle.sync_session.proofs.greeting.burst.Goals as goal
use Rattle.sync_session.proofs.greeting.burst.Goals.{then-is_unknown+in_ok-insert+in_ok-push, else-is_unknown}

pub loop-position-init : goal.loop-position-init
loop-position-init g c = (
  sends_none (g.H.Holder.members c.args.holder.now) c.args.below c.filter.inside.bytes.items c.deref-position-items.result.now _ c.new-unknown.result c.new-positions.ensures.items c.new-unknown.ensures.empty,
  none_within (g.H.Holder.members c.args.holder.now) _ c.new-positions.ensures.items,
)

pub loop-position-preserved : goal.loop-position-preserved
loop-position-preserved g c =
    let since =
    subst (λ (ps : List ℕ). ArePositionsSince (g.H.Holder.members c.args.holder.now) c.args.below c.as_slice.result.now ps) (sym c.deref-position-items.ensures.value) c.in_ok-since.ensures in
    elim c.if-is_unknown.branch [
      | then-is_unknown+in_ok-insert+in_ok-push w ↦ (
        sends_in (g.H.Holder.members c.args.holder.now) c.args.below c.requires.closed c.as_slice.result.now c.filter.inside.bytes.items c.deref-position-items.result.now
            since c.loop-position.position-index _ refl c.loop-position-test.true c.loop-position.positions.items c.id_at-id.result c.preds_at.result.now c.id_at-id.ensures c.preds_at.ensures
            c.loop-position.unknown c.loop-position.invariant.0 c.is_unknown.result
            (subst (λ (bits : List ℕ). c.is_unknown.result ≡ (not (is_member bits c.id_at-id.result) || list_any (has (keys c.loop-position.unknown)) c.preds_at.result.now)) (sym c.filter.view_is) c.is_unknown.ensures)
            w.if-is_unknown.true c.if-is_unknown.positions.items c.if-is_unknown.unknown (rw w.positions-is w.in_ok-push.ensures.items)
            (λ q. subst (λ (s : BTreeSet Id). has (keys s) q ≡ cond (same_id c.id_at-id.result q) true (has (keys c.loop-position.unknown) q)) (sym w.unknown-is) (w.in_ok-insert.ensures.updates.0 q)),
        rw (w.positions-is, w.in_ok-push.ensures.items) (more_within (length (g.H.Holder.members c.args.holder.now)) c.loop-position.positions.items _ c.loop-position.invariant.1
            (since_within (g.H.Holder.members c.args.holder.now) c.args.below c.as_slice.result.now c.deref-position-items.result.now c.loop-position.position-index since c.requires.within c.loop-position-test.true)),
      )
      | else-is_unknown w ↦ (
        sends_over (g.H.Holder.members c.args.holder.now) c.args.below c.requires.closed c.as_slice.result.now c.filter.inside.bytes.items c.deref-position-items.result.now
            since c.loop-position.position-index _ refl c.loop-position-test.true c.loop-position.positions.items c.id_at-id.result c.preds_at.result.now c.id_at-id.ensures c.preds_at.ensures
            c.loop-position.unknown c.loop-position.invariant.0 c.is_unknown.result
            (subst (λ (bits : List ℕ). c.is_unknown.result ≡ (not (is_member bits c.id_at-id.result) || list_any (has (keys c.loop-position.unknown)) c.preds_at.result.now)) (sym c.filter.view_is) c.is_unknown.ensures)
            w.if-is_unknown.false c.if-is_unknown.positions.items c.if-is_unknown.unknown (rw w.positions-is refl) w.unknown-is,
        rw w.positions-is c.loop-position.invariant.1,
      )
    ]

pub returns-clause-exact : goal.returns-clause-exact
returns-clause-exact g c =
    burst_is (g.H.Holder.members c.args.holder.now) c.args.below c.as_slice.result.now c.args.peer.now.old c.filter.inside.bytes.items c.args.peer.now.filter c.deref-position-items.result.now c.loop-position.position-index _
    (subst (λ (ps : List ℕ). ArePositionsSince (g.H.Holder.members c.args.holder.now) c.args.below c.as_slice.result.now ps) (sym c.deref-position-items.ensures.value) c.in_ok-since.ensures)
    (c.as_slice.ensures ∙ ap (λ (h : HelloData). h.old) c.peer.view_is)
    (c.filter.view_is ∙ c.in_ok-filter.ensures ∙ c.as_slice-2.ensures ∙ ap (λ (h : HelloData). h.filter) c.peer.view_is)
    c.loop-position-test.false c.loop-position.invariant.0.picks

pub returns-clause-within : goal.returns-clause-within
returns-clause-within g c = c.loop-position.invariant.1
