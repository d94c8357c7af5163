use Rattle.std.proofs.Common.{◌+◌, ◌∙◌, sym, subst, map, filter_map, slice_get, get_or, take, drop, refl, take_all, List, ℕ}
use Rattle.update_codec.specs.Parts.{entry_of}
use Rattle.update_model.specs.Entry.{Entry}
use Rattle.session_rules.specs.declared.end.End.TheVariants.{Full, Store}
use Rattle.sync_session.specs.Carrying.{all_heard, Hears}
use Rattle.session_rules.specs.State.{Item}
use Rattle.sync_session.specs.Kept.{out_of, seen}
use Rattle.sync_session.proofs.Quiet.{silent_not_store}
use Rattle.sync_session.proofs.Rounds.{SoFar, so_far_none, so_far_more, moves_here, pending_here, same_list, handed_to_end, sent_more, sent_split, is_there, is_missing, none_not}
use Rattle.sync_session.proofs.carrying.hand_updates.Goals as goal

pub updates-init : goal.updates-init
updates-init g c = (
  g.Y.Holder.keeps_itself c.args.to.now,
  λ held. held,
  so_far_none (g.Y.Holder.limits c.args.to.now) (g.Y.Holder.rule c.args.to.now) c.args.session.now (g.Y.Holder.members c.args.to.now) (g.X.Holder.members c.args.from.now) (g.Y.Counted.faults c.args.to.now) c.requires.running c.requires.well,
)

pub returns-in_err-heard-clause-moves : goal.returns-in_err-heard-clause-moves
returns-in_err-heard-clause-moves g c =
    moves_here (g.Y.Holder.limits c.args.to.now) (g.Y.Holder.rule c.args.to.now) c.args.session.now (g.Y.Holder.members c.args.to.now) (g.X.Holder.members c.args.from.now) (g.Y.Counted.faults c.args.to.now) c.requires.running
    _ c.updates.session (g.Y.Holder.members c.updates.to) (g.Y.Holder.limits c.updates.to) (g.Y.Holder.rule c.updates.to) (g.Y.Counted.faults c.updates.to) c.updates.invariant.2
    (g.Y.Holder.members c.hand_update.new.to) (g.Y.Holder.limits c.hand_update.new.to) (g.Y.Holder.rule c.hand_update.new.to) (g.Y.Counted.faults c.hand_update.new.to) c.hand_update.ensures.moves

pub returns-in_err-heard-clause-keeps : goal.returns-in_err-heard-clause-keeps
returns-in_err-heard-clause-keeps g c = g.Y.Holder.keeps_on c.args.to.now c.updates.to c.hand_update.new.to c.updates.invariant.0 c.hand_update.ensures.keeps

pub returns-then-is_some-clause-handed : goal.returns-then-is_some-clause-handed
returns-then-is_some-clause-handed g c =
    let graph = map entry_of (g.X.Holder.members c.args.from.now) in
    let index = c.updates.position-index in
    handed_to_end (g.Y.Holder.limits c.args.to.now) (g.Y.Holder.rule c.args.to.now) c.args.session.now (g.Y.Holder.members c.args.to.now) (g.X.Holder.members c.args.from.now) (g.Y.Counted.faults c.args.to.now) c.requires.running
    (filter_map (slice_get graph) (take index c.args.positions.now)) c.updates.session (g.Y.Holder.members c.updates.to) (g.Y.Holder.limits c.updates.to) (g.Y.Holder.rule c.updates.to) (g.Y.Counted.faults c.updates.to) c.updates.invariant.2
    (g.Y.Holder.members c.hand_update.new.to) (g.Y.Holder.limits c.hand_update.new.to) (g.Y.Holder.rule c.hand_update.new.to) (g.Y.Counted.faults c.hand_update.new.to) c.hand_update.ensures.moves
    (get_or c.args.positions.now index 0) (slice_get graph (get_or c.args.positions.now index 0)) refl c.hand_update.new.session (out_of (map entry_of (g.Y.Holder.members c.hand_update.new.to)) c.in_ok-heard.heard)
    c.in_ok-heard.ensures.handed c.in_ok-heard.ensures.well
    (filter_map (slice_get graph) c.args.positions.now) (filter_map (slice_get graph) (drop (index + 1) c.args.positions.now)) (sent_split graph c.args.positions.now index 0 c.updates-test.true)
    (is_there c.in_ok-heard.heard.end (sym c.is_some.ensures ∙ c.if-is_some.true))

pub returns-then-is_some-clause-list : goal.returns-then-is_some-clause-list
returns-then-is_some-clause-list g c =
    let graph = map entry_of (g.X.Holder.members c.args.from.now) in
    let index = c.updates.position-index in
    same_list (g.Y.Holder.limits c.args.to.now) (g.Y.Holder.rule c.args.to.now) c.args.session.now (g.Y.Holder.members c.args.to.now) (g.X.Holder.members c.args.from.now) (g.Y.Counted.faults c.args.to.now) c.requires.running
    (filter_map (slice_get graph) (take index c.args.positions.now)) c.updates.session (g.Y.Holder.members c.updates.to) (g.Y.Holder.limits c.updates.to) (g.Y.Holder.rule c.updates.to) (g.Y.Counted.faults c.updates.to) c.updates.invariant.2
    (g.Y.Holder.members c.hand_update.new.to) (g.Y.Holder.limits c.hand_update.new.to) (g.Y.Holder.rule c.hand_update.new.to) (g.Y.Counted.faults c.hand_update.new.to) c.hand_update.ensures.moves
    (get_or c.args.positions.now index 0) (slice_get graph (get_or c.args.positions.now index 0)) refl c.hand_update.new.session (out_of (map entry_of (g.Y.Holder.members c.hand_update.new.to)) c.in_ok-heard.heard)
    c.in_ok-heard.ensures.handed c.in_ok-heard.ensures.well

pub returns-then-is_some-clause-pending : goal.returns-then-is_some-clause-pending
returns-then-is_some-clause-pending g c =
    let graph = map entry_of (g.X.Holder.members c.args.from.now) in
    let index = c.updates.position-index in
    pending_here (g.Y.Holder.limits c.args.to.now) (g.Y.Holder.rule c.args.to.now) c.args.session.now (g.Y.Holder.members c.args.to.now) (g.X.Holder.members c.args.from.now) (g.Y.Counted.faults c.args.to.now) c.requires.running
    (filter_map (slice_get graph) (take index c.args.positions.now)) c.updates.session (g.Y.Holder.members c.updates.to) (g.Y.Holder.limits c.updates.to) (g.Y.Holder.rule c.updates.to) (g.Y.Counted.faults c.updates.to) c.updates.invariant.2
    (g.Y.Holder.members c.hand_update.new.to) (g.Y.Holder.limits c.hand_update.new.to) (g.Y.Holder.rule c.hand_update.new.to) (g.Y.Counted.faults c.hand_update.new.to) c.hand_update.ensures.moves
    (get_or c.args.positions.now index 0) (slice_get graph (get_or c.args.positions.now index 0)) refl c.hand_update.new.session (out_of (map entry_of (g.Y.Holder.members c.hand_update.new.to)) c.in_ok-heard.heard)
    c.in_ok-heard.ensures.handed c.in_ok-heard.ensures.well

pub returns-then-is_some-clause-moves : goal.returns-then-is_some-clause-moves
returns-then-is_some-clause-moves g c =
    moves_here (g.Y.Holder.limits c.args.to.now) (g.Y.Holder.rule c.args.to.now) c.args.session.now (g.Y.Holder.members c.args.to.now) (g.X.Holder.members c.args.from.now) (g.Y.Counted.faults c.args.to.now) c.requires.running
    _ c.updates.session (g.Y.Holder.members c.updates.to) (g.Y.Holder.limits c.updates.to) (g.Y.Holder.rule c.updates.to) (g.Y.Counted.faults c.updates.to) c.updates.invariant.2
    (g.Y.Holder.members c.hand_update.new.to) (g.Y.Holder.limits c.hand_update.new.to) (g.Y.Holder.rule c.hand_update.new.to) (g.Y.Counted.faults c.hand_update.new.to) c.hand_update.ensures.moves

pub returns-then-is_some-clause-keeps : goal.returns-then-is_some-clause-keeps
returns-then-is_some-clause-keeps g c = g.Y.Holder.keeps_on c.args.to.now c.updates.to c.hand_update.new.to c.updates.invariant.0 c.hand_update.ensures.keeps

pub updates-preserved : goal.updates-preserved
updates-preserved g c =
    let graph = map entry_of (g.X.Holder.members c.args.from.now) in
    let index = c.updates.position-index in
    let none = is_missing c.in_ok-heard.heard.end (sym c.is_some.ensures ∙ c.if-is_some.false) in (
      g.Y.Holder.keeps_on c.args.to.now c.updates.to c.hand_update.new.to c.updates.invariant.0 c.hand_update.ensures.keeps,
      λ held. c.in_ok-heard.ensures.whole (c.updates.invariant.1 held) (none_not c.in_ok-heard.heard.end Full none) (none_not c.in_ok-heard.heard.end Store none),
      subst (λ (send : List Entry). SoFar (g.Y.Holder.limits c.args.to.now) (g.Y.Holder.rule c.args.to.now) c.args.session.now (g.Y.Holder.members c.args.to.now) (g.X.Holder.members c.args.from.now) (g.Y.Counted.faults c.args.to.now) send
          c.hand_update.new.session (g.Y.Holder.members c.hand_update.new.to) (g.Y.Holder.limits c.hand_update.new.to) (g.Y.Holder.rule c.hand_update.new.to) (g.Y.Counted.faults c.hand_update.new.to))
          (sym (sent_more graph c.args.positions.now index 0 c.updates-test.true))
          (so_far_more (g.Y.Holder.limits c.args.to.now) (g.Y.Holder.rule c.args.to.now) c.args.session.now (g.Y.Holder.members c.args.to.now) (g.X.Holder.members c.args.from.now) (g.Y.Counted.faults c.args.to.now) c.requires.running
          (filter_map (slice_get graph) (take index c.args.positions.now)) c.updates.session (g.Y.Holder.members c.updates.to) (g.Y.Holder.limits c.updates.to) (g.Y.Holder.rule c.updates.to) (g.Y.Counted.faults c.updates.to) c.updates.invariant.2
          (g.Y.Holder.members c.hand_update.new.to) (g.Y.Holder.limits c.hand_update.new.to) (g.Y.Holder.rule c.hand_update.new.to) (g.Y.Counted.faults c.hand_update.new.to) c.hand_update.ensures.moves
          (get_or c.args.positions.now index 0) (slice_get graph (get_or c.args.positions.now index 0)) refl c.hand_update.new.session (out_of (map entry_of (g.Y.Holder.members c.hand_update.new.to)) c.in_ok-heard.heard)
          c.in_ok-heard.ensures.handed c.in_ok-heard.ensures.well none),
    )

pub returns-clause-handed : goal.returns-clause-handed
returns-clause-handed g c =
    let graph = map entry_of (g.X.Holder.members c.args.from.now) in
    all_heard (c.silent.ensures (map entry_of (g.Y.Holder.members c.updates.to)))
    (subst (λ (positions : List ℕ). Hears (g.Y.Holder.limits c.args.to.now) (g.Y.Holder.rule c.args.to.now) (seen (g.Y.Holder.members c.args.to.now) c.args.session.now) (map entry_of (g.Y.Holder.members c.args.to.now))
    (map Item (filter_map (slice_get graph) positions)) (seen (g.Y.Holder.members c.updates.to) c.updates.session))
    (take_all c.updates.position-index c.args.positions.now c.updates-test.false) c.updates.invariant.2.hears)

pub returns-clause-store : goal.returns-clause-store
returns-clause-store g c = λ is. absurd (silent_not_store c.silent.result c.silent.ensures is)
