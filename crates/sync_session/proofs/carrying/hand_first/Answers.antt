use Rattle.std.proofs.Common.{◌≡◌, ◌∙◌, refl, sym, subst, map, filter_map, slice_get, Some, option_map}
use Rattle.std.proofs.lemmas.Result.{IfOk-weaker, on_ok_weaker}
use Rattle.bec_bytes.specs.Causes.{Rose}
use Rattle.update_codec.specs.Parts.{entry_of}
use Rattle.session_rules.specs.State.{Hello}
use Rattle.session_rules.specs.declared.end.End.TheVariants.{Full, Store}
use Rattle.sync_session.specs.Carrying.{at_hand, before_turn, AreHanded, IsCarried}
use Rattle.sync_session.specs.Kept.{hello_of, out_of, seen}
use Rattle.sync_session.proofs.Carried.{carried_first, carried_to_hello, hello_list, runs_on}
use Rattle.sync_session.proofs.Moving.{hello_of_set, moves_first, moves_second, pending_second, rose_since, updates_back, well_at, well_back, IfOk-both}
use Rattle.sync_session.proofs.Rounds.{is_missing, is_there, none_not, own_at_hand, pending_after, to_at_hand}
use Rattle.sync_session.proofs.carrying.hand_first.Goals as goal

pub returns-in_err-greeted-clause-moves : goal.returns-in_err-greeted-clause-moves
returns-in_err-greeted-clause-moves g c = moves_first (g.Y.Holder.limits c.args.to.now) (g.Y.Holder.rule c.args.to.now) c.args.session.now (g.Y.Holder.members c.args.to.now) (g.X.Holder.members c.args.from.now) (g.Y.Counted.faults c.args.to.now) (g.Y.Holder.limits c.hand_hello.new.to) (g.Y.Holder.rule c.hand_hello.new.to) (g.Y.Holder.members c.hand_hello.new.to) (g.Y.Counted.faults c.hand_hello.new.to) c.hand_hello.ensures.moves

pub returns-then-is_refused-clause-carried : goal.returns-then-is_refused-clause-carried
returns-then-is_refused-clause-carried g c = carried_to_hello (g.Y.Holder.limits c.args.to.now) (g.Y.Holder.rule c.args.to.now) (seen (g.Y.Holder.members c.args.to.now) c.args.session.now) (map entry_of (g.Y.Holder.members c.args.to.now)) (before_turn (option_map hello_of c.args.hello) (filter_map (slice_get (map entry_of (g.X.Holder.members c.args.from.now))) c.args.positions.now)) c.requires.hello c.requires.running (seen (g.Y.Holder.members c.hand_hello.new.to) c.hand_hello.new.session) (out_of (map entry_of (g.Y.Holder.members c.hand_hello.new.to)) c.in_ok-greeted.greeted) (map entry_of (g.Y.Holder.members c.hand_hello.new.to)) c.in_ok-greeted.ensures.handed (is_there c.in_ok-greeted.greeted.end (sym c.is_some-is_refused.ensures ∙ c.if-is_refused.true))

pub returns-then-is_refused-clause-moves : goal.returns-then-is_refused-clause-moves
returns-then-is_refused-clause-moves g c = moves_first (g.Y.Holder.limits c.args.to.now) (g.Y.Holder.rule c.args.to.now) c.args.session.now (g.Y.Holder.members c.args.to.now) (g.X.Holder.members c.args.from.now) (g.Y.Counted.faults c.args.to.now) (g.Y.Holder.limits c.hand_hello.new.to) (g.Y.Holder.rule c.hand_hello.new.to) (g.Y.Holder.members c.hand_hello.new.to) (g.Y.Counted.faults c.hand_hello.new.to) c.hand_hello.ensures.moves

pub hand_updates-requires-clause-well : goal.hand_updates-requires-clause-well
hand_updates-requires-clause-well g c = well_at (g.Y.Holder.limits c.args.to.now) (g.Y.Holder.limits c.hand_hello.new.to) (g.Y.Holder.rule c.args.to.now) (g.Y.Holder.rule c.hand_hello.new.to) c.hand_hello.ensures.moves.same_limits c.hand_hello.ensures.moves.same_rule c.hand_hello.new.session (g.Y.Holder.members c.hand_hello.new.to) c.in_ok-greeted.ensures.well

pub hand_updates-requires-clause-running : goal.hand_updates-requires-clause-running
hand_updates-requires-clause-running g c = runs_on (g.Y.Holder.limits c.args.to.now) (g.Y.Holder.rule c.args.to.now) (seen (g.Y.Holder.members c.args.to.now) c.args.session.now) (map entry_of (g.Y.Holder.members c.args.to.now)) (before_turn (option_map hello_of c.args.hello) (filter_map (slice_get (map entry_of (g.X.Holder.members c.args.from.now))) c.args.positions.now)) c.requires.hello c.requires.running (seen (g.Y.Holder.members c.hand_hello.new.to) c.hand_hello.new.session) (out_of (map entry_of (g.Y.Holder.members c.hand_hello.new.to)) c.in_ok-greeted.greeted) (map entry_of (g.Y.Holder.members c.hand_hello.new.to)) c.in_ok-greeted.ensures.handed (is_missing c.in_ok-greeted.greeted.end (sym c.is_some-is_refused.ensures ∙ c.if-is_refused.false))

pub returns-then-is_refused-clause-pending : goal.returns-then-is_refused-clause-pending
returns-then-is_refused-clause-pending g c = pending_after (at_hand c.args.session.now (g.X.Holder.members c.args.from.now) (g.Y.Holder.members c.args.to.now)) (g.Y.Holder.limits c.args.to.now) (g.Y.Holder.rule c.args.to.now) c.args.session.now c.hand_hello.new.session (g.Y.Holder.members c.args.to.now) (g.Y.Holder.members c.hand_hello.new.to) (option_map Hello (option_map hello_of c.args.hello)) (out_of (map entry_of (g.Y.Holder.members c.hand_hello.new.to)) c.in_ok-greeted.greeted) (hello_of_set (at_hand c.args.session.now (g.X.Holder.members c.args.from.now) (g.Y.Holder.members c.args.to.now)) (option_map hello_of c.args.hello)) (own_at_hand c.args.session.now (g.X.Holder.members c.args.from.now) (g.Y.Holder.members c.args.to.now)) (to_at_hand c.args.session.now (g.X.Holder.members c.args.from.now) (g.Y.Holder.members c.args.to.now)) c.in_ok-greeted.ensures.handed

pub returns-clause-carried : goal.returns-clause-carried
returns-clause-carried g c =
    IfOk-both c.hand_updates.result (λ out. AreHanded (g.Y.Holder.limits c.hand_hello.new.to) (g.Y.Holder.rule c.hand_hello.new.to) (seen (g.Y.Holder.members c.hand_hello.new.to) c.hand_hello.new.session) (map entry_of (g.Y.Holder.members c.hand_hello.new.to)) (filter_map (slice_get (map entry_of (g.X.Holder.members c.args.from.now))) c.args.positions.now) (seen (g.Y.Holder.members c.hand_updates.new.to) c.hand_updates.new.session) (out_of (map entry_of (g.Y.Holder.members c.hand_updates.new.to)) out)) (λ _. (map entry_of (g.Y.Holder.members c.hand_updates.new.to)) ≡ (map entry_of (g.Y.Holder.members c.hand_hello.new.to)))
    (λ out. IsCarried (g.Y.Holder.limits c.args.to.now) (g.Y.Holder.rule c.args.to.now) (seen (g.Y.Holder.members c.args.to.now) c.args.session.now) (map entry_of (g.Y.Holder.members c.args.to.now)) (before_turn (option_map hello_of c.args.hello) (filter_map (slice_get (map entry_of (g.X.Holder.members c.args.from.now))) c.args.positions.now)) (seen (g.Y.Holder.members c.hand_updates.new.to) c.hand_updates.new.session) (out_of (map entry_of (g.Y.Holder.members c.hand_updates.new.to)) out) (map entry_of (g.Y.Holder.members c.hand_updates.new.to)))
    (λ out handed list. subst (IsCarried (g.Y.Holder.limits c.args.to.now) (g.Y.Holder.rule c.args.to.now) (seen (g.Y.Holder.members c.args.to.now) c.args.session.now) (map entry_of (g.Y.Holder.members c.args.to.now)) (before_turn (option_map hello_of c.args.hello) (filter_map (slice_get (map entry_of (g.X.Holder.members c.args.from.now))) c.args.positions.now)) (seen (g.Y.Holder.members c.hand_updates.new.to) c.hand_updates.new.session) (out_of (map entry_of (g.Y.Holder.members c.hand_updates.new.to)) out)) (sym (list ∙ hello_list (g.Y.Holder.limits c.args.to.now) (g.Y.Holder.rule c.args.to.now) (seen (g.Y.Holder.members c.args.to.now) c.args.session.now) (map entry_of (g.Y.Holder.members c.args.to.now)) (before_turn (option_map hello_of c.args.hello) (filter_map (slice_get (map entry_of (g.X.Holder.members c.args.from.now))) c.args.positions.now)) c.requires.hello c.requires.running (seen (g.Y.Holder.members c.hand_hello.new.to) c.hand_hello.new.session) (out_of (map entry_of (g.Y.Holder.members c.hand_hello.new.to)) c.in_ok-greeted.greeted) (map entry_of (g.Y.Holder.members c.hand_hello.new.to)) c.in_ok-greeted.ensures.handed))
    (carried_first (g.Y.Holder.limits c.args.to.now) (g.Y.Holder.rule c.args.to.now) (seen (g.Y.Holder.members c.args.to.now) c.args.session.now) (map entry_of (g.Y.Holder.members c.args.to.now)) (before_turn (option_map hello_of c.args.hello) (filter_map (slice_get (map entry_of (g.X.Holder.members c.args.from.now))) c.args.positions.now)) c.requires.hello c.requires.running (seen (g.Y.Holder.members c.hand_hello.new.to) c.hand_hello.new.session) (out_of (map entry_of (g.Y.Holder.members c.hand_hello.new.to)) c.in_ok-greeted.greeted) (map entry_of (g.Y.Holder.members c.hand_hello.new.to)) c.in_ok-greeted.ensures.handed (is_missing c.in_ok-greeted.greeted.end (sym c.is_some-is_refused.ensures ∙ c.if-is_refused.false)) (seen (g.Y.Holder.members c.hand_updates.new.to) c.hand_updates.new.session) (out_of (map entry_of (g.Y.Holder.members c.hand_updates.new.to)) out) (updates_back (g.Y.Holder.limits c.args.to.now) (g.Y.Holder.limits c.hand_hello.new.to) (g.Y.Holder.rule c.args.to.now) (g.Y.Holder.rule c.hand_hello.new.to) c.hand_hello.ensures.moves.same_limits c.hand_hello.ensures.moves.same_rule (seen (g.Y.Holder.members c.hand_hello.new.to) c.hand_hello.new.session) (map entry_of (g.Y.Holder.members c.hand_hello.new.to)) (filter_map (slice_get (map entry_of (g.X.Holder.members c.args.from.now))) c.args.positions.now) (seen (g.Y.Holder.members c.hand_updates.new.to) c.hand_updates.new.session) (out_of (map entry_of (g.Y.Holder.members c.hand_updates.new.to)) out) handed) refl))
    c.hand_updates.ensures.handed c.hand_updates.ensures.list

pub returns-clause-pending : goal.returns-clause-pending
returns-clause-pending g c = on_ok_weaker c.hand_updates.result (pending_second (g.Y.Holder.limits c.args.to.now) (g.Y.Holder.rule c.args.to.now) c.args.session.now (g.Y.Holder.members c.args.to.now) (g.X.Holder.members c.args.from.now) (g.Y.Counted.faults c.args.to.now) (g.Y.Holder.limits c.hand_hello.new.to) (g.Y.Holder.rule c.hand_hello.new.to) (g.Y.Holder.members c.hand_hello.new.to) (g.Y.Counted.faults c.hand_hello.new.to) c.hand_hello.ensures.moves c.hand_hello.new.session (pending_after (at_hand c.args.session.now (g.X.Holder.members c.args.from.now) (g.Y.Holder.members c.args.to.now)) (g.Y.Holder.limits c.args.to.now) (g.Y.Holder.rule c.args.to.now) c.args.session.now c.hand_hello.new.session (g.Y.Holder.members c.args.to.now) (g.Y.Holder.members c.hand_hello.new.to) (option_map Hello (option_map hello_of c.args.hello)) (out_of (map entry_of (g.Y.Holder.members c.hand_hello.new.to)) c.in_ok-greeted.greeted) (hello_of_set (at_hand c.args.session.now (g.X.Holder.members c.args.from.now) (g.Y.Holder.members c.args.to.now)) (option_map hello_of c.args.hello)) (own_at_hand c.args.session.now (g.X.Holder.members c.args.from.now) (g.Y.Holder.members c.args.to.now)) (to_at_hand c.args.session.now (g.X.Holder.members c.args.from.now) (g.Y.Holder.members c.args.to.now)) c.in_ok-greeted.ensures.handed) c.hand_updates.new.session) c.hand_updates.ensures.pending

pub returns-clause-well : goal.returns-clause-well
returns-clause-well g c = on_ok_weaker c.hand_updates.result (well_back (g.Y.Holder.limits c.args.to.now) (g.Y.Holder.limits c.hand_hello.new.to) (g.Y.Holder.rule c.args.to.now) (g.Y.Holder.rule c.hand_hello.new.to) c.hand_hello.ensures.moves.same_limits c.hand_hello.ensures.moves.same_rule c.hand_updates.new.session (g.Y.Holder.members c.hand_updates.new.to)) c.hand_updates.ensures.well

pub returns-clause-moves : goal.returns-clause-moves
returns-clause-moves g c = moves_second (g.Y.Holder.limits c.args.to.now) (g.Y.Holder.rule c.args.to.now) c.args.session.now (g.Y.Holder.members c.args.to.now) (g.X.Holder.members c.args.from.now) (g.Y.Counted.faults c.args.to.now) (g.Y.Holder.limits c.hand_hello.new.to) (g.Y.Holder.rule c.hand_hello.new.to) (g.Y.Holder.members c.hand_hello.new.to) (g.Y.Counted.faults c.hand_hello.new.to) c.hand_hello.ensures.moves c.hand_hello.new.session (pending_after (at_hand c.args.session.now (g.X.Holder.members c.args.from.now) (g.Y.Holder.members c.args.to.now)) (g.Y.Holder.limits c.args.to.now) (g.Y.Holder.rule c.args.to.now) c.args.session.now c.hand_hello.new.session (g.Y.Holder.members c.args.to.now) (g.Y.Holder.members c.hand_hello.new.to) (option_map Hello (option_map hello_of c.args.hello)) (out_of (map entry_of (g.Y.Holder.members c.hand_hello.new.to)) c.in_ok-greeted.greeted) (hello_of_set (at_hand c.args.session.now (g.X.Holder.members c.args.from.now) (g.Y.Holder.members c.args.to.now)) (option_map hello_of c.args.hello)) (own_at_hand c.args.session.now (g.X.Holder.members c.args.from.now) (g.Y.Holder.members c.args.to.now)) (to_at_hand c.args.session.now (g.X.Holder.members c.args.from.now) (g.Y.Holder.members c.args.to.now)) c.in_ok-greeted.ensures.handed) (g.Y.Holder.limits c.hand_updates.new.to) (g.Y.Holder.rule c.hand_updates.new.to) (g.Y.Holder.members c.hand_updates.new.to) (g.Y.Counted.faults c.hand_updates.new.to) c.hand_updates.ensures.moves

pub returns-clause-store : goal.returns-clause-store
returns-clause-store g c =
    IfOk-weaker c.hand_updates.result (λ out. out.end ≡ Some Store → Rose (g.Y.Counted.faults c.hand_hello.new.to) (g.Y.Counted.faults c.hand_updates.new.to)) (λ out. out.end ≡ Some Store → Rose (g.Y.Counted.faults c.args.to.now) (g.Y.Counted.faults c.hand_updates.new.to))
    (λ out rose is. rose_since (g.Y.Counted.faults c.args.to.now) (g.Y.Counted.faults c.hand_hello.new.to) (g.Y.Counted.faults c.hand_updates.new.to) c.hand_hello.ensures.moves.later (rose is)) c.hand_updates.ensures.store

pub returns-clause-keeps : goal.returns-clause-keeps
returns-clause-keeps g c = g.Y.Holder.keeps_on c.args.to.now c.hand_hello.new.to c.hand_updates.new.to c.hand_hello.ensures.keeps c.hand_updates.ensures.keeps

pub returns-clause-whole : goal.returns-clause-whole
returns-clause-whole g c = λ held.
    let none = is_missing c.in_ok-greeted.greeted.end (sym c.is_some-is_refused.ensures ∙ c.if-is_refused.false) in
    c.hand_updates.ensures.whole (c.in_ok-greeted.ensures.whole held (none_not c.in_ok-greeted.greeted.end Full none) (none_not c.in_ok-greeted.greeted.end Store none))
