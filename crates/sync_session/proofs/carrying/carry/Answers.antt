use Rattle.std.proofs.Common.{◌≡◌, ◌∙◌, ℕ, List, sym, subst, map, filter_map, slice_get, Some, option_map}
use Rattle.std.proofs.lemmas.Result.{IfOk-weaker, on_ok_weaker}
use Rattle.bec_bytes.specs.Causes.{Rose}
use Rattle.update_codec.specs.Parts.{entry_of}
use Rattle.session_rules.specs.State.{Turn}
use Rattle.session_rules.specs.declared.end.End.TheVariants.{Full, Store}
use Rattle.sync_session.specs.Carrying.{at_hand, before_turn, IsCarried, IsHanded}
use Rattle.sync_session.specs.Kept.{hello_of, out_of, seen, turn_of}
use Rattle.sync_session.proofs.Carried.{carried_early, carried_late, list_before}
use Rattle.sync_session.proofs.Moving.{handed_back, moves_on, rose_since, well_at, well_back}
use Rattle.sync_session.proofs.Rounds.{is_missing, is_there, none_not}
use Rattle.sync_session.proofs.carrying.carry.Goals as goal

pub returns-then-is_over-clause-carried : goal.returns-then-is_over-clause-carried
returns-then-is_over-clause-carried g c = carried_early (g.Y.Holder.limits c.args.to.now) (g.Y.Holder.rule c.args.to.now) (seen (g.Y.Holder.members c.args.to.now) c.args.session.now) (map entry_of (g.Y.Holder.members c.args.to.now)) (out_of (map entry_of (g.X.Holder.members c.args.from.now)) c.args.out) (seen (g.Y.Holder.members c.hand_first.new.to) c.hand_first.new.session) (out_of (map entry_of (g.Y.Holder.members c.hand_first.new.to)) c.in_ok-heard.heard) (map entry_of (g.Y.Holder.members c.hand_first.new.to)) (subst (λ (positions : List ℕ). IsCarried (g.Y.Holder.limits c.args.to.now) (g.Y.Holder.rule c.args.to.now) (seen (g.Y.Holder.members c.args.to.now) c.args.session.now) (map entry_of (g.Y.Holder.members c.args.to.now)) (before_turn (option_map hello_of c.args.out.hello) (filter_map (slice_get (map entry_of (g.X.Holder.members c.args.from.now))) positions)) (seen (g.Y.Holder.members c.hand_first.new.to) c.hand_first.new.session) (out_of (map entry_of (g.Y.Holder.members c.hand_first.new.to)) c.in_ok-heard.heard) (map entry_of (g.Y.Holder.members c.hand_first.new.to))) c.as_slice.ensures c.in_ok-heard.ensures.carried) (is_there c.in_ok-heard.heard.end (sym c.is_some-is_over.ensures ∙ c.if-is_over.true))

pub hand_turn-requires : goal.hand_turn-requires
hand_turn-requires g c = well_at (g.Y.Holder.limits c.args.to.now) (g.Y.Holder.limits c.hand_first.new.to) (g.Y.Holder.rule c.args.to.now) (g.Y.Holder.rule c.hand_first.new.to) c.hand_first.ensures.moves.same_limits c.hand_first.ensures.moves.same_rule c.hand_first.new.session (g.Y.Holder.members c.hand_first.new.to) c.in_ok-heard.ensures.well

pub returns-clause-carried : goal.returns-clause-carried
returns-clause-carried g c =
    let none = is_missing c.in_ok-heard.heard.end (sym c.is_some-is_over.ensures ∙ c.if-is_over.false) in
    IfOk-weaker c.hand_turn.result (λ out. IsHanded (g.Y.Holder.limits c.hand_first.new.to) (g.Y.Holder.rule c.hand_first.new.to) (seen (g.Y.Holder.members c.hand_first.new.to) c.hand_first.new.session) (map entry_of (g.Y.Holder.members c.hand_first.new.to)) (option_map Turn (option_map turn_of c.args.out.turn)) (seen (g.Y.Holder.members c.hand_turn.new.to) c.hand_turn.new.session) (out_of (map entry_of (g.Y.Holder.members c.hand_turn.new.to)) out) (map entry_of (g.Y.Holder.members c.hand_turn.new.to)))
    (λ out. IsCarried (g.Y.Holder.limits c.args.to.now) (g.Y.Holder.rule c.args.to.now) (seen (g.Y.Holder.members c.args.to.now) c.args.session.now) (map entry_of (g.Y.Holder.members c.args.to.now)) (out_of (map entry_of (g.X.Holder.members c.args.from.now)) c.args.out) (seen (g.Y.Holder.members c.hand_turn.new.to) c.hand_turn.new.session) (out_of (map entry_of (g.Y.Holder.members c.hand_turn.new.to)) out) (map entry_of (g.Y.Holder.members c.hand_turn.new.to)))
    (λ out handed. carried_late (g.Y.Holder.limits c.args.to.now) (g.Y.Holder.rule c.args.to.now) (seen (g.Y.Holder.members c.args.to.now) c.args.session.now) (map entry_of (g.Y.Holder.members c.args.to.now)) (out_of (map entry_of (g.X.Holder.members c.args.from.now)) c.args.out) (seen (g.Y.Holder.members c.hand_first.new.to) c.hand_first.new.session) (out_of (map entry_of (g.Y.Holder.members c.hand_first.new.to)) c.in_ok-heard.heard) (map entry_of (g.Y.Holder.members c.hand_first.new.to)) (subst (λ (positions : List ℕ). IsCarried (g.Y.Holder.limits c.args.to.now) (g.Y.Holder.rule c.args.to.now) (seen (g.Y.Holder.members c.args.to.now) c.args.session.now) (map entry_of (g.Y.Holder.members c.args.to.now)) (before_turn (option_map hello_of c.args.out.hello) (filter_map (slice_get (map entry_of (g.X.Holder.members c.args.from.now))) positions)) (seen (g.Y.Holder.members c.hand_first.new.to) c.hand_first.new.session) (out_of (map entry_of (g.Y.Holder.members c.hand_first.new.to)) c.in_ok-heard.heard) (map entry_of (g.Y.Holder.members c.hand_first.new.to))) c.as_slice.ensures c.in_ok-heard.ensures.carried) none (seen (g.Y.Holder.members c.hand_turn.new.to) c.hand_turn.new.session) (out_of (map entry_of (g.Y.Holder.members c.hand_turn.new.to)) out) (map entry_of (g.Y.Holder.members c.hand_turn.new.to)) (handed_back (g.Y.Holder.limits c.args.to.now) (g.Y.Holder.limits c.hand_first.new.to) (g.Y.Holder.rule c.args.to.now) (g.Y.Holder.rule c.hand_first.new.to) c.hand_first.ensures.moves.same_limits c.hand_first.ensures.moves.same_rule (seen (g.Y.Holder.members c.hand_first.new.to) c.hand_first.new.session) (map entry_of (g.Y.Holder.members c.args.to.now)) (map entry_of (g.Y.Holder.members c.hand_first.new.to)) (option_map Turn (option_map turn_of c.args.out.turn)) (seen (g.Y.Holder.members c.hand_turn.new.to) c.hand_turn.new.session) (out_of (map entry_of (g.Y.Holder.members c.hand_turn.new.to)) out) (map entry_of (g.Y.Holder.members c.hand_turn.new.to)) (list_before (g.Y.Holder.limits c.args.to.now) (g.Y.Holder.rule c.args.to.now) (seen (g.Y.Holder.members c.args.to.now) c.args.session.now) (map entry_of (g.Y.Holder.members c.args.to.now)) (out_of (map entry_of (g.X.Holder.members c.args.from.now)) c.args.out) (seen (g.Y.Holder.members c.hand_first.new.to) c.hand_first.new.session) (out_of (map entry_of (g.Y.Holder.members c.hand_first.new.to)) c.in_ok-heard.heard) (map entry_of (g.Y.Holder.members c.hand_first.new.to)) (subst (λ (positions : List ℕ). IsCarried (g.Y.Holder.limits c.args.to.now) (g.Y.Holder.rule c.args.to.now) (seen (g.Y.Holder.members c.args.to.now) c.args.session.now) (map entry_of (g.Y.Holder.members c.args.to.now)) (before_turn (option_map hello_of c.args.out.hello) (filter_map (slice_get (map entry_of (g.X.Holder.members c.args.from.now))) positions)) (seen (g.Y.Holder.members c.hand_first.new.to) c.hand_first.new.session) (out_of (map entry_of (g.Y.Holder.members c.hand_first.new.to)) c.in_ok-heard.heard) (map entry_of (g.Y.Holder.members c.hand_first.new.to))) c.as_slice.ensures c.in_ok-heard.ensures.carried) none) handed))
    c.hand_turn.ensures.handed

pub returns-clause-well : goal.returns-clause-well
returns-clause-well g c = on_ok_weaker c.hand_turn.result (well_back (g.Y.Holder.limits c.args.to.now) (g.Y.Holder.limits c.hand_first.new.to) (g.Y.Holder.rule c.args.to.now) (g.Y.Holder.rule c.hand_first.new.to) c.hand_first.ensures.moves.same_limits c.hand_first.ensures.moves.same_rule c.hand_turn.new.session (g.Y.Holder.members c.hand_turn.new.to)) c.hand_turn.ensures.well

pub returns-clause-moves : goal.returns-clause-moves
returns-clause-moves g c =
    moves_on (at_hand c.args.session.now (g.X.Holder.members c.args.from.now) (g.Y.Holder.members c.args.to.now)) (g.Y.Holder.members c.args.to.now) (g.Y.Holder.members c.hand_first.new.to) (g.Y.Holder.members c.hand_turn.new.to)
    (g.Y.Holder.limits c.args.to.now) (g.Y.Holder.limits c.hand_first.new.to) (g.Y.Holder.limits c.hand_turn.new.to) (g.Y.Holder.rule c.args.to.now) (g.Y.Holder.rule c.hand_first.new.to) (g.Y.Holder.rule c.hand_turn.new.to)
    (g.Y.Counted.faults c.args.to.now) (g.Y.Counted.faults c.hand_first.new.to) (g.Y.Counted.faults c.hand_turn.new.to) c.hand_first.new.session c.hand_first.ensures.moves c.in_ok-heard.ensures.pending c.hand_turn.ensures.moves

pub returns-clause-store : goal.returns-clause-store
returns-clause-store g c =
    IfOk-weaker c.hand_turn.result (λ out. out.end ≡ Some Store → Rose (g.Y.Counted.faults c.hand_first.new.to) (g.Y.Counted.faults c.hand_turn.new.to)) (λ out. out.end ≡ Some Store → Rose (g.Y.Counted.faults c.args.to.now) (g.Y.Counted.faults c.hand_turn.new.to))
    (λ out rose is. rose_since (g.Y.Counted.faults c.args.to.now) (g.Y.Counted.faults c.hand_first.new.to) (g.Y.Counted.faults c.hand_turn.new.to) c.hand_first.ensures.moves.later (rose is)) c.hand_turn.ensures.store

pub returns-clause-keeps : goal.returns-clause-keeps
returns-clause-keeps g c = g.Y.Holder.keeps_on c.args.to.now c.hand_first.new.to c.hand_turn.new.to c.hand_first.ensures.keeps c.hand_turn.ensures.keeps

pub returns-clause-whole : goal.returns-clause-whole
returns-clause-whole g c = λ held.
    let none = is_missing c.in_ok-heard.heard.end (sym c.is_some-is_over.ensures ∙ c.if-is_over.false) in
    c.hand_turn.ensures.whole (c.in_ok-heard.ensures.whole held (none_not c.in_ok-heard.heard.end Full none) (none_not c.in_ok-heard.heard.end Store none))
