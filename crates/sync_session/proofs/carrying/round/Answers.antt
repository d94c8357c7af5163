use Rattle.std.proofs.Common.{◌≡◌, ◌≢◌, ◌⊎◌, inl, inr, ◌+◌, ◌<◌, not, ◌∙◌, ap, refl, map, None, Some}
use Rattle.std.proofs.lemmas.Result.{IfOk-weaker, on_ok_weaker}
use Rattle.bec_bytes.specs.Causes.{Rose}
use Rattle.update_codec.specs.Parts.{entry_of}
use Rattle.session_rules.specs.Pair.{PairData}
use Rattle.session_rules.specs.declared.end.End.TheVariants.{Full, Store}
use Rattle.sync_session.specs.Carrying.{at_hand, HasGot, IsCarried, IsUnrefused}
use Rattle.sync_session.specs.Kept.{out_of, seen, turn_of}
use Rattle.sync_session.proofs.Handing.{more_turns, round_ends, round_goes, turned_end, way_back}
use Rattle.sync_session.proofs.Moving.{add_turns, got_over, mapped_missing, mapped_some, mapped_there, moves_none, over_unrefused, unrefused_end, IfOk-both}
use Rattle.sync_session.proofs.Rounds.{is_missing}
use Rattle.sync_session.proofs.carrying.round.Goals as goal

pub carry-requires-clause-well : goal.carry-requires-clause-well
carry-requires-clause-well g c = c.requires.well_a

pub carry-requires-clause-running : goal.carry-requires-clause-running
carry-requires-clause-running g c = c.requires.on_its_way.running

pub carry-requires-clause-hello : goal.carry-requires-clause-hello
carry-requires-clause-hello g c = c.requires.on_its_way.hello

pub returns-in_err-answer-clause-moves_a : goal.returns-in_err-answer-clause-moves_a
returns-in_err-answer-clause-moves_a g c = c.carry.ensures.moves

pub returns-in_err-answer-clause-moves_b : goal.returns-in_err-answer-clause-moves_b
returns-in_err-answer-clause-moves_b g c = moves_none (at_hand c.args.session_b.now (g.A.Holder.members c.carry.new.to) (g.B.Holder.members c.args.b.now)) (g.B.Holder.limits c.args.b.now) (g.B.Holder.rule c.args.b.now) (g.B.Holder.members c.args.b.now) (g.B.Counted.faults c.args.b.now)

pub returns-in_err-answer-clause-keeps_a : goal.returns-in_err-answer-clause-keeps_a
returns-in_err-answer-clause-keeps_a g c = c.carry.ensures.keeps

pub returns-in_err-answer-clause-keeps_b : goal.returns-in_err-answer-clause-keeps_b
returns-in_err-answer-clause-keeps_b g c = g.B.Holder.keeps_itself c.args.b.now

pub returns-then-is_over-clause-moves_a : goal.returns-then-is_over-clause-moves_a
returns-then-is_over-clause-moves_a g c = c.carry.ensures.moves

pub returns-then-is_over-clause-moves_b : goal.returns-then-is_over-clause-moves_b
returns-then-is_over-clause-moves_b g c = moves_none (at_hand c.args.session_b.now (g.A.Holder.members c.carry.new.to) (g.B.Holder.members c.args.b.now)) (g.B.Holder.limits c.args.b.now) (g.B.Holder.rule c.args.b.now) (g.B.Holder.members c.args.b.now) (g.B.Counted.faults c.args.b.now)

pub returns-then-is_over-clause-keeps_a : goal.returns-then-is_over-clause-keeps_a
returns-then-is_over-clause-keeps_a g c = c.carry.ensures.keeps

pub returns-then-is_over-clause-keeps_b : goal.returns-then-is_over-clause-keeps_b
returns-then-is_over-clause-keeps_b g c = g.B.Holder.keeps_itself c.args.b.now

pub returns-then-is_over-clause-got : goal.returns-then-is_over-clause-got
returns-then-is_over-clause-got g c = λ first h. got_over (g.A.Holder.limits c.args.a.now) (g.B.Holder.limits c.args.b.now) (g.A.Holder.rule c.args.a.now) (g.B.Holder.rule c.args.b.now) first (seen (g.A.Holder.members c.carry.new.to) c.carry.new.session) (map entry_of (g.A.Holder.members c.carry.new.to)) (seen (g.B.Holder.members c.args.b.now) c.args.session_b.now) (map entry_of (g.B.Holder.members c.args.b.now)) (out_of (map entry_of (g.A.Holder.members c.carry.new.to)) c.in_ok-answer.answer) (out_of (map entry_of (g.B.Holder.members c.args.b.now)) c.in_ok-answer.answer) (mapped_missing turn_of c.in_ok-answer.answer.turn (c.is_none-is_over.ensures ∙ ap not c.if-is_over.true)) refl refl
    (round_ends (g.A.Holder.limits c.args.a.now) (g.B.Holder.limits c.args.b.now) (g.A.Holder.rule c.args.a.now) (g.B.Holder.rule c.args.b.now) first (seen (g.A.Holder.members c.args.a.now) c.args.session_a.now) (seen (g.B.Holder.members c.args.b.now) c.args.session_b.now) (seen (g.A.Holder.members c.carry.new.to) c.carry.new.session) (map entry_of (g.A.Holder.members c.args.a.now)) (map entry_of (g.B.Holder.members c.args.b.now)) (map entry_of (g.A.Holder.members c.carry.new.to)) (out_of (map entry_of (g.B.Holder.members c.args.b.now)) c.args.out) (out_of (map entry_of (g.A.Holder.members c.carry.new.to)) c.in_ok-answer.answer) c.requires.on_its_way c.in_ok-answer.ensures.carried h (mapped_missing turn_of c.in_ok-answer.answer.turn (c.is_none-is_over.ensures ∙ ap not c.if-is_over.true)))

pub returns-then-is_over-clause-well_a : goal.returns-then-is_over-clause-well_a
returns-then-is_over-clause-well_a g c = c.in_ok-answer.ensures.well

pub returns-then-is_over-clause-well_b : goal.returns-then-is_over-clause-well_b
returns-then-is_over-clause-well_b g c = c.requires.well_b

pub returns-then-is_over-clause-turns : goal.returns-then-is_over-clause-turns
returns-then-is_over-clause-turns g c = λ some. absurd (some (is_missing c.in_ok-answer.answer.turn (c.is_none-is_over.ensures ∙ ap not c.if-is_over.true)))

pub returns-then-is_over-clause-store : goal.returns-then-is_over-clause-store
returns-then-is_over-clause-store g c = λ is. inl (c.in_ok-answer.ensures.store is)

pub returns-then-is_over-clause-whole : goal.returns-then-is_over-clause-whole
returns-then-is_over-clause-whole g c = λ held_a held_b unrefused. (c.in_ok-answer.ensures.whole held_a (over_unrefused c.in_ok-answer.answer (c.is_none-is_over.ensures ∙ ap not c.if-is_over.true) unrefused).0 (over_unrefused c.in_ok-answer.answer (c.is_none-is_over.ensures ∙ ap not c.if-is_over.true) unrefused).1, held_b)

pub carry-requires-2-clause-well : goal.carry-requires-2-clause-well
carry-requires-2-clause-well g c = c.requires.well_b

pub carry-requires-2-clause-running : goal.carry-requires-2-clause-running
carry-requires-2-clause-running g c = (way_back (g.A.Holder.limits c.args.a.now) (g.A.Holder.rule c.args.a.now) (seen (g.A.Holder.members c.args.a.now) c.args.session_a.now) (seen (g.B.Holder.members c.args.b.now) c.args.session_b.now) (seen (g.A.Holder.members c.carry.new.to) c.carry.new.session) (map entry_of (g.A.Holder.members c.args.a.now)) (map entry_of (g.B.Holder.members c.args.b.now)) (map entry_of (g.A.Holder.members c.carry.new.to)) (out_of (map entry_of (g.B.Holder.members c.args.b.now)) c.args.out) (out_of (map entry_of (g.A.Holder.members c.carry.new.to)) c.in_ok-answer.answer) c.requires.on_its_way c.in_ok-answer.ensures.carried (mapped_there turn_of c.in_ok-answer.answer.turn (c.is_none-is_over.ensures ∙ ap not c.if-is_over.false))).running

pub carry-requires-2-clause-hello : goal.carry-requires-2-clause-hello
carry-requires-2-clause-hello g c = (way_back (g.A.Holder.limits c.args.a.now) (g.A.Holder.rule c.args.a.now) (seen (g.A.Holder.members c.args.a.now) c.args.session_a.now) (seen (g.B.Holder.members c.args.b.now) c.args.session_b.now) (seen (g.A.Holder.members c.carry.new.to) c.carry.new.session) (map entry_of (g.A.Holder.members c.args.a.now)) (map entry_of (g.B.Holder.members c.args.b.now)) (map entry_of (g.A.Holder.members c.carry.new.to)) (out_of (map entry_of (g.B.Holder.members c.args.b.now)) c.args.out) (out_of (map entry_of (g.A.Holder.members c.carry.new.to)) c.in_ok-answer.answer) c.requires.on_its_way c.in_ok-answer.ensures.carried (mapped_there turn_of c.in_ok-answer.answer.turn (c.is_none-is_over.ensures ∙ ap not c.if-is_over.false))).hello

pub returns-clause-got : goal.returns-clause-got
returns-clause-got g c = IfOk-weaker c.carry-2.result (λ out. IsCarried (g.B.Holder.limits c.args.b.now) (g.B.Holder.rule c.args.b.now) (seen (g.B.Holder.members c.args.b.now) c.args.session_b.now) (map entry_of (g.B.Holder.members c.args.b.now)) (out_of (map entry_of (g.A.Holder.members c.carry.new.to)) c.in_ok-answer.answer) (seen (g.B.Holder.members c.carry-2.new.to) c.carry-2.new.session) (out_of (map entry_of (g.B.Holder.members c.carry-2.new.to)) out) (map entry_of (g.B.Holder.members c.carry-2.new.to)))
    (λ out. (first : PairData) → HasGot (g.A.Holder.limits c.args.a.now) (g.B.Holder.limits c.args.b.now) (g.A.Holder.rule c.args.a.now) (g.B.Holder.rule c.args.b.now) first (seen (g.A.Holder.members c.args.a.now) c.args.session_a.now) (map entry_of (g.A.Holder.members c.args.a.now)) (seen (g.B.Holder.members c.args.b.now) c.args.session_b.now) (map entry_of (g.B.Holder.members c.args.b.now)) (out_of (map entry_of (g.B.Holder.members c.args.b.now)) c.args.out) → HasGot (g.A.Holder.limits c.args.a.now) (g.B.Holder.limits c.args.b.now) (g.A.Holder.rule c.args.a.now) (g.B.Holder.rule c.args.b.now) first (seen (g.A.Holder.members c.carry.new.to) c.carry.new.session) (map entry_of (g.A.Holder.members c.carry.new.to)) (seen (g.B.Holder.members c.carry-2.new.to) c.carry-2.new.session) (map entry_of (g.B.Holder.members c.carry-2.new.to)) (out_of (map entry_of (g.B.Holder.members c.carry-2.new.to)) out))
    (λ out back first h. round_goes (g.A.Holder.limits c.args.a.now) (g.B.Holder.limits c.args.b.now) (g.A.Holder.rule c.args.a.now) (g.B.Holder.rule c.args.b.now) first (seen (g.A.Holder.members c.args.a.now) c.args.session_a.now) (seen (g.B.Holder.members c.args.b.now) c.args.session_b.now) (seen (g.A.Holder.members c.carry.new.to) c.carry.new.session) (map entry_of (g.A.Holder.members c.args.a.now)) (map entry_of (g.B.Holder.members c.args.b.now)) (map entry_of (g.A.Holder.members c.carry.new.to)) (out_of (map entry_of (g.B.Holder.members c.args.b.now)) c.args.out) (out_of (map entry_of (g.A.Holder.members c.carry.new.to)) c.in_ok-answer.answer) c.requires.on_its_way c.in_ok-answer.ensures.carried (seen (g.B.Holder.members c.carry-2.new.to) c.carry-2.new.session) (map entry_of (g.B.Holder.members c.carry-2.new.to)) (out_of (map entry_of (g.B.Holder.members c.carry-2.new.to)) out) back h (mapped_there turn_of c.in_ok-answer.answer.turn (c.is_none-is_over.ensures ∙ ap not c.if-is_over.false))) c.carry-2.ensures.carried

pub returns-clause-well_a : goal.returns-clause-well_a
returns-clause-well_a g c = on_ok_weaker c.carry-2.result (λ _. c.in_ok-answer.ensures.well) c.carry-2.ensures.well

pub returns-clause-well_b : goal.returns-clause-well_b
returns-clause-well_b g c = c.carry-2.ensures.well

pub returns-clause-turns : goal.returns-clause-turns
returns-clause-turns g c =
    let one = more_turns (g.A.Holder.limits c.args.a.now) (g.A.Holder.rule c.args.a.now) (seen (g.A.Holder.members c.args.a.now) c.args.session_a.now) (seen (g.B.Holder.members c.args.b.now) c.args.session_b.now) (seen (g.A.Holder.members c.carry.new.to) c.carry.new.session) (map entry_of (g.A.Holder.members c.args.a.now)) (map entry_of (g.B.Holder.members c.args.b.now)) (map entry_of (g.A.Holder.members c.carry.new.to)) (out_of (map entry_of (g.B.Holder.members c.args.b.now)) c.args.out) (out_of (map entry_of (g.A.Holder.members c.carry.new.to)) c.in_ok-answer.answer) c.requires.on_its_way c.in_ok-answer.ensures.carried (mapped_there turn_of c.in_ok-answer.answer.turn (c.is_none-is_over.ensures ∙ ap not c.if-is_over.false)) in
    IfOk-weaker c.carry-2.result (λ out. IsCarried (g.B.Holder.limits c.args.b.now) (g.B.Holder.rule c.args.b.now) (seen (g.B.Holder.members c.args.b.now) c.args.session_b.now) (map entry_of (g.B.Holder.members c.args.b.now)) (out_of (map entry_of (g.A.Holder.members c.carry.new.to)) c.in_ok-answer.answer) (seen (g.B.Holder.members c.carry-2.new.to) c.carry-2.new.session) (out_of (map entry_of (g.B.Holder.members c.carry-2.new.to)) out) (map entry_of (g.B.Holder.members c.carry-2.new.to)))
    (λ out. out.turn ≢ None → c.args.session_a.now.state.turns + c.args.session_b.now.state.turns < c.carry.new.session.state.turns + c.carry-2.new.session.state.turns)
    (λ out back some. let two = more_turns (g.B.Holder.limits c.args.b.now) (g.B.Holder.rule c.args.b.now) (seen (g.B.Holder.members c.args.b.now) c.args.session_b.now) (seen (g.A.Holder.members c.carry.new.to) c.carry.new.session) (seen (g.B.Holder.members c.carry-2.new.to) c.carry-2.new.session) (map entry_of (g.B.Holder.members c.args.b.now)) (map entry_of (g.A.Holder.members c.carry.new.to)) (map entry_of (g.B.Holder.members c.carry-2.new.to)) (out_of (map entry_of (g.A.Holder.members c.carry.new.to)) c.in_ok-answer.answer) (out_of (map entry_of (g.B.Holder.members c.carry-2.new.to)) out) (way_back (g.A.Holder.limits c.args.a.now) (g.A.Holder.rule c.args.a.now) (seen (g.A.Holder.members c.args.a.now) c.args.session_a.now) (seen (g.B.Holder.members c.args.b.now) c.args.session_b.now) (seen (g.A.Holder.members c.carry.new.to) c.carry.new.session) (map entry_of (g.A.Holder.members c.args.a.now)) (map entry_of (g.B.Holder.members c.args.b.now)) (map entry_of (g.A.Holder.members c.carry.new.to)) (out_of (map entry_of (g.B.Holder.members c.args.b.now)) c.args.out) (out_of (map entry_of (g.A.Holder.members c.carry.new.to)) c.in_ok-answer.answer) c.requires.on_its_way c.in_ok-answer.ensures.carried (mapped_there turn_of c.in_ok-answer.answer.turn (c.is_none-is_over.ensures ∙ ap not c.if-is_over.false))) back (mapped_some turn_of out.turn some) in add_turns c.args.session_a.now.state.turns c.args.session_b.now.state.turns c.carry.new.session.state.turns c.carry-2.new.session.state.turns one two) c.carry-2.ensures.carried

pub returns-clause-moves_a : goal.returns-clause-moves_a
returns-clause-moves_a g c = c.carry.ensures.moves

pub returns-clause-moves_b : goal.returns-clause-moves_b
returns-clause-moves_b g c = c.carry-2.ensures.moves

pub returns-clause-store : goal.returns-clause-store
returns-clause-store g c = IfOk-weaker c.carry-2.result (λ out. out.end ≡ Some Store → Rose (g.B.Counted.faults c.args.b.now) (g.B.Counted.faults c.carry-2.new.to)) (λ out. out.end ≡ Some Store → Rose (g.A.Counted.faults c.args.a.now) (g.A.Counted.faults c.carry.new.to) ⊎ Rose (g.B.Counted.faults c.args.b.now) (g.B.Counted.faults c.carry-2.new.to)) (λ out f is. inr (f is)) c.carry-2.ensures.store

pub returns-clause-keeps_a : goal.returns-clause-keeps_a
returns-clause-keeps_a g c = c.carry.ensures.keeps

pub returns-clause-keeps_b : goal.returns-clause-keeps_b
returns-clause-keeps_b g c = c.carry-2.ensures.keeps

pub returns-clause-whole : goal.returns-clause-whole
returns-clause-whole g c = λ held_a held_b.
    let ends = turned_end (g.A.Holder.limits c.args.a.now) (g.A.Holder.rule c.args.a.now) (seen (g.A.Holder.members c.args.a.now) c.args.session_a.now) (seen (g.B.Holder.members c.args.b.now) c.args.session_b.now) (seen (g.A.Holder.members c.carry.new.to) c.carry.new.session) (map entry_of (g.A.Holder.members c.args.a.now)) (map entry_of (g.A.Holder.members c.carry.new.to)) (out_of (map entry_of (g.B.Holder.members c.args.b.now)) c.args.out) (out_of (map entry_of (g.A.Holder.members c.carry.new.to)) c.in_ok-answer.answer) c.requires.on_its_way c.in_ok-answer.ensures.carried (mapped_there turn_of c.in_ok-answer.answer.turn (c.is_none-is_over.ensures ∙ ap not c.if-is_over.false)) in
    let back = way_back (g.A.Holder.limits c.args.a.now) (g.A.Holder.rule c.args.a.now) (seen (g.A.Holder.members c.args.a.now) c.args.session_a.now) (seen (g.B.Holder.members c.args.b.now) c.args.session_b.now) (seen (g.A.Holder.members c.carry.new.to) c.carry.new.session) (map entry_of (g.A.Holder.members c.args.a.now)) (map entry_of (g.B.Holder.members c.args.b.now)) (map entry_of (g.A.Holder.members c.carry.new.to)) (out_of (map entry_of (g.B.Holder.members c.args.b.now)) c.args.out) (out_of (map entry_of (g.A.Holder.members c.carry.new.to)) c.in_ok-answer.answer) c.requires.on_its_way c.in_ok-answer.ensures.carried (mapped_there turn_of c.in_ok-answer.answer.turn (c.is_none-is_over.ensures ∙ ap not c.if-is_over.false)) in
    IfOk-both c.carry-2.result (λ out. out.end ≢ Some Full → out.end ≢ Some Store → g.B.Holder.is_whole c.carry-2.new.to)
    (λ out. IsCarried (g.B.Holder.limits c.args.b.now) (g.B.Holder.rule c.args.b.now) (seen (g.B.Holder.members c.args.b.now) c.args.session_b.now) (map entry_of (g.B.Holder.members c.args.b.now)) (out_of (map entry_of (g.A.Holder.members c.carry.new.to)) c.in_ok-answer.answer) (seen (g.B.Holder.members c.carry-2.new.to) c.carry-2.new.session) (out_of (map entry_of (g.B.Holder.members c.carry-2.new.to)) out) (map entry_of (g.B.Holder.members c.carry-2.new.to)))
    (λ out. IsUnrefused out → g.A.Holder.is_whole c.carry.new.to × g.B.Holder.is_whole c.carry-2.new.to)
    (λ out f carried unrefused.
    let e = unrefused_end (g.B.Holder.limits c.args.b.now) (g.B.Holder.rule c.args.b.now) (seen (g.B.Holder.members c.args.b.now) c.args.session_b.now) (seen (g.A.Holder.members c.carry.new.to) c.carry.new.session) (seen (g.B.Holder.members c.carry-2.new.to) c.carry-2.new.session) (map entry_of (g.B.Holder.members c.args.b.now)) (map entry_of (g.B.Holder.members c.carry-2.new.to)) (out_of (map entry_of (g.A.Holder.members c.carry.new.to)) c.in_ok-answer.answer) out (g.B.Holder.members c.carry-2.new.to) back carried unrefused in
    (c.in_ok-answer.ensures.whole held_a ends.0 ends.1, f e.0 e.1)) (c.carry-2.ensures.whole held_b) c.carry-2.ensures.carried
