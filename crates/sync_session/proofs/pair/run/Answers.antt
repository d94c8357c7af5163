use Rattle.std.proofs.Common.{◌≡◌, ◌∙◌, ◌⊎◌, inl, sym}
use Rattle.std.proofs.lemmas.Result.{IfOk-weaker}
use Rattle.bec_bytes.specs.Causes.{Rose}
use Rattle.session_rules.specs.declared.end.End.TheVariants.{Done, Store}
use Rattle.sync_session.specs.Carrying.{start_of, Closes, Syncs}
use Rattle.sync_session.proofs.Moving.{mapped_there}
use Rattle.sync_session.specs.Kept.{turn_of}
use Rattle.sync_session.proofs.Sessions.{fewer_left, goes_on, moves_next_a, moves_next_b, store_here, syncs_here, unrefused}
use Rattle.sync_session.proofs.Rounds.{is_there}
use Rattle.sync_session.proofs.Syncing.{few_turns, way}
use Rattle.sync_session.proofs.pair.run.Goals as goal

pub rounds-init : goal.rounds-init
rounds-init g c = (g.A.Holder.keeps_itself c.args.a.now, c.meet.ensures.keeps, λ held_a held_b unrefused. (held_a, c.in_ok-out.ensures.whole held_b unrefused), c.in_ok-out.ensures.going)

pub round-requires-clause-on_its_way : goal.round-requires-clause-on_its_way
round-requires-clause-on_its_way g c = way (start_of c.args.session_a.now c.args.session_b.now) (g.A.Holder.limits c.args.a.now) (g.B.Holder.limits c.args.b.now) (g.A.Holder.rule c.args.a.now) (g.B.Holder.rule c.args.b.now) (g.A.Holder.members c.args.a.now) (g.B.Holder.members c.args.b.now) (g.A.Counted.faults c.args.a.now) (g.B.Counted.faults c.args.b.now) c.rounds.session_a (g.A.Holder.members c.rounds.a) (g.A.Holder.limits c.rounds.a) (g.A.Holder.rule c.rounds.a) (g.A.Counted.faults c.rounds.a) c.rounds.session_b (g.B.Holder.members c.rounds.b) (g.B.Holder.limits c.rounds.b) (g.B.Holder.rule c.rounds.b) (g.B.Counted.faults c.rounds.b) c.rounds.out c.rounds.invariant.3 (mapped_there turn_of c.rounds.out.turn (sym c.is_some.ensures ∙ c.rounds-test.true))

pub returns-in_err-next-clause-keeps_a : goal.returns-in_err-next-clause-keeps_a
returns-in_err-next-clause-keeps_a g c = g.A.Holder.keeps_on c.args.a.now c.rounds.a c.round.new.a c.rounds.invariant.0 c.round.ensures.keeps_a

pub returns-in_err-next-clause-keeps_b : goal.returns-in_err-next-clause-keeps_b
returns-in_err-next-clause-keeps_b g c = g.B.Holder.keeps_on c.args.b.now c.rounds.b c.round.new.b c.rounds.invariant.1 c.round.ensures.keeps_b

pub returns-in_err-next-clause-moves_a : goal.returns-in_err-next-clause-moves_a
returns-in_err-next-clause-moves_a g c = moves_next_a (start_of c.args.session_a.now c.args.session_b.now) (g.A.Holder.limits c.args.a.now) (g.B.Holder.limits c.args.b.now) (g.A.Holder.rule c.args.a.now) (g.B.Holder.rule c.args.b.now) (g.A.Holder.members c.args.a.now) (g.B.Holder.members c.args.b.now) (g.A.Counted.faults c.args.a.now) (g.B.Counted.faults c.args.b.now) c.rounds.session_a (g.A.Holder.members c.rounds.a) (g.A.Holder.limits c.rounds.a) (g.A.Holder.rule c.rounds.a) (g.A.Counted.faults c.rounds.a) c.rounds.session_b (g.B.Holder.members c.rounds.b) (g.B.Holder.limits c.rounds.b) (g.B.Holder.rule c.rounds.b) (g.B.Counted.faults c.rounds.b) c.rounds.out c.rounds.invariant.3 (sym c.is_some.ensures ∙ c.rounds-test.true) (g.A.Holder.members c.round.new.a) (g.B.Holder.members c.round.new.b) (g.A.Holder.limits c.round.new.a) (g.B.Holder.limits c.round.new.b) (g.A.Holder.rule c.round.new.a) (g.B.Holder.rule c.round.new.b) (g.A.Counted.faults c.round.new.a) (g.B.Counted.faults c.round.new.b) c.round.ensures.moves_a c.round.ensures.moves_b

pub returns-in_err-next-clause-moves_b : goal.returns-in_err-next-clause-moves_b
returns-in_err-next-clause-moves_b g c = moves_next_b (start_of c.args.session_a.now c.args.session_b.now) (g.A.Holder.limits c.args.a.now) (g.B.Holder.limits c.args.b.now) (g.A.Holder.rule c.args.a.now) (g.B.Holder.rule c.args.b.now) (g.A.Holder.members c.args.a.now) (g.B.Holder.members c.args.b.now) (g.A.Counted.faults c.args.a.now) (g.B.Counted.faults c.args.b.now) c.rounds.session_a (g.A.Holder.members c.rounds.a) (g.A.Holder.limits c.rounds.a) (g.A.Holder.rule c.rounds.a) (g.A.Counted.faults c.rounds.a) c.rounds.session_b (g.B.Holder.members c.rounds.b) (g.B.Holder.limits c.rounds.b) (g.B.Holder.rule c.rounds.b) (g.B.Counted.faults c.rounds.b) c.rounds.out c.rounds.invariant.3 (sym c.is_some.ensures ∙ c.rounds-test.true) (g.A.Holder.members c.round.new.a) (g.B.Holder.members c.round.new.b) (g.A.Holder.limits c.round.new.a) (g.B.Holder.limits c.round.new.b) (g.A.Holder.rule c.round.new.a) (g.B.Holder.rule c.round.new.b) (g.A.Counted.faults c.round.new.a) (g.B.Counted.faults c.round.new.b) c.round.ensures.moves_a c.round.ensures.moves_b

pub rounds-smaller : goal.rounds-smaller
rounds-smaller g c = fewer_left c.rounds.out c.in_ok-next.next c.rounds.session_a c.rounds.session_b c.round.new.session_a c.round.new.session_b (sym c.is_some.ensures ∙ c.rounds-test.true) c.in_ok-next.ensures.turns
    (few_turns (start_of c.args.session_a.now c.args.session_b.now) (g.A.Holder.limits c.args.a.now) (g.B.Holder.limits c.args.b.now) (g.A.Holder.rule c.args.a.now) (g.B.Holder.rule c.args.b.now) (g.A.Holder.members c.args.a.now) (g.B.Holder.members c.args.b.now) (g.A.Counted.faults c.args.a.now) (g.B.Counted.faults c.args.b.now) c.rounds.session_a (g.A.Holder.members c.rounds.a) (g.A.Holder.limits c.rounds.a) (g.A.Holder.rule c.rounds.a) (g.A.Counted.faults c.rounds.a) c.rounds.session_b (g.B.Holder.members c.rounds.b) (g.B.Holder.limits c.rounds.b) (g.B.Holder.rule c.rounds.b) (g.B.Counted.faults c.rounds.b) c.rounds.out c.rounds.invariant.3) (few_turns (start_of c.args.session_a.now c.args.session_b.now) (g.A.Holder.limits c.args.a.now) (g.B.Holder.limits c.args.b.now) (g.A.Holder.rule c.args.a.now) (g.B.Holder.rule c.args.b.now) (g.A.Holder.members c.args.a.now) (g.B.Holder.members c.args.b.now) (g.A.Counted.faults c.args.a.now) (g.B.Counted.faults c.args.b.now) c.round.new.session_a (g.A.Holder.members c.round.new.a) (g.A.Holder.limits c.round.new.a) (g.A.Holder.rule c.round.new.a) (g.A.Counted.faults c.round.new.a) c.round.new.session_b (g.B.Holder.members c.round.new.b) (g.B.Holder.limits c.round.new.b) (g.B.Holder.rule c.round.new.b) (g.B.Counted.faults c.round.new.b) c.in_ok-next.next (goes_on (start_of c.args.session_a.now c.args.session_b.now) (g.A.Holder.limits c.args.a.now) (g.B.Holder.limits c.args.b.now) (g.A.Holder.rule c.args.a.now) (g.B.Holder.rule c.args.b.now) (g.A.Holder.members c.args.a.now) (g.B.Holder.members c.args.b.now) (g.A.Counted.faults c.args.a.now) (g.B.Counted.faults c.args.b.now) c.rounds.session_a (g.A.Holder.members c.rounds.a) (g.A.Holder.limits c.rounds.a) (g.A.Holder.rule c.rounds.a) (g.A.Counted.faults c.rounds.a) c.rounds.session_b (g.B.Holder.members c.rounds.b) (g.B.Holder.limits c.rounds.b) (g.B.Holder.rule c.rounds.b) (g.B.Counted.faults c.rounds.b) c.rounds.out c.rounds.invariant.3 (sym c.is_some.ensures ∙ c.rounds-test.true) (g.A.Holder.members c.round.new.a) (g.B.Holder.members c.round.new.b) (g.A.Holder.limits c.round.new.a) (g.B.Holder.limits c.round.new.b) (g.A.Holder.rule c.round.new.a) (g.B.Holder.rule c.round.new.b) (g.A.Counted.faults c.round.new.a) (g.B.Counted.faults c.round.new.b) c.round.ensures.moves_a c.round.ensures.moves_b c.round.new.session_a c.round.new.session_b c.in_ok-next.next c.in_ok-next.ensures.got c.in_ok-next.ensures.well_a c.in_ok-next.ensures.well_b c.in_ok-next.ensures.store))

pub rounds-preserved : goal.rounds-preserved
rounds-preserved g c = (
  g.A.Holder.keeps_on c.args.a.now c.rounds.a c.round.new.a c.rounds.invariant.0 c.round.ensures.keeps_a,
  g.B.Holder.keeps_on c.args.b.now c.rounds.b c.round.new.b c.rounds.invariant.1 c.round.ensures.keeps_b,
  λ held_a held_b unrefused. let before = c.rounds.invariant.2 held_a held_b (inl (is_there c.rounds.out.turn (sym c.is_some.ensures ∙ c.rounds-test.true))) in c.in_ok-next.ensures.whole before.0 before.1 unrefused,
  goes_on (start_of c.args.session_a.now c.args.session_b.now) (g.A.Holder.limits c.args.a.now) (g.B.Holder.limits c.args.b.now) (g.A.Holder.rule c.args.a.now) (g.B.Holder.rule c.args.b.now) (g.A.Holder.members c.args.a.now) (g.B.Holder.members c.args.b.now) (g.A.Counted.faults c.args.a.now) (g.B.Counted.faults c.args.b.now) c.rounds.session_a (g.A.Holder.members c.rounds.a) (g.A.Holder.limits c.rounds.a) (g.A.Holder.rule c.rounds.a) (g.A.Counted.faults c.rounds.a) c.rounds.session_b (g.B.Holder.members c.rounds.b) (g.B.Holder.limits c.rounds.b) (g.B.Holder.rule c.rounds.b) (g.B.Counted.faults c.rounds.b) c.rounds.out c.rounds.invariant.3 (sym c.is_some.ensures ∙ c.rounds-test.true) (g.A.Holder.members c.round.new.a) (g.B.Holder.members c.round.new.b) (g.A.Holder.limits c.round.new.a) (g.B.Holder.limits c.round.new.b) (g.A.Holder.rule c.round.new.a) (g.B.Holder.rule c.round.new.b) (g.A.Counted.faults c.round.new.a) (g.B.Counted.faults c.round.new.b) c.round.ensures.moves_a c.round.ensures.moves_b c.round.new.session_a c.round.new.session_b c.in_ok-next.next c.in_ok-next.ensures.got c.in_ok-next.ensures.well_a c.in_ok-next.ensures.well_b c.in_ok-next.ensures.store,
)

pub returns-clause-syncs : goal.returns-clause-syncs
returns-clause-syncs g c =
    IfOk-weaker c.closed.result (Closes c.rounds.session_a c.rounds.session_b c.unwrap.result) (λ ended. Syncs (g.A.Holder.limits c.args.a.now) (g.B.Holder.limits c.args.b.now) (g.A.Holder.rule c.args.a.now) (g.B.Holder.rule c.args.b.now) (start_of c.args.session_a.now c.args.session_b.now) (g.A.Holder.members c.args.a.now) (g.B.Holder.members c.args.b.now) ended (g.A.Holder.members c.rounds.a) (g.B.Holder.members c.rounds.b))
    (λ ended closes. syncs_here (start_of c.args.session_a.now c.args.session_b.now) (g.A.Holder.limits c.args.a.now) (g.B.Holder.limits c.args.b.now) (g.A.Holder.rule c.args.a.now) (g.B.Holder.rule c.args.b.now) (g.A.Holder.members c.args.a.now) (g.B.Holder.members c.args.b.now) (g.A.Counted.faults c.args.a.now) (g.B.Counted.faults c.args.b.now) c.rounds.session_a (g.A.Holder.members c.rounds.a) (g.A.Holder.limits c.rounds.a) (g.A.Holder.rule c.rounds.a) (g.A.Counted.faults c.rounds.a) c.rounds.session_b (g.B.Holder.members c.rounds.b) (g.B.Holder.limits c.rounds.b) (g.B.Holder.rule c.rounds.b) (g.B.Counted.faults c.rounds.b) c.rounds.out c.rounds.invariant.3 (sym c.is_some.ensures ∙ c.rounds-test.false) c.unwrap.result c.unwrap.ensures ended closes) c.closed.ensures

pub returns-clause-store : goal.returns-clause-store
returns-clause-store g c =
    IfOk-weaker c.closed.result (Closes c.rounds.session_a c.rounds.session_b c.unwrap.result) (λ ended. ended.a ≡ Store → Rose (g.A.Counted.faults c.args.a.now) (g.A.Counted.faults c.rounds.a) ⊎ Rose (g.B.Counted.faults c.args.b.now) (g.B.Counted.faults c.rounds.b))
    (λ ended closes. store_here (start_of c.args.session_a.now c.args.session_b.now) (g.A.Holder.limits c.args.a.now) (g.B.Holder.limits c.args.b.now) (g.A.Holder.rule c.args.a.now) (g.B.Holder.rule c.args.b.now) (g.A.Holder.members c.args.a.now) (g.B.Holder.members c.args.b.now) (g.A.Counted.faults c.args.a.now) (g.B.Counted.faults c.args.b.now) c.rounds.session_a (g.A.Holder.members c.rounds.a) (g.A.Holder.limits c.rounds.a) (g.A.Holder.rule c.rounds.a) (g.A.Counted.faults c.rounds.a) c.rounds.session_b (g.B.Holder.members c.rounds.b) (g.B.Holder.limits c.rounds.b) (g.B.Holder.rule c.rounds.b) (g.B.Counted.faults c.rounds.b) c.rounds.out c.rounds.invariant.3 (sym c.is_some.ensures ∙ c.rounds-test.false) c.unwrap.result c.unwrap.ensures ended closes) c.closed.ensures

pub returns-clause-whole : goal.returns-clause-whole
returns-clause-whole g c = λ held_a held_b.
    IfOk-weaker c.closed.result (Closes c.rounds.session_a c.rounds.session_b c.unwrap.result) (λ ended. ended.a ≡ Done → g.A.Holder.is_whole c.rounds.a × g.B.Holder.is_whole c.rounds.b)
    (λ ended closes done. c.rounds.invariant.2 held_a held_b (unrefused (start_of c.args.session_a.now c.args.session_b.now) (g.A.Holder.limits c.args.a.now) (g.B.Holder.limits c.args.b.now) (g.A.Holder.rule c.args.a.now) (g.B.Holder.rule c.args.b.now) (g.A.Holder.members c.args.a.now) (g.B.Holder.members c.args.b.now) (g.A.Counted.faults c.args.a.now) (g.B.Counted.faults c.args.b.now) c.rounds.session_a (g.A.Holder.members c.rounds.a) (g.A.Holder.limits c.rounds.a) (g.A.Holder.rule c.rounds.a) (g.A.Counted.faults c.rounds.a) c.rounds.session_b (g.B.Holder.members c.rounds.b) (g.B.Holder.limits c.rounds.b) (g.B.Holder.rule c.rounds.b) (g.B.Counted.faults c.rounds.b) c.rounds.out c.rounds.invariant.3 (sym c.is_some.ensures ∙ c.rounds-test.false) c.unwrap.result c.unwrap.ensures ended closes done)) c.closed.ensures
