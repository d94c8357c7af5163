use Rattle.std.proofs.Common.{rules, ◌≡◌, ◌∷◌, inl, All, List, Option, refl, sym, subst, ◌∙◌}
use Rattle.std.proofs.lemmas.List.{nil_from_length}
use Rattle.std.proofs.lemmas.List.Elements.{All-head, All-tail}
use Rattle.std.specs.Vec.Iter.{into_iter_items}
use Rattle.sync_session.specs.Kept.{IsFrameUnder}
use Rattle.sync_session.specs.declared.checked_frame.CheckedFrame.{CheckedFrame}
use Rattle.sync_session.proofs.Rounds.{is_missing, is_there}
use Rattle.shared_replica.proofs.Going.{ruled_longer}
use Rattle.session_server.specs.declared.ending.Ending.{Ending}
use Rattle.session_server.specs.Talks.{IsTalkWith}
use Rattle.session_server.proofs.Passing.{still_self, still_then}
use Rattle.session_server.proofs.Talking.{HeardUpTo, front_done, front_here, front_none, up_to_next, up_to_none, with_stops}
use Rattle.session_server.proofs.talk.hear_all.Goals as goal

pub returns-in_default-clause-goes : goal.returns-in_default-clause-goes
returns-in_default-clause-goes g c = record { still = still_self c.args.talk.pass; belongs = c.requires.belongs }

pub returns-in_default-clause-talk : goal.returns-in_default-clause-talk
returns-in_default-clause-talk g c start heard t = (
  heard,
  front_none c.args.side.now.common.now.rule.now c.args.frames.items heard,
  with_stops c.args.side.now.common.now.rule.now c.args.side.now.role c.args.side.now.common.now.peers.now start c.args.talk.pass c.args.talk.pass c.args.talk.session c.args.talk.session c.args.talk.is_fresh c.args.talk.is_fresh _ _ _ _ heard t
      (still_self c.args.talk.pass) (inl refl) refl refl refl,
)

pub frames-init : goal.frames-init
frames-init g c =
    let rest = c.into_iter-frames.ensures.rest in (
      record { still = still_self c.args.talk.pass; belongs = c.requires.belongs },
      refl,
      subst (All (IsFrameUnder c.args.side.now.common.now.rule.now)) (sym rest) c.in-Ok.ensures.under,
      λ start heard t. (
        heard,
        subst (λ (l : List CheckedFrame). HeardUpTo c.args.side.now.common.now.rule.now c.args.frames.items l heard heard) (sym rest) (up_to_none c.args.side.now.common.now.rule.now c.args.frames.items c.in-Ok.all.items heard c.in-Ok.ensures.arrives),
        t,
      ),
    )

pub hear_checked-next-requires-clause-under : goal.hear_checked-next-requires-clause-under
hear_checked-next-requires-clause-under g c κs within =
    let e : into_iter_items c.frames.frames ≡ c.in-Some.frame ∷ into_iter_items c.next.new.self = search rules in
    record {
      rule = c.args.side.now.common.now.rule.now;
      ruled = ruled_longer c.args.talk.pass.seen c.frames.talk.pass.seen c.args.side.now.common.now.rule.now c.frames.invariant.0.still.seen c.requires.ruled;
      under = All-head (IsFrameUnder c.args.side.now.common.now.rule.now) c.in-Some.frame (into_iter_items c.next.new.self) (subst (All (IsFrameUnder c.args.side.now.common.now.rule.now)) e c.frames.invariant.2);
    }

pub returns-then-is_some-clause-goes : goal.returns-then-is_some-clause-goes
returns-then-is_some-clause-goes g c = record {
  still = still_then c.args.talk.pass c.frames.talk.pass c.hear_checked-next.result.0.pass c.frames.invariant.0.still c.hear_checked-next.ensures.goes.still;
  belongs = c.hear_checked-next.ensures.goes.belongs;
}

pub returns-then-is_some-clause-talk : goal.returns-then-is_some-clause-talk
returns-then-is_some-clause-talk g c start heard t =
    let u = c.frames.invariant.3 start heard t in
    let h = c.hear_checked-next.ensures.talk c.args.side.now.common.now.rule.now start u.0 u.2 in
    let e : into_iter_items c.frames.frames ≡ c.in-Some.frame ∷ into_iter_items c.next.new.self = search rules in (
      h.0,
      front_here c.args.side.now.common.now.rule.now c.args.frames.items (into_iter_items c.frames.frames) (into_iter_items c.next.new.self) c.in-Some.frame heard u.0 h.0 c.hear_checked-next.result.1 u.1 e h.1
          (is_there c.hear_checked-next.result.1 (sym c.is_some.ensures ∙ c.if-is_some.true)),
      h.2,
    )

pub frames-preserved : goal.frames-preserved
frames-preserved g c =
    let none = is_missing c.hear_checked-next.result.1 (sym c.is_some.ensures ∙ c.if-is_some.false) in
    let e : into_iter_items c.frames.frames ≡ c.in-Some.frame ∷ into_iter_items c.next.new.self = search rules in (
      record {
        still = still_then c.args.talk.pass c.frames.talk.pass c.hear_checked-next.result.0.pass c.frames.invariant.0.still c.hear_checked-next.ensures.goes.still;
        belongs = c.hear_checked-next.ensures.goes.belongs;
      },
      c.hear_checked-next.ensures.left ∙ c.frames.invariant.1,
      All-tail (IsFrameUnder c.args.side.now.common.now.rule.now) c.in-Some.frame (into_iter_items c.next.new.self) (subst (All (IsFrameUnder c.args.side.now.common.now.rule.now)) e c.frames.invariant.2),
      λ start heard t.
          let u = c.frames.invariant.3 start heard t in
          let h = c.hear_checked-next.ensures.talk c.args.side.now.common.now.rule.now start u.0 u.2 in (
            h.0,
            up_to_next c.args.side.now.common.now.rule.now c.args.frames.items (into_iter_items c.frames.frames) (into_iter_items c.next.new.self) c.in-Some.frame heard u.0 h.0 c.hear_checked-next.result.1 u.1 e h.1 none,
            subst (λ (o : Option Ending). IsTalkWith c.args.side.now.common.now.rule.now c.args.side.now.role c.args.side.now.common.now.peers.now start c.hear_checked-next.result.0.pass c.hear_checked-next.result.0.session c.hear_checked-next.result.0.is_fresh
                (g.K.Sink.held c.hear_checked-next.new.link) (g.K.Counted.faults c.hear_checked-next.new.link) h.0 o) none h.2,
          ),
    )

pub returns-clause-talk : goal.returns-clause-talk
returns-clause-talk g c start heard t =
    let u = c.frames.invariant.3 start heard t in
    let e = nil_from_length (into_iter_items c.frames.frames) (sym c.frames.frames.rest.ok.0 ∙ c.in_default-next.ensures.cases.0) in
    (u.0, front_done c.args.side.now.common.now.rule.now c.args.frames.items (into_iter_items c.frames.frames) heard u.0 u.1 e, u.2)
