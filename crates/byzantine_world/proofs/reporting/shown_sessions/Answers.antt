use Rattle.std.proofs.Common.{Vec, Global, ℕ, ◌+◌, ap, ◌∙◌}
use Rattle.world_report.specs.declared.shown.ShownSession.{ShownSession}
use Rattle.byzantine_world.proofs.Reported.{none_next, talk_next}
use Rattle.byzantine_world.proofs.reporting.shown_sessions.Goals.{in-Some+in_ok-push, in_default}
use Rattle.byzantine_world.proofs.reporting.shown_sessions.Goals as goal

pub talks-preserved : goal.talks-preserved
talks-preserved c =
    let talks = c.args.talks.now in
    let i = c.talks.talk-index in
    let item = c.talk-item.result in
    let counted = ap (λ (n : ℕ). n + 1) c.talks.invariant.0 in
    elim c.match-talk.branch [
      | in-Some+in_ok-push w ↦ (
        counted,
        ap (λ (v : Vec ShownSession Global). v.items) w.shown-is ∙ w.in_ok-push.ensures.items
            ∙ talk_next talks i item c.talks-test.true c.talk-item.is c.talks.shown.items c.talks.number w.in-Some.talk w.shown_talk.result w.in-Some.is c.talks.invariant.0 w.shown_talk.ensures
            c.talks.invariant.1,
      )
      | in_default w ↦ (
        counted,
        ap (λ (v : Vec ShownSession Global). v.items) w.shown-is
            ∙ none_next talks i item c.talks-test.true c.talk-item.is c.talks.shown.items w.in_default.is c.talks.invariant.1,
      )
    ]
