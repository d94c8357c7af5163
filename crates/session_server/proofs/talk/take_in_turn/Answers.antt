use Rattle.std.proofs.Common.{◌≡◌, ◌∷◌, ◌++◌, [], inl, inr, true, false, Option, Result, refl, sym, subst}
use Rattle.std.specs.Prelude.{IfOk, OnErr}
use Rattle.std.specs.declared.alloc.AllocError.{AllocError}
use Rattle.sync_session.specs.Kept.{frame_of, StepsTo}
use Rattle.sync_session.specs.declared.out.Out.{Out}
use Rattle.update_model.specs.Batch.{store_limits}
use Rattle.shared_replica.specs.Acts.{IsAct}
use Rattle.shared_replica.specs.Entries.{updates_of}
use Rattle.shared_replica.specs.Sessions.{met_store}
use Rattle.shared_replica.proofs.Going.{belongs_longer, stepped_after}
use Rattle.session_server.specs.declared.ending.Ending.{Ending}
use Rattle.session_server.specs.Talks.{IsTalk}
use Rattle.session_server.proofs.Passing.{act_still, still_then}
use Rattle.session_server.proofs.Talking.{take_failed, take_said}
use Rattle.session_server.proofs.talk.take_in_turn.Goals as goal

pub returns-in-Err-clause-talk : goal.returns-in-Err-clause-talk
returns-in-Err-clause-talk g c rule role start old heard t =
    let act = c.session_step-pass.ensures in
    let failed = subst (λ (r : Result Out AllocError). OnErr r (c.session_step-pass.new.session.failed ≡ true)) c.in-Err.is act.6 in (
      heard,
      inr (refl, refl, failed, refl, refl, refl),
      take_failed rule role start old c.args.talk.pass c.session_step-pass.result.pass c.args.talk.session c.session_step-pass.new.session c.args.talk.is_fresh _ _ heard act.0 act.1 act.2 (met_store c.session_step-pass.result.answer)
          t act.3 failed,
    )

pub returns-in-Ok-clause-goes : goal.returns-in-Ok-clause-goes
returns-in-Ok-clause-goes g c =
    let act = c.session_step-pass.ensures in
    let after = c.session_step-pass.result.pass in
    let next = c.session_step-pass.new.session in
    record {
      still = still_then c.args.talk.pass after c.say-pass.result.0 (act_still c.args.talk.pass after act.0 act.1 act.2 (met_store c.session_step-pass.result.answer) act.3) c.say-pass.ensures.still;
      belongs = belongs_longer after.seen c.say-pass.result.0.seen next c.say-pass.ensures.still.seen (stepped_after c.args.talk.pass after act.0 act.1 act.2 (met_store c.session_step-pass.result.answer) next act.3 act.5);
    }

pub returns-in-Ok-clause-talk : goal.returns-in-Ok-clause-talk
returns-in-Ok-clause-talk g c rule role start old heard t =
    let act = c.session_step-pass.ensures in
    let after = c.session_step-pass.result.pass in
    let next = c.session_step-pass.new.session in
    let acted = subst (λ (r : Result Out AllocError). IsAct c.args.talk.pass after act.0 act.1 act.2 (met_store r)) c.in-Ok.is act.3 in
    let steps = subst (λ (r : Result Out AllocError). IfOk r (λ out. StepsTo store_limits c.args.talk.session (updates_of act.0) c.args.frame next out (updates_of after.seen))) c.in-Ok.is act.4 in (
      heard ++ frame_of c.args.frame ∷ [],
      inl refl,
      subst (λ (e : Option Ending). IsTalk rule role start old c.say-pass.result.0 next false (g.K.Sink.held c.say-pass.new.link) (g.K.Counted.faults c.say-pass.new.link) (heard ++ frame_of c.args.frame ∷ []) e) (sym c.over.ensures.value)
          (take_said rule role start old c.args.talk.pass after c.say-pass.result.0 c.args.talk.session next c.args.talk.is_fresh (g.K.Sink.held c.args.link.now) (g.K.Sink.held c.say-pass.new.link) (g.K.Counted.faults c.args.link.now)
          (g.K.Counted.faults c.say-pass.new.link) heard act.0 act.1 act.2 c.args.frame c.in-Ok.out t acted steps act.5 c.say-pass.ensures.still c.say-pass.ensures.quiet _ c.say-pass.result.1 c.say-pass.ensures.said c.say-pass.ensures.cause),
    )
