use Rattle.text_words.proofs.Kept.{front_kept, on_err}
use Rattle.world_report.proofs.printing.push_sessions.Goals as goal

pub returns-in_err-push_session-clause-kept : goal.returns-in_err-push_session-clause-kept
returns-in_err-push_session-clause-kept c =
    on_err c.from_residual.result _
    (front_kept c.args.out.now.items _ c.loop-session.out.items c.push_session.new.out.items c.loop-session.invariant c.in_err-push_session.ensures.kept)
