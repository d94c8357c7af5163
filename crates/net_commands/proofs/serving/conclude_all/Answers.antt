use Rattle.std.proofs.lemmas.Result.{err_from_is_err_and}
use Rattle.net_commands.proofs.OpenServing.{concludes_all, concludes_all_not}
use Rattle.net_commands.proofs.serving.conclude_all.Goals as goal

pub returns-in_err-store_failed : goal.returns-in_err-store_failed
returns-in_err-store_failed g c =
    let p = err_from_is_err_and c.from_residual.result c.from_residual.ensures.1 in
    rw (p.1, p.2) (concludes_all_not _ _ _ _ _ _ _ _ c.args.met.now _ c.as_slice-sessions.ensures c.keep_sessions-kept.result c.keep_sessions-kept.ensures)

pub returns-in_err-serve_text : goal.returns-in_err-serve_text
returns-in_err-serve_text g c =
    let p = err_from_is_err_and c.from_residual-in_err-serve_text.result c.from_residual-in_err-serve_text.ensures.1 in
    rw (p.1, p.2) (concludes_all_not _ _ _ _ _ _ _ _ c.args.met.now _ c.as_slice-sessions.ensures c.keep_sessions-kept.result c.keep_sessions-kept.ensures)

pub returns : goal.returns
returns g c = concludes_all _ _ _ _ _ _ _ _ c.args.met.now _ c.as_slice-sessions.ensures c.keep_sessions-kept.result c.keep_sessions-kept.ensures c.in_ok-store_failed.store_failed c.in_ok-store_failed.ensures.told _ c.in_ok-serve_text.ensures c.serve_status.ensures
