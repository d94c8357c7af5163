use Rattle.std.proofs.lemmas.Result.{err_from_is_err_and}
use Rattle.net_commands.proofs.Concluding.{concludes_not, concludes_with, concludes_without}
use Rattle.net_commands.proofs.syncing.conclude.Goals as goal

pub returns-in_err-keep : goal.returns-in_err-keep
returns-in_err-keep g c =
    let p = err_from_is_err_and c.from_residual.result c.from_residual.ensures.1 in
    rw (p.1, p.2) (concludes_not _ _ _ _ _ _ _ _ _ _ c.in_err-keep.field-0.0 c.keep.result c.in_err-keep.was c.keep.ensures)

pub returns-in_err-sync_text : goal.returns-in_err-sync_text
returns-in_err-sync_text g c =
    let p = err_from_is_err_and c.from_residual-in_err-sync_text.result c.from_residual-in_err-sync_text.ensures.1 in
    rw (p.1, p.2) (concludes_without _ _ _ _ _ _ _ _ _ _ _ c.keep.result c.in_ok-keep.was c.keep.ensures)

pub returns : goal.returns
returns g c = concludes_with _ _ _ _ _ _ _ _ _ _ _ c.keep.result c.in_ok-keep.was c.keep.ensures _ c.in_ok-sync_text.ensures c.exit_status.ensures
