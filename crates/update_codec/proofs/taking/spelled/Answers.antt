use Rattle.std.proofs.lemmas.Result.{err_from_is_err_and}
use Rattle.update_codec.proofs.Causes.{fails_only}
use Rattle.update_codec.proofs.taking.spelled.Goals as goal

pub returns-in_err-header-clause-only : goal.returns-in_err-header-clause-only
returns-in_err-header-clause-only c = λ update s.
    let p = err_from_is_err_and c.from_residual.result c.from_residual.ensures.1 in
    rw (p.1, p.2) (fails_only c.args.bytes.items c.in_err-header.field-0.0 c.args.bytes.items update (rw (← c.as_slice.ensures.value) c.in_err-header.ensures.fails) s)
