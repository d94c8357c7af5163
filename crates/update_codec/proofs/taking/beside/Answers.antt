use Rattle.std.proofs.Common.{arith}
use Rattle.std.proofs.lemmas.Result.{err_from_is_err_and}
use Rattle.update_codec.proofs.Causes.{refused_of, kept_as_read}
use Rattle.update_codec.proofs.taking.beside.Goals as goal

pub returns-in_err-body-clause-cause : goal.returns-in_err-body-clause-cause
returns-in_err-body-clause-cause c =
    let p = err_from_is_err_and c.from_residual.result c.from_residual.ensures.1 in
    rw (p.1, p.2) (refused_of c.args.bytes.now c.in_err-body.field-0.0 (λ i. omega (arith, c.type_inv.bytes i)) c.in_err-body.ensures)

pub returns-clause-kept : goal.returns-clause-kept
returns-clause-kept c = rw (c.id_of.ensures, c.of_body.ensures) (kept_as_read c.args.bytes.now c.in_ok-body.body c.in_ok-body._signature.now (λ i. omega (arith, c.type_inv.bytes i)) c.in_ok-body.ensures)
