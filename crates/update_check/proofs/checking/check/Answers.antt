use Rattle.std.proofs.Common.{List, ℕ, subst}
use Rattle.std.proofs.lemmas.Result.{err_from_is_err_and}
use Rattle.update_check.specs.Causes.{IsCause}
use Rattle.update_check.proofs.checking.check.Goals as goal

pub returns-in_err-check_spelled-clause-only : goal.returns-in_err-check_spelled-clause-only
returns-in_err-check_spelled-clause-only c = λ checked. absurd (
    let cause = subst (λ (w : List ℕ). IsCause c.args.rule.now w c.in_err-check_spelled.field-0.0) c.in_ok-update.ensures.same c.in_err-check_spelled.ensures.fault in
    c.no_cause.ensures c.args.rule.now c.args.bytes.items c.in_err-check_spelled.field-0.0 cause checked)

pub returns-in_err-check_spelled-clause-fault : goal.returns-in_err-check_spelled-clause-fault
returns-in_err-check_spelled-clause-fault c =
    let p = err_from_is_err_and c.from_residual-in_err-check_spelled.result c.from_residual-in_err-check_spelled.ensures.1 in
    rw (p.1, p.2) (subst (λ (w : List ℕ). IsCause c.args.rule.now w c.in_err-check_spelled.field-0.0) c.in_ok-update.ensures.same c.in_err-check_spelled.ensures.fault)
