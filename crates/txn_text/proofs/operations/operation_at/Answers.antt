use Rattle.std.proofs.Common.{◌≡◌, sym, Err}
use Rattle.std.proofs.lemmas.Result.{err_from_is_err_and}
use Rattle.txn_text.specs.Operations.{verb_at, WriteUpTo, GoesWrong, wrong_verb, wrong_value, wrong_number}
use Rattle.txn_text.proofs.Writing.{stop_for}
use Rattle.txn_text.proofs.operations.operation_at.Goals as goal

pub returns-in_err-verb-clause-wrong : goal.returns-in_err-verb-clause-wrong
returns-in_err-verb-clause-wrong c =
    let tables = c.args.schema.now.tables in
    let before = c.args.before in
    let start = c.args.start.now in
    let p = err_from_is_err_and c.from_residual.result c.from_residual.ensures.1 in
    rw (p.1, p.2) (stop_for (λ wrong. verb_at tables before start ≡ Err wrong) (λ wrong. GoesWrong tables before start wrong) c.in_err-verb.field-0.0 (λ wrong e. wrong_verb wrong e) c.in_err-verb.ensures.wrong)

pub returns-in_err-values-clause-wrong : goal.returns-in_err-values-clause-wrong
returns-in_err-values-clause-wrong c =
    let tables = c.args.schema.now.tables in
    let before = c.args.before in
    let start = c.args.start.now in
    let verb = c.in_ok-verb.verb in
    let rest = c.in_ok-verb.rest.now in
    let p = err_from_is_err_and c.from_residual-in_err-values.result c.from_residual-in_err-values.ensures.1 in
    rw (p.1, p.2) (stop_for (λ wrong. WriteUpTo verb before rest wrong) (λ wrong. GoesWrong tables before start wrong) c.in_err-values.field-0.0
    (λ wrong up. wrong_value wrong verb rest c.in_ok-verb.ensures.found up) c.in_err-values.ensures.wrong)

pub returns-in-None-clause-wrong : goal.returns-in-None-clause-wrong
returns-in-None-clause-wrong c =
    rw c.wrong_at.ensures (wrong_number c.in_ok-verb.verb c.in_ok-verb.rest.now c.in_ok-values.values.items c.in_ok-verb.ensures.found c.in_ok-values.ensures.found (sym c.in-None.ensures.found))
