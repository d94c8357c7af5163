use Rattle.std.proofs.Common.{◌≤◌, length, ◌∙◌, arith}
use Rattle.std.proofs.lemmas.Result.{err_from_is_err_and}
use Rattle.txn_text.proofs.Lines.{cause_of, answers_err}
use Rattle.txn_text.proofs.reading.read_txn.Goals as goal

pub returns-in_err-ops-clause-only : goal.returns-in_err-ops-clause-only
returns-in_err-ops-clause-only c = λ wanted reads.
    let text = c.args.text.now in
    let few : length c.args.text.now ≤ 4194304 = omega arith in
    let failed = cause_of c.args.schema.now text c.in_err-ops.field-0.0 few c.in_err-ops.ensures.fault in
    let p = err_from_is_err_and c.from_residual.result c.from_residual.ensures.1 in
    rw (p.1, p.2) (answers_err c.no_fault.ensures c.args.schema.now text c.in_err-ops.field-0.0 wanted failed reads)

pub returns-clause-only : goal.returns-clause-only
returns-clause-only c = λ wanted reads.
    let few : length c.args.text.now ≤ 4194304 = omega arith in
    c.from_vec.ensures ∙ c.one_transaction.ensures c.args.schema.now c.args.text.now c.in_ok-ops.ops.items wanted (few, c.in_ok-ops.ensures.found) reads
