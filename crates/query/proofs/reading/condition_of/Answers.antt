use Rattle.std.proofs.Common.{◌≡◌, true, Ok, Err, rules}
use Rattle.std.proofs.lemmas.Result.{err_from_is_err_and}
use Rattle.query.specs.Grammar.{has_condition}
use Rattle.query.specs.Queries.{ReadsCondition, IsConditionOf}
use Rattle.query.proofs.Saying.{stop_for, condition_read}
use Rattle.query.proofs.reading.condition_of.Goals as goal

pub returns-in_err-condition-clause-wrong : goal.returns-in_err-condition-clause-wrong
returns-in_err-condition-clause-wrong c =
    let tables = c.args.schema.now.tables in
    let words = c.args.words.now in
    let has : has_condition c.args.words.now ≡ true = search rules in
    let p = err_from_is_err_and c.from_residual.result c.from_residual.ensures.1 in
    rw (p.1, p.2) (stop_for (λ wrong. ReadsCondition tables c.table_of-table.result c.condition_place.result c.condition_in.result.now (Err wrong)) (λ wrong. IsConditionOf tables words (Err wrong))
    c.in_err-condition.field-0.0 (λ wrong h. condition_read tables words (Err wrong) has (rw (c.table_of-table.ensures, c.condition_place.ensures.is, c.condition_in.ensures) at h)) c.in_err-condition.ensures.wrong)

pub returns-clause-found : goal.returns-clause-found
returns-clause-found c =
    let has : has_condition c.args.words.now ≡ true = search rules in
    condition_read c.args.schema.now.tables c.args.words.now (Ok c.in_ok-condition.condition) has
    (rw (c.table_of-table.ensures, c.condition_place.ensures.is, c.condition_in.ensures) at c.in_ok-condition.ensures.found)
