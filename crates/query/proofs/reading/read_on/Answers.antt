use Rattle.std.proofs.Common.{Err}
use Rattle.std.proofs.lemmas.Result.{err_from_is_err_and}
use Rattle.query.specs.Queries.{IsConditionOf, Say}
use Rattle.query.proofs.Saying.{stop_for, head_good, say_condition}
use Rattle.query.proofs.reading.read_on.Goals as goal

pub condition_of-requires : goal.condition_of-requires
condition_of-requires c = head_good c.args.schema.now.tables c.args.words.now c.requires

pub returns-in_err-condition-clause-wrong : goal.returns-in_err-condition-clause-wrong
returns-in_err-condition-clause-wrong c =
    let tables = c.args.schema.now.tables in
    let words = c.args.words.now in
    let p = err_from_is_err_and c.from_residual.result c.from_residual.ensures.1 in
    rw (p.1, p.2) (stop_for (λ wrong. IsConditionOf tables words (Err wrong)) (λ wrong. Say tables words (Err wrong)) c.in_err-condition.field-0.0
    (λ wrong h. say_condition tables words wrong c.requires h) c.in_err-condition.ensures.wrong)
