use Rattle.std.proofs.Common.{◌<◌, ◌≤◌, sym, ◌∙◌, subst}
use Rattle.tuple_state.proofs.Restricting.{restricts_end, restricts_false, restricts_true}
use Rattle.tuple_state.proofs.restricts.restricts.Goals as goal

pub returns-then-restricts_column : goal.returns-then-restricts_column
returns-then-restricts_column c =
    restricts_true c.args.name.now c.args.columns.now c.args.values.now c.loop-number.number c.index-columns-number.result c.index-values-number.result _
    (subst (λ n. c.loop-number.number < n) c.min-number-end.ensures c.loop-number-test.true) c.index-columns-number.is c.index-values-number.is c.loop-number.invariant
    (sym c.restricts_column.ensures ∙ c.if-restricts_column.true)

pub loop-number-preserved : goal.loop-number-preserved
loop-number-preserved c =
    restricts_false c.args.name.now c.args.columns.now c.args.values.now c.loop-number.number c.index-columns-number.result c.index-values-number.result _
    (subst (λ n. c.loop-number.number < n) c.min-number-end.ensures c.loop-number-test.true) c.index-columns-number.is c.index-values-number.is c.loop-number.invariant
    (sym c.restricts_column.ensures ∙ c.if-restricts_column.false)

pub returns : goal.returns
returns c =
    restricts_end c.args.name.now c.args.columns.now c.args.values.now c.loop-number.number _ (subst (λ n. n ≤ c.loop-number.number) c.min-number-end.ensures c.loop-number-test.false) c.loop-number.invariant
