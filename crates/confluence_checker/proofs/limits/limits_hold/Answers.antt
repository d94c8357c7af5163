use Rattle.std.proofs.Common.{sym, ◌∙◌}
use Rattle.confluence_checker.proofs.Bounds.{limits_broken, limits_next}
use Rattle.confluence_checker.proofs.limits.limits_hold.Goals as goal

pub returns-then-not-limits_of : goal.returns-then-not-limits_of
returns-then-not-limits_of c =
    limits_broken c.args.rows.now c.args.schema.now.tables c.loop-number.number c.table.result.now _ c.table.ensures (sym c.limits_of.ensures ∙ c.if-not-limits_of.true) c.loop-number.invariant

pub loop-number-preserved : goal.loop-number-preserved
loop-number-preserved c =
    limits_next c.args.rows.now c.args.schema.now.tables c.loop-number.number c.table.result.now _ c.table.ensures (sym c.limits_of.ensures ∙ c.if-not-limits_of.false) c.loop-number.invariant
