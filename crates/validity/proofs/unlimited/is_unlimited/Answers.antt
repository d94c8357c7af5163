use Rattle.std.proofs.Common.{sym, ◌∙◌}
use Rattle.validity.proofs.Limits.{unlimited_from}
use Rattle.validity.proofs.unlimited.is_unlimited.Goals as goal

pub returns-then-not-is_unlimited_table : goal.returns-then-not-is_unlimited_table
returns-then-not-is_unlimited_table c =
    unlimited_from c.args.schema.now.tables c.loop-number.number c.table.result.now _ _ c.table.ensures (sym c.is_unlimited_table.ensures ∙ c.if-not-is_unlimited_table.true)
    c.loop-number.invariant

pub loop-number-preserved : goal.loop-number-preserved
loop-number-preserved c =
    unlimited_from c.args.schema.now.tables c.loop-number.number c.table.result.now _ _ c.table.ensures (sym c.is_unlimited_table.ensures ∙ c.if-not-is_unlimited_table.false)
    c.loop-number.invariant
