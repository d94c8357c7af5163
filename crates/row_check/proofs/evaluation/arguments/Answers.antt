use Rattle.std.proofs.Common.{◌<◌, length, rules}
use Rattle.row_check.proofs.Columns.{arguments_more}
use Rattle.row_check.proofs.evaluation.arguments.Goals as goal

pub loop-column-preserved : goal.loop-column-preserved
loop-column-preserved c =
    let row = c.args.row.now in
    let columns = c.args.columns.now in
    let i = c.loop-column.column-index in
    let low : i < length columns = search rules in
    arguments_more row columns i c.from.result c.loop-column.args.items c.push.new.self.items c.index-row-from.result c.in_ok-copy.field-0
    low c.loop-column.invariant (c.requires i 0 low) c.from.ensures c.index-row-from.is c.in_ok-copy.ensures (search rules)
