use Rattle.std.proofs.Common.{◌<◌, length, arith}
use Rattle.page_text.specs.Parts.{table_part}
use Rattle.page_text.proofs.Listed.{listed_next}
use Rattle.page_text.proofs.rows.push_tables.Goals as goal

pub loop-number-preserved : goal.loop-number-preserved
loop-number-preserved c =
    let within : c.loop-number.number < length c.args.schema.now.tables = omega (arith, c.loop-number-test.true, c.tables-number-end.ensures.number) in
    listed_next table_part c.args.out.now.items c.loop-number.out.items c.push_numbered.new.out.items c.args.schema.now.tables c.args.lists.now c.loop-number.number within
    c.loop-number.invariant c.in_ok-push_numbered.ensures
