use Rattle.txn_text.proofs.Tables.{few_columns}
use Rattle.std.proofs.Common.{[]}
use Rattle.txn_text.proofs.heads.insert_into.Goals as goal

pub returns-clause-form : goal.returns-clause-form
returns-clause-form c =
    rw c.as_slice-columns.ensures (few_columns [] c.args.schema.now.tables c.tables-number.ensures.kept.tables c.in_ok-table.table c.table.result.now c.table.ensures)
