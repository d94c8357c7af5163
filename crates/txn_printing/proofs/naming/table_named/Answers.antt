use Rattle.std.proofs.Common.{◌∙◌}
use Rattle.txn_printing.proofs.Named.{named_by, named_none}
use Rattle.txn_printing.proofs.naming.table_named.Goals as goal

pub returns-in-Ok : goal.returns-in-Ok
returns-in-Ok c = c.table_named.ensures ∙ named_by c.args.schema.now.tables c.args.name.now c.in-Ok.name.now c.in-Ok.ensures.cases.0 c.in-Ok.ensures.cases.1

pub returns-in-Err : goal.returns-in-Err
returns-in-Err c = named_none c.args.schema.now.tables c.args.name.now c.in-Err.ensures.cases.0
