use Rattle.std.proofs.Common.{◌∙◌}
use Rattle.txn_text.proofs.Tables.{named_by, named_none}
use Rattle.txn_text.proofs.heads.table_named.Goals as goal

pub returns-in-Ok-clause-found : goal.returns-in-Ok-clause-found
returns-in-Ok-clause-found c =
    c.table_named.ensures ∙ named_by c.args.schema.now.tables c.args.name.now c.in-Ok.name.now c.in-Ok.ensures.cases.0 c.in-Ok.ensures.cases.1

pub returns-in-Err-clause-found : goal.returns-in-Err-clause-found
returns-in-Err-clause-found c = named_none c.args.schema.now.tables c.args.name.now c.in-Err.ensures.cases.0
