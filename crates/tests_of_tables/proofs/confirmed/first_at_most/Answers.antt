use Rattle.confluence_checker.proofs.Singles.{at_most_first}
use Rattle.tests_of_tables.proofs.confirmed.first_at_most.Goals as goal

pub returns : goal.returns
returns c = λ ask. at_most_first c.args.schema.now.tables c.table-table.result.now c.table-table.ensures c.if-table-eq0.false ask
