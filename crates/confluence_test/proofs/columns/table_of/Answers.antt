use Rattle.confluence_test.proofs.Sounds.{sound_at}
use Rattle.confluence_test.proofs.columns.table_of.Goals as goal

pub returns-clause-columns : goal.returns-clause-columns
returns-clause-columns c = (sound_at c.args.schema.now.tables c.tables-tables.ensures.kept.tables c.args.number c.table.result.now c.table.ensures).columns

pub returns-clause-few_columns : goal.returns-clause-few_columns
returns-clause-few_columns c = (sound_at c.args.schema.now.tables c.tables-tables.ensures.kept.tables c.args.number c.table.result.now c.table.ensures).few_columns

pub returns-clause-few_rows : goal.returns-clause-few_rows
returns-clause-few_rows c = (sound_at c.args.schema.now.tables c.tables-tables.ensures.kept.tables c.args.number c.table.result.now c.table.ensures).few_rows

pub returns-clause-kept : goal.returns-clause-kept
returns-clause-kept c = (sound_at c.args.schema.now.tables c.tables-tables.ensures.kept.tables c.args.number c.table.result.now c.table.ensures).kept
