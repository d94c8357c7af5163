use Rattle.demonstration_laws.specs.Tables.{demo_text}
use Rattle.demonstration_laws.proofs.LinesAdd.{lines_read}
use Rattle.demonstration_laws.proofs.Declared.{lines_declare}
use Rattle.demonstration_laws.proofs.laws.text_declares_tables.Goals as goal

pub returns-clause-tables : goal.returns-clause-tables
returns-clause-tables c schema declares = (lines_declare c.one_expression.ensures demo_text schema lines_read declares).0

pub returns-clause-authors : goal.returns-clause-authors
returns-clause-authors c schema declares = (lines_declare c.one_expression.ensures demo_text schema lines_read declares).1
