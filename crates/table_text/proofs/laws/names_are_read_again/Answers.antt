use Rattle.table_text.proofs.ReadNames.{name_read}
use Rattle.table_text.proofs.laws.names_are_read_again.Goals as goal

pub returns : goal.returns
returns c = name_read c.integers_are_as_printed.ensures
