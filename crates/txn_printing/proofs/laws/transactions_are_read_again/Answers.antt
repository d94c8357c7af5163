use Rattle.txn_printing.proofs.Lines.{reads_again}
use Rattle.txn_printing.proofs.laws.transactions_are_read_again.Goals as goal

pub returns : goal.returns
returns c = reads_again (record {
  rule = c.words_are_by_rule.ensures;
  printed = c.integers_are_as_printed.ensures;
  again = c.values_are_read_again.ensures;
  names = c.names_are_read_again.ensures;
})
