use Rattle.query_printing.proofs.Pieces.{Laws, reads_again, words_again}
use Rattle.query_printing.proofs.laws.words_are_read_again.Goals as goal

pub returns : goal.returns
returns c =
    let laws : Laws = record { rule = c.words_are_by_rule.ensures; printed = c.integers_are_as_printed.ensures; again = c.values_are_read_again.ensures } in
    record { words = words_again laws; query = reads_again laws }
