use Rattle.std.proofs.Common.{length}
use Rattle.std.specs.List.{AllByRecursion}
use Rattle.update_model.specs.Rows.{IsValue}
use Rattle.text_words.specs.Words.{skip_blanks}
use Rattle.txn_text.specs.Operations.{Write}
use Rattle.txn_text.proofs.operations.values_in.Given as goal

-- the values so far are those of the words that were read
abbrev pub invariant-loop-values : goal.invariant-loop-values
invariant-loop-values l = record {
  write : Write l.verb l.before l.rest l.values.items l.left;
  form : AllByRecursion (IsValue l.before) l.values.items;
}

abbrev pub decreases-loop-values : goal.decreases-loop-values
decreases-loop-values l = length (skip_blanks l.left)
