use Rattle.std.proofs.Common.{◌≡◌, ◌++◌, length}
use Rattle.explanations.specs.Rows.{laid, words_from, words_of}
use Rattle.explanations.specs.Values.{value_of}
use Rattle.explanations.proofs.rows.push_rows.Given as goal

-- what stands in rows so far, the row and the word that were begun, and the rest of the text are all of it
abbrev pub invariant-loop-rest : goal.invariant-loop-rest
invariant-loop-rest l =
    let value = value_of l.values.marks l.values.help.now l.values.directory.now l.values.other.now in
    l.out.items ++ laid l.row.items (words_from value l.inside l.word.items l.rest) ≡ l.fn.out.items ++ laid l.front (words_of value l.text)

abbrev pub decreases-loop-rest : goal.decreases-loop-rest
decreases-loop-rest l = length l.rest
