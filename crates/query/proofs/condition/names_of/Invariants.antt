use Rattle.std.proofs.Common.{◌≡◌, drop}
use Rattle.query.specs.Columns.{names_of, with_names}
use Rattle.query.proofs.condition.names_of.Given as goal

-- the names so far and those of the words that are left are those of all
abbrev pub invariant-loop-word : goal.invariant-loop-word
invariant-loop-word l = with_names l.names.items (drop l.word-index l.words) ≡ names_of l.words
