use Rattle.std.proofs.Common.{◌≡◌, length}
use Rattle.std.specs.Prelude.{map, string_bytes}
use Rattle.explanations.specs.Run.{word_from, word_placed}
use Rattle.explanations.proofs.runs.word_at.Given as goal

-- the words that are left have the word
abbrev pub invariant-loop-rest : goal.invariant-loop-rest
invariant-loop-rest l = word_from l.takes l.ended l.left (map string_bytes l.rest) ≡ word_placed (map string_bytes l.words) l.fn.place

abbrev pub decreases-loop-rest : goal.decreases-loop-rest
decreases-loop-rest l = length l.rest
