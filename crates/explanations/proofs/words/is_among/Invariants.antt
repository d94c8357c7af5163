use Rattle.std.proofs.Common.{◌≡◌, length}
use Rattle.explanations.specs.Parts.{parts_of, has_word}
use Rattle.explanations.proofs.words.is_among.Given as goal

-- the words that are left have it where all have
abbrev pub invariant-loop-other : goal.invariant-loop-other
invariant-loop-other l = has_word l.word (parts_of 32 l.rest) ≡ has_word l.word (parts_of 32 l.list)

abbrev pub decreases-loop-other : goal.decreases-loop-other
decreases-loop-other l = length l.rest
