use Rattle.std.proofs.Common.{◌≡◌, length}
use Rattle.text_words.specs.Words.{words_of}
use Rattle.text_words.proofs.WordsLemmas.{with_front, words_on}
use Rattle.text_words.proofs.splitting.words.Given as goal

-- the words so far, and those still to come, are all words
abbrev pub invariant-loop-rest : goal.invariant-loop-rest
invariant-loop-rest l = with_front l.words.items (words_on l.style l.rest) ≡ words_of l.style l.line

abbrev pub decreases-loop-rest : goal.decreases-loop-rest
decreases-loop-rest l = length l.rest
