use Rattle.std.proofs.Common.{◌≡◌, ◌*◌, take, w64}
use Rattle.std.specs.Int.{to_be_bytes}
use Rattle.rand_core.specs.Steps.{word_bytes}
use Rattle.numbered_words.specs.Numbered.{next_word}
use Rattle.numbered_words.proofs.words.fill_words.Given as goal

-- what is filled is the bytes of the words so far
abbrev pub invariant-words : goal.invariant-words
invariant-words l = (take (8 * l.i) l.dst, l.words) ≡ word_bytes (to_be_bytes w64) next_word l.i l.fn.words
