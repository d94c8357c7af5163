use Rattle.std.proofs.Common.{◌≡◌, length}
use Rattle.text_words.specs.Quoted.{text_at}
use Rattle.text_words.proofs.Texts.{with_front}
use Rattle.text_words.proofs.quoting.text_of.Given as goal

-- the text so far, and what is still read, are the whole text
abbrev pub invariant-loop-byte : goal.invariant-loop-byte
invariant-loop-byte l = with_front l.text.items (text_at l.rest) ≡ text_at l.bytes

abbrev pub decreases-loop-byte : goal.decreases-loop-byte
decreases-loop-byte l = length l.rest
