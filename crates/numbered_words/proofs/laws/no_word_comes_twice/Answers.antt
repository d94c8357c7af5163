use Rattle.numbered_words.proofs.Mixing.{one_place}
use Rattle.numbered_words.proofs.laws.no_word_comes_twice.Goals as goal

pub returns : goal.returns
returns c number i j low below same = one_place number i j low below same
