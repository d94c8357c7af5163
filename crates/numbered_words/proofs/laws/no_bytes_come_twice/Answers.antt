use Rattle.numbered_words.proofs.Drawn.{one_draw}
use Rattle.numbered_words.proofs.laws.no_bytes_come_twice.Goals as goal

pub returns : goal.returns
returns c number n i j long low below same = one_draw number n i j long low below same
