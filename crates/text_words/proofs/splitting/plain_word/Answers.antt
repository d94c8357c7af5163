use Rattle.text_words.specs.Words.{is_end}
use Rattle.text_words.proofs.Places.{place_inside}
use Rattle.text_words.proofs.splitting.plain_word.Goals as goal

pub split_at-requires : goal.split_at-requires
split_at-requires c = rw c.length_to_end-length.ensures (place_inside (is_end c.args.style) c.args.rest.now)
