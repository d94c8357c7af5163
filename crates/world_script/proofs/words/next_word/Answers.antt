use Rattle.std.proofs.Common.{◌≤◌, length}
use Rattle.text_words.specs.Words.{is_blank}
use Rattle.text_words.proofs.Places.{place_inside}
use Rattle.world_script.proofs.words.next_word.Goals as goal

pub split_at-requires : goal.split_at-requires
split_at-requires c = rw c.word_length.ensures (place_inside is_blank c.skip_blanks-start.result.now)
