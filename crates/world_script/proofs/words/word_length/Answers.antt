use Rattle.std.proofs.Common.{◌∙◌, ap, length}
use Rattle.std.specs.Prelude.{unwrap_or}
use Rattle.text_words.specs.Words.{is_blank}
use Rattle.text_words.proofs.Places.{place_or_end}
use Rattle.world_script.proofs.words.word_length.Goals as goal

pub returns : goal.returns
returns c = c.unwrap_or.ensures ∙ (ap (λ place. unwrap_or place (length c.args.start.now)) c.place_of_blank.ensures ∙ place_or_end is_blank c.args.start.now)
