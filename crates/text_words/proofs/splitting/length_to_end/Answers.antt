use Rattle.std.proofs.Common.{◌∙◌, ap, length}
use Rattle.std.specs.Prelude.{unwrap_or}
use Rattle.text_words.specs.Words.{is_end}
use Rattle.text_words.proofs.Places.{place_or_end}
use Rattle.text_words.proofs.splitting.length_to_end.Goals as goal

pub returns : goal.returns
returns c = c.unwrap_or.ensures ∙ (ap (λ place. unwrap_or place (length c.args.bytes.now)) c.place_of_end.ensures ∙ place_or_end (is_end c.args.style) c.args.bytes.now)
