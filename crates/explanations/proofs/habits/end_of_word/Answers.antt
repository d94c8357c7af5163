use Rattle.std.proofs.Common.{◌∙◌, ap, length}
use Rattle.std.specs.Prelude.{unwrap_or}
use Rattle.explanations.specs.Habits.{ends_habit}
use Rattle.explanations.proofs.Places.{place_or_end}
use Rattle.explanations.proofs.habits.end_of_word.Goals as goal

pub returns : goal.returns
returns c = c.unwrap_or.ensures ∙ (ap (λ place. unwrap_or place (length c.args.text.now)) c.place_of_end.ensures ∙ place_or_end ends_habit c.args.text.now)
