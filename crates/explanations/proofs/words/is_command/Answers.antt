use Rattle.explanations.specs.Values.{commands}
use Rattle.explanations.proofs.words.is_command.Goals as goal

pub returns : goal.returns
unfolding commands
returns c = c.is_among.ensures
