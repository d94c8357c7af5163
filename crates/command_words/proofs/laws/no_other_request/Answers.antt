use Rattle.command_words.proofs.NetRules.{not_both}
use Rattle.command_words.proofs.laws.no_other_request.Goals as goal

pub returns : goal.returns
returns c = not_both
