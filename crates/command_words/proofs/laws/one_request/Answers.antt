use Rattle.command_words.proofs.Rules.{one_only}
use Rattle.command_words.proofs.laws.one_request.Goals as goal

pub returns : goal.returns
returns c = one_only
