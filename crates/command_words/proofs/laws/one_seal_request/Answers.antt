use Rattle.command_words.proofs.SealRules.{one_only}
use Rattle.command_words.proofs.laws.one_seal_request.Goals as goal

pub returns : goal.returns
returns c = one_only
