use Rattle.command_words.proofs.NetRules.{one_only}
use Rattle.command_words.proofs.laws.one_net_request.Goals as goal

pub returns : goal.returns
returns c = one_only
