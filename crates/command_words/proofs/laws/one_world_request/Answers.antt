use Rattle.command_words.proofs.WorldRules.{one_only}
use Rattle.command_words.proofs.laws.one_world_request.Goals as goal

pub returns : goal.returns
returns c = one_only
