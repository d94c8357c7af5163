use Rattle.command_words.proofs.WorldRules.{are_by_rule}
use Rattle.command_words.proofs.laws.world_requests_are_by_rule.Goals as goal

pub returns : goal.returns
returns c = are_by_rule
