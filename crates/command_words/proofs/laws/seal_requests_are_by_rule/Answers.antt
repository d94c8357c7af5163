use Rattle.command_words.proofs.SealRules.{are_by_rule}
use Rattle.command_words.proofs.laws.seal_requests_are_by_rule.Goals as goal

pub returns : goal.returns
returns c = are_by_rule
