use Rattle.command_words.proofs.Rules.{are_by_rule}
use Rattle.command_words.proofs.laws.requests_are_by_rule.Goals as goal

pub returns : goal.returns
returns c = are_by_rule
