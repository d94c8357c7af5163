use Rattle.command_words.proofs.WatchRules.{are_by_rule}
use Rattle.command_words.proofs.laws.watch_requests_are_by_rule.Goals as goal

pub returns : goal.returns
returns c = are_by_rule
