use Rattle.command_words.proofs.WatchRules.{one_only}
use Rattle.command_words.proofs.laws.one_watch_request.Goals as goal

pub returns : goal.returns
returns c = one_only
