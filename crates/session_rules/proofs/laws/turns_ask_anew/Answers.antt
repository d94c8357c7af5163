use Rattle.session_rules.proofs.AskNew.{asks_new}
use Rattle.session_rules.proofs.laws.turns_ask_anew.Goals as goal

pub returns : goal.returns
returns c limits s next before after frame out own step sent lacks = asks_new limits s before next out after own sent lacks frame step
