use Rattle.session_rules.proofs.Bounds.{sorted_none}
use Rattle.session_server.proofs.session.recalled_of.Goals as goal

pub returns-in_default-clause-rising : goal.returns-in_default-clause-rising
returns-in_default-clause-rising c = sorted_none
