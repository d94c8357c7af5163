use Rattle.confluence_test.proofs.Unlimited.{unlimited_from}
use Rattle.confluence_test.proofs.laws.accepted_is_unlimited.Goals as goal

pub returns : goal.returns
returns c = λ rules all. unlimited_from rules 0 rules.tables all
