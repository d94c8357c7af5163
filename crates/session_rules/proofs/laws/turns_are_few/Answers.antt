use Rattle.session_rules.proofs.Bounds.{feeds_bounded, few_turns, start_a, start_b}
use Rattle.session_rules.proofs.laws.turns_are_few.Goals as goal

pub returns-clause-initiator : goal.returns-clause-initiator
returns-clause-initiator c limits database node old list now t small few feeds = few_turns t now (feeds_bounded limits _ list t now small (start_a database node old list few) feeds)

pub returns-clause-responder : goal.returns-clause-responder
returns-clause-responder c limits database node old list now t small few feeds = few_turns t now (feeds_bounded limits _ list t now small (start_b database node old list few) feeds)
