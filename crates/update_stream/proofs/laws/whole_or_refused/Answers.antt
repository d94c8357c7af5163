use Rattle.update_stream.proofs.Once.{whole_and_refused}
use Rattle.update_stream.proofs.laws.whole_or_refused.Goals as goal

pub returns : goal.returns
returns c given input rest members n fault a b = whole_and_refused c.no_cause.ensures given input rest members n fault a b
