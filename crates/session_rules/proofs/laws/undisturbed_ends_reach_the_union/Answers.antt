use Rattle.session_rules.proofs.Exact.{is_union}
use Rattle.session_rules.proofs.laws.undisturbed_ends_reach_the_union.Goals as goal

pub returns : goal.returns
returns c limits_a limits_b p q opens run alike end_a end_b = is_union limits_a limits_b p q opens run alike end_a end_b
