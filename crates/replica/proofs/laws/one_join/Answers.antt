use Rattle.replica.proofs.Once.{joined_once, joined_or_none, joined_or_refused, none_or_refused, one_join_cause}
use Rattle.replica.proofs.laws.one_join.Goals as goal

pub returns : goal.returns
returns c = record {
  joined = joined_once;
  refused = one_join_cause;
  joined_or_none = joined_or_none;
  joined_or_refused = joined_or_refused;
  none_or_refused = none_or_refused;
}
