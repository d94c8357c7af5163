use Rattle.query_answer.proofs.Seeing.{values_seen}
use Rattle.query_answer.proofs.laws.values_are_seen.Goals as goal

pub returns : goal.returns
returns c = values_seen
