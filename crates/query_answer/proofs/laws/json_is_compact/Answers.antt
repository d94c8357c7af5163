use Rattle.query_answer.proofs.Compact.{compact}
use Rattle.query_answer.proofs.laws.json_is_compact.Goals as goal

pub returns : goal.returns
returns c = compact
