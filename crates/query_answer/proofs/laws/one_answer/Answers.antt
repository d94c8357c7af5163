use Rattle.query_answer.proofs.Unique.{one_answer}
use Rattle.query_answer.proofs.laws.one_answer.Goals as goal

pub returns : goal.returns
returns c = one_answer
