use Rattle.query_answer.proofs.Unique.{one_answer_over}
use Rattle.query_answer.proofs.laws.one_answer_over.Goals as goal

pub returns : goal.returns
returns c = one_answer_over
