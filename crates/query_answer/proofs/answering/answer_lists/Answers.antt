use Rattle.query_answer.proofs.Lending.{lists_listed}
use Rattle.query_answer.proofs.answering.answer_lists.Goals as goal

pub returns : goal.returns
returns g c = λ rising. c.in_ok-answer.ensures c.args.tables.now (lists_listed c.args.tables rising)
