use Rattle.query_answer.specs.Answers.{data_of}
use Rattle.outcomes.specs.Rules.{nodes_of}
use Rattle.look_commands.proofs.answers.csv_over.Goals as goal

pub returns-clause-answer : goal.returns-clause-answer
returns-clause-answer c = (data_of c.in_ok-found.found, c.in_ok-found.ensures (nodes_of c.args.members.graph.now) c.requires, c.in_ok-lines.ensures)
