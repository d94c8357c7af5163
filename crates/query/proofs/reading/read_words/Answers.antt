use Rattle.query.proofs.Saying.{say_head}
use Rattle.query.proofs.reading.read_words.Goals as goal

pub returns-in-Some-clause-wrong : goal.returns-in-Some-clause-wrong
returns-in-Some-clause-wrong c = say_head c.args.schema.now.tables c.args.words.now c.in-Some.wrong c.in-Some.ensures
