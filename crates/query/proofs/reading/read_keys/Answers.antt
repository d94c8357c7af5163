use Rattle.std.proofs.Common.{sym, ◌∙◌}
use Rattle.query.specs.Outcome.{data_of}
use Rattle.query.proofs.Saying.{say_lost, say_whole}
use Rattle.query.proofs.reading.read_keys.Goals as goal

pub returns-in-Some-clause-wrong : goal.returns-in-Some-clause-wrong
returns-in-Some-clause-wrong c = say_lost c.args.schema.now.tables c.args.words.now c.args.condition c.in-Some.wrong c.requires.head c.requires.condition (sym c.in-Some.ensures)

pub returns-clause-found : goal.returns-clause-found
returns-clause-found c =
    say_whole c.args.schema.now.tables c.args.words.now c.args.condition (data_of c.in_ok-query.query) c.requires.head c.requires.condition (sym c.lost_key.ensures ∙ c.in_default.is) c.in_ok-query.ensures
