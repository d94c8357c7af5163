use Rattle.command_words.proofs.WorldRules.{unparsed}
use Rattle.command_words.proofs.world_requests.number_of.Goals as goal

pub returns-in_default-clause-said : goal.returns-in_default-clause-said
returns-in_default-clause-said c = unparsed c.args.word.now c.parse.result c.in_default.field-0 c.in_default.is c.parse.ensures.value.0
