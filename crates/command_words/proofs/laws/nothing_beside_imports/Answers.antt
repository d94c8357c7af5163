use Rattle.command_words.proofs.Importing.{of_alone, of_audits, of_looks, of_net, of_seals, of_watching, of_worlds}
use Rattle.command_words.proofs.laws.nothing_beside_imports.Goals as goal

pub returns-clause-alone : goal.returns-clause-alone
returns-clause-alone c = of_alone

pub returns-clause-over_net : goal.returns-clause-over_net
returns-clause-over_net c = of_net

pub returns-clause-sealed : goal.returns-clause-sealed
returns-clause-sealed c = of_seals

pub returns-clause-watched : goal.returns-clause-watched
returns-clause-watched c = of_watching

pub returns-clause-audited : goal.returns-clause-audited
returns-clause-audited c = of_audits

pub returns-clause-of_worlds : goal.returns-clause-of_worlds
returns-clause-of_worlds c = of_worlds

pub returns-clause-looking : goal.returns-clause-looking
returns-clause-looking c = of_looks
