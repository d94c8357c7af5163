use Rattle.std.proofs.Common.{◌∙◌, arith, sym}
use Rattle.command_words.proofs.Families.{of_alone, of_audits, of_net, of_seals, of_watching, of_worlds}
use Rattle.command_words.proofs.laws.nothing_beside_worlds.Goals as goal

pub returns-clause-alone : goal.returns-clause-alone
returns-clause-alone c = λ words request other here there. let same = sym (of_alone words request here) ∙ of_worlds words other there in absurd (omega (arith, same))

pub returns-clause-over_net : goal.returns-clause-over_net
returns-clause-over_net c = λ words request other here there. let same = sym (of_net words request here) ∙ of_worlds words other there in absurd (omega (arith, same))

pub returns-clause-sealed : goal.returns-clause-sealed
returns-clause-sealed c = λ words request other here there. let same = sym (of_seals words request here) ∙ of_worlds words other there in absurd (omega (arith, same))

pub returns-clause-watched : goal.returns-clause-watched
returns-clause-watched c = λ words request other here there. let same = sym (of_watching words request here) ∙ of_worlds words other there in absurd (omega (arith, same))

pub returns-clause-audited : goal.returns-clause-audited
returns-clause-audited c = λ words request other here there. let same = sym (of_audits words request here) ∙ of_worlds words other there in absurd (omega (arith, same))
