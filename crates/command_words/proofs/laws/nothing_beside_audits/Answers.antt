use Rattle.std.proofs.Common.{◌∙◌, arith, sym}
use Rattle.command_words.proofs.Families.{of_alone, of_audits, of_net}
use Rattle.command_words.proofs.laws.nothing_beside_audits.Goals as goal

pub returns-clause-alone : goal.returns-clause-alone
returns-clause-alone c = λ words request other here there. let same = sym (of_alone words request here) ∙ of_audits words other there in absurd (omega (arith, same))

pub returns-clause-over_net : goal.returns-clause-over_net
returns-clause-over_net c = λ words request other here there. let same = sym (of_net words request here) ∙ of_audits words other there in absurd (omega (arith, same))
