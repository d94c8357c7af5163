use Rattle.std.proofs.Common.{sym, subst}
use Rattle.std.specs.Prelude.{IsTrue}
use Rattle.table_model.specs.declared.counterexample.Counterexample.{Counterexample}
use Rattle.confluence_laws.specs.Confluence.{confirms}
use Rattle.table_model.specs.Invariants.{claims_of}
use Rattle.confluence_test.proofs.laws.refused_is_confirmed.Goals as goal

pub returns : goal.returns
returns c rules which example refused tables pass =
    subst (λ (x : Counterexample). IsTrue (confirms rules (claims_of refused.earlier) refused.declared.claim x)) (sym refused.built)
    (c.first_refused_is_confirmed.ensures rules refused.earlier refused.first.later refused.declared tables pass refused.first.split refused.first.accepted refused.first.refused)
