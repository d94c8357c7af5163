use Rattle.table_model.proofs.Order.{same_judged}
use Rattle.confluence_laws.proofs.laws.verdicts_are_of_the_set.Goals as goal

pub returns : goal.returns
returns c rules xs ys a b same = same_judged rules xs ys a b same
