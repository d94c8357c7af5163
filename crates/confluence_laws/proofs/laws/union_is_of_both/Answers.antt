use Rattle.confluence_laws.proofs.Union.{union_same}
use Rattle.confluence_laws.proofs.laws.union_is_of_both.Goals as goal

pub returns : goal.returns
returns c xs ys agree = union_same xs ys agree
