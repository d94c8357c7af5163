use Rattle.confluence_laws.proofs.Union.{union_closed}
use Rattle.confluence_laws.proofs.laws.union_is_closed.Goals as goal

pub returns : goal.returns
returns c xs ys a b = union_closed xs ys a b
