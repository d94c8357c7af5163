use Rattle.confluence_laws.proofs.Ancestors.{same_ancestors}
use Rattle.confluence_laws.proofs.laws.judged_ancestors_are_ancestors.Goals as goal

pub returns : goal.returns
returns c = same_ancestors
