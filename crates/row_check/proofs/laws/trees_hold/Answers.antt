use Rattle.row_check.proofs.Trees.{holds_as_tree}
use Rattle.row_check.proofs.laws.trees_hold.Goals as goal

pub returns : goal.returns
returns c = holds_as_tree
