-- Two closed lists as a counterexample.
use Rattle.std.specs.Prelude.{not, List, filter, reverse}
use Rattle.update_model.specs.Node.{NodeData}
use Rattle.table_model.specs.declared.counterexample.Counterexample.{Counterexample}
use Rattle.table_model.specs.Nodes.{holds}

-- the nodes of one list that the other one has too
abbrev pub shared : List NodeData → List NodeData → List NodeData
shared xs ys = filter (λ node. holds ys node.id) xs

-- those that are not among these
abbrev pub besides : List NodeData → List NodeData → List NodeData
besides base xs = filter (λ node. not (holds base node.id)) xs

-- what both lists have, and what each has besides
abbrev pub parted : List NodeData → List NodeData → Counterexample
parted xs ys = let base = shared xs ys in record { base = reverse base; left = reverse (besides base xs); right = reverse (besides base ys) }
