-- Lists of nodes, newest first, and the sets that they are.
use Rattle.std.specs.Prelude.{◌≡◌, Bool, true, false, not, List, [], ◌∷◌, ◌++◌, filter, find, Option, Some}
use Rattle.std.specs.List.{list_any, list_all}
use Rattle.update_model.specs.declared.update_id.UpdateId.{UpdateId}
use Rattle.update_model.specs.Entry.{Entry, same_id}
use Rattle.update_model.specs.Node.{NodeData}

-- the node with this id
abbrev pub node_of : List NodeData → UpdateId → Option NodeData
node_of nodes id = find (λ node. same_id id node.id) nodes

-- whether a node has this id
abbrev pub holds : List NodeData → UpdateId → Bool
holds nodes id = list_any (λ node. same_id id node.id) nodes

-- After these nodes, this one is new, and each of its predecessors is held.
pub record IsNext (older : List NodeData) (node : NodeData) : Type 0 where
  pub new : holds older node.id ≡ false
  pub preds : list_all (holds older) node.preds ≡ true

-- Newest first, each node is the next one after those behind it.
abbrev pub IsClosed : List NodeData → Type 0
IsClosed [] = Unit {0}
IsClosed (node ∷ older) = IsNext older node × IsClosed older

-- Each id names the same node in both lists, or none in either.
abbrev pub IsSameSet : List NodeData → List NodeData → Type 0
IsSameSet xs ys = (id : UpdateId) → node_of xs id ≡ node_of ys id

-- Where both lists have an id, they have it for the same node.
abbrev pub Agree : List NodeData → List NodeData → Type 0
Agree xs ys = (id : UpdateId) (a b : NodeData) → node_of xs id ≡ Some a → node_of ys id ≡ Some b → a ≡ b

-- the nodes of either list, newest first
abbrev pub union : List NodeData → List NodeData → List NodeData
union xs ys = filter (λ node. not (holds xs node.id)) ys ++ xs

-- The nodes are those of these members of a graph, one of each and in the same order.
abbrev pub AreNodesOf : List Entry → List NodeData → Type 0
AreNodesOf [] [] = Unit {0}
AreNodesOf [] (node ∷ nodes) = ⊥
AreNodesOf (entry ∷ entries) [] = ⊥
AreNodesOf (entry ∷ entries) (node ∷ nodes) = (entry.id ≡ node.id) × (entry.preds ≡ node.preds) × AreNodesOf entries nodes
