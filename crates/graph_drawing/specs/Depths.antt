-- How deep the updates of a graph lie, and their order in a picture. Lists of nodes stand newest first.
use Rattle.std.specs.Prelude.{ℕ, ◌+◌, max, cond, List, [], ◌∷◌, map, reverse}
use Rattle.std.specs.declared.cmp.Ordering.{Ordering}
use Rattle.std.specs.List.{fold}
use Rattle.std.specs.List.Sorted.{IsPermutation, IsStrictlySortedBy}
use Rattle.std.specs.Ordering.{nat_cmp, ordering_then}
use Rattle.update_model.specs.declared.update_id.UpdateId.{UpdateId}
use Rattle.update_model.specs.Entry.{id_cmp, same_id}
use Rattle.update_model.specs.Node.{NodeData}
use Rattle.update_check.specs.Signed.{node_of}
use Rattle.graph_drawing.specs.declared.placed.Placed.{Placed}

-- the nodes of the members of a graph
abbrev pub nodes_of : List (List ℕ) → List NodeData
nodes_of members = reverse (map node_of members)

-- the greatest of these numbers, or 0
abbrev pub greatest : List ℕ → ℕ
greatest numbers = fold max 0 numbers

-- The depth of the node with this id: one more than the greatest depth of its predecessors. An id that none has lies at 0.
abbrev pub depth_in : List NodeData → UpdateId → ℕ
depth_in [] id = 0
depth_in (node ∷ older) id = cond (same_id node.id id) (1 + greatest (map (depth_in older) node.preds)) (depth_in older id)

-- each node with its depth
abbrev pub placed_in : List NodeData → List Placed
placed_in [] = []
placed_in (node ∷ older) = record { depth = 1 + greatest (map (depth_in older) node.preds); node = node } ∷ placed_in older

-- a node's place in the order: its depth, and then its id
abbrev pub rank : Placed → ℕ × UpdateId
rank placed = (placed.depth, placed.node.id)

abbrev pub rank_cmp : ℕ × UpdateId → ℕ × UpdateId → Ordering
rank_cmp a b = ordering_then (nat_cmp a.0 b.0) (id_cmp a.1 b.1)

-- These are the nodes with their depths, each above the one before it in the order of depth and id.
pub record AreInOrder (nodes : List NodeData) (placed : List Placed) : Type 0 where
  pub rising : IsStrictlySortedBy rank_cmp (map rank placed)
  pub exact : IsPermutation placed (placed_in nodes)
