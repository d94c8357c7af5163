-- Each box lies below those of its predecessors.
use Rattle.std.proofs.Common.{◌≡◌, ℕ, zero, suc, ◌<◌, true, List, [], ◌∷◌, drop, sym, ◌∙◌, ap, arith, Contains, Some, All}
use Rattle.std.specs.List.{AllByRecursion}
use Rattle.std.proofs.lemmas.List.Elements.{All-contains, All-from_recursion}
use Rattle.std.proofs.lemmas.List.Sorted.{IsPermutation-sym}
use Rattle.update_model.specs.Graph.{has}
use Rattle.update_model.specs.Node.{NodeData}
use Rattle.table_model.specs.Nodes.{node_of, IsClosed}
use Rattle.confluence_laws.proofs.SameTables.{permuted_on}
use Rattle.graph_drawing.specs.declared.placed.Placed.{Placed}
use Rattle.graph_drawing.specs.declared.spot.Spot.{Spot}
use Rattle.graph_drawing.specs.Boxes.{arranged, drawn, omitted}
use Rattle.graph_drawing.specs.Depths.{AreInOrder, depth_in, placed_in}
use Rattle.graph_drawing.specs.Told.{Told}
use Rattle.graph_drawing.proofs.Columns.{each_box}
use Rattle.graph_drawing.proofs.DepthFacts.{depth_is, found_id, from_nodes}
use Rattle.graph_drawing.proofs.Greatest.{each-le}

-- the node is found by its id, and this is its depth
pub record IsPlaced (nodes : List NodeData) (placed : Placed) : Type 0 where
  pub found : node_of nodes placed.node.id ≡ Some placed.node
  pub depth : placed.depth ≡ depth_in nodes placed.node.id

each_dropped : (P : Placed → Type 0) (n : ℕ) (placed : List Placed) → AllByRecursion P placed → AllByRecursion P (drop n placed)
each_dropped P zero placed h = h
each_dropped P (suc n) [] h = tt
each_dropped P (suc n) (p ∷ placed) h = each_dropped P n placed h.1

all_placed : (nodes : List NodeData) (placed : List Placed) → IsClosed nodes → AreInOrder nodes placed → AllByRecursion (IsPlaced nodes) placed
all_placed nodes placed c order =
    (permuted_on (placed_in nodes) placed (IsPermutation-sym placed (placed_in nodes) order.exact)).on (IsPlaced nodes)
    (from_nodes (IsPlaced nodes) nodes c (λ id node e.
    let same : id ≡ node.id = found_id nodes id node e in
    record { found = sym (ap (node_of nodes) same) ∙ e; depth = ap (depth_in nodes) same }))

pub boxes_below : (nodes : List NodeData) (placed : List Placed) (told : Told) (spot other : Spot) → IsClosed nodes → AreInOrder nodes placed
    → Contains (arranged told (drawn placed)).spots spot → Contains (arranged told (drawn placed)).spots other
    → has spot.node.preds other.node.id ≡ true → other.depth < spot.depth
boxes_below nodes placed told spot other c order there too named =
    let P : Spot → Type 0 = λ s. IsPlaced nodes (record { depth = s.depth; node = s.node }) in
    let each : AllByRecursion P (arranged told (drawn placed)).spots =
    each_box (IsPlaced nodes) told (record { spots = []; width = 0 }) (drawn placed) tt (each_dropped (IsPlaced nodes) (omitted placed) placed (all_placed nodes placed c order)) in
    let all : All P (arranged told (drawn placed)).spots = All-from_recursion P (arranged told (drawn placed)).spots each in
    let here : P spot = All-contains P (arranged told (drawn placed)).spots spot all there in
    let higher : P other = All-contains P (arranged told (drawn placed)).spots other all too in
    let most = each-le (depth_in nodes) 0 spot.node.preds other.node.id named in
    let is = depth_is nodes c spot.node.id spot.node here.found in
    let e = here.depth in
    let f = higher.depth in
    omega (arith, most, is, e, f)
