-- A graph in the order of arrival, and its nodes newest first.
use Rattle.std.proofs.Common.{◌≡◌, ℕ, zero, suc, ◌+◌, ◌≤◌, Bool, true, false, cond, List, [], ◌∷◌, ◌++◌, length, map, reverse, take, refl, sym, ◌∙◌, ap, arith, Some, slice_get}
use Rattle.std.specs.BTreeMap.{get, BTreeMap, Updates}
use Rattle.std.specs.Option.{unwrap_or}
use Rattle.std.proofs.lemmas.List.{length-map, length-reverse, map-append, reverse-append}
use Rattle.update_model.specs.declared.update_id.UpdateId.{UpdateId}
use Rattle.update_model.specs.Entry.{id_cmp, same_id}
use Rattle.update_model.specs.Node.{NodeData}
use Rattle.graph_drawing.specs.declared.placed.Placed.{Placed}
use Rattle.update_codec.specs.Parts.{entry_of}
use Rattle.update_check.specs.Signed.{node_of}
use Rattle.table_model.specs.Nodes.{AreNodesOf}
use Rattle.graph_drawing.specs.Depths.{depth_in, greatest, nodes_of, placed_in}

pub are_nodes : (members : List (List ℕ)) → AreNodesOf (map entry_of members) (map node_of members)
are_nodes [] = tt
are_nodes (member ∷ members) = (refl, refl, are_nodes members)

take_next : (graph : List (List ℕ)) (i : ℕ) (bytes : List ℕ) → slice_get graph i ≡ Some bytes → take (suc i) graph ≡ take i graph ++ bytes ∷ []
take_next [] i bytes e = absurd (cc)
take_next (b ∷ graph) zero bytes e = let same : b ≡ bytes = cc in ap (λ x. x ∷ []) same
take_next (b ∷ graph) (suc i) bytes e = ap (λ l. b ∷ l) (take_next graph i bytes e)

-- one more member
pub nodes_next : (graph : List (List ℕ)) (i : ℕ) (bytes : List ℕ) → slice_get graph i ≡ Some bytes → nodes_of (take (i + 1) graph) ≡ node_of bytes ∷ nodes_of (take i graph)
nodes_next graph i bytes e =
    let more : i + 1 ≡ suc i = omega arith in
    ap (λ k. nodes_of (take k graph)) more
    ∙ ap (λ l. reverse (map node_of l)) (take_next graph i bytes e)
    ∙ ap reverse (map-append node_of (take i graph) (bytes ∷ []))
    ∙ reverse-append (map node_of (take i graph)) (node_of bytes ∷ [])

-- so many of them at most
pub nodes-le : (graph : List (List ℕ)) (count : ℕ) → length (nodes_of (take count graph)) ≤ count
nodes-le graph count =
    let turned = length-reverse (map node_of (take count graph)) in
    let made = length-map (take count graph) node_of in
    let low = length_front graph count in
    omega (arith, turned, made, low)
  where
    length_front : (l : List (List ℕ)) (k : ℕ) → length (take k l) ≤ k
    length_front l zero = omega arith
    length_front [] (suc k) = omega arith
    length_front (x ∷ l) (suc k) = let rest = length_front l k in omega (arith, rest)

-- one more depth is known
pub known_next : (older : List NodeData) (node : NodeData) (before after : BTreeMap UpdateId ℕ) (depth : ℕ) → ((id : UpdateId) → unwrap_or (get id_cmp before id) 0 ≡ depth_in older id)
    → depth ≡ 1 + greatest (map (λ id. unwrap_or (get id_cmp before id) 0) node.preds) → Updates id_cmp before after node.id (Some depth)
    → (id : UpdateId) → unwrap_or (get id_cmp after id) 0 ≡ depth_in (node ∷ older) id
known_next older node before after depth known is updates id = ap (λ o. unwrap_or o 0) (updates.0 id) ∙ by (same_id node.id id)
  where
    by : (b : Bool) → unwrap_or (cond b (Some depth) (get id_cmp before id)) 0 ≡ cond b (1 + greatest (map (depth_in older) node.preds)) (depth_in older id)
    by true = is ∙ (λ i. 1 + greatest (map (λ q. known q i) node.preds))
    by false = known id

-- one more node is placed
pub placed_next : (older : List NodeData) (node : NodeData) (known : UpdateId → ℕ) (depth : ℕ) (before after : List Placed) → ((id : UpdateId) → known id ≡ depth_in older id)
    → depth ≡ 1 + greatest (map known node.preds) → before ≡ reverse (placed_in older) → after ≡ before ++ record { depth = depth; node = node } ∷ [] → after ≡ reverse (placed_in (node ∷ older))
placed_next older node known depth before after agree is so_far added =
    let here : depth ≡ 1 + greatest (map (depth_in older) node.preds) = is ∙ (λ i. 1 + greatest (map (λ q. agree q i) node.preds)) in
    added ∙ (λ i. so_far i ++ record { depth = here i; node = node } ∷ [])
    ∙ sym (reverse-append (record { depth = 1 + greatest (map (depth_in older) node.preds); node = node } ∷ []) (placed_in older))
