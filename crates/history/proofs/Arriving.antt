-- A graph in the order of arrival, and its nodes newest first.
use Rattle.std.proofs.Common.{◌≡◌, ℕ, zero, suc, ◌+◌, ◌<◌, ◌≤◌, Bool, true, false, cond, ◌||◌, List, [], ◌∷◌, ◌++◌, length, map, reverse, take, drop, refl, sym, ◌∙◌, ap, subst, arith, inl, inr, ◌⊎◌, Option, Some, None, All, slice_get, option_map}
use Rattle.std.specs.List.{filter_map, position_from}
use Rattle.std.proofs.lemmas.Bool.{or_cases}
use Rattle.std.proofs.lemmas.List.{length-map, length-reverse, map-append, reverse-append, take-append-drop}
use Rattle.std.proofs.lemmas.List.Elements.{All-from_recursion}
use Rattle.std.proofs.lemmas.List.Folds.{list_any-append}
use Rattle.std.proofs.lemmas.Option.{slice_get_within}
use Rattle.update_model.specs.declared.update_id.UpdateId.{UpdateId}
use Rattle.update_model.specs.Entry.{Entry, same_id}
use Rattle.update_model.specs.Graph.{IsClosed as IsClosedGraph, Follows}
use Rattle.update_model.specs.Node.{NodeData}
use Rattle.update_model.proofs.Ids.{id_from_same}
use Rattle.update_codec.specs.Parts.{entry_of, id_of, preds_of}
use Rattle.update_check.specs.Signed.{node_of}
use Rattle.ancestry.specs.Walks.{AreLower, is_ancestor}
use Rattle.table_model.specs.Nodes.{AreNodesOf, holds, IsClosed, IsNext}
use Rattle.table_model.specs.Visible.{Rules}
use Rattle.tuple_state.specs.Past.{IsPastOf}
use Rattle.history.specs.Arrivals.{nodes_before, place_in, places_before, places_of}
use Rattle.history.proofs.Places.{IsAt, at_last, at_shift}
use Rattle.history.proofs.Ancestors.{IsPlaced, before_lower, each_node, length-places, next_ancestors, places_low}

pub are_nodes : (members : List (List ℕ)) → AreNodesOf (map entry_of members) (map node_of members)
are_nodes [] = tt
are_nodes (b ∷ members) = (refl, refl, are_nodes members)

-- what is closed is closed in front
follows_front : (before xs ys : List Entry) → Follows before (xs ++ ys) → Follows before xs
follows_front before [] ys f = tt
follows_front before (x ∷ xs) ys f = (f.0, follows_front (before ++ x ∷ []) xs ys f.1)

pub front_closed : (graph : List (List ℕ)) (count : ℕ) → IsClosedGraph (map entry_of graph) → Follows [] (map entry_of (take count graph))
front_closed graph count closed =
    follows_front [] (map entry_of (take count graph)) (map entry_of (drop count graph))
    (subst (Follows []) (sym (ap (map entry_of) (take-append-drop count graph)) ∙ map-append entry_of (take count graph) (drop count graph)) closed)

-- one more in front of a list that is turned round
last_first : (n : NodeData) (ns : List NodeData) → reverse (n ∷ ns) ≡ reverse ns ++ n ∷ []
last_first n ns = reverse-append (n ∷ []) ns

pub length-nodes : (graph : List (List ℕ)) (count : ℕ) → count ≤ length graph → length (nodes_before graph count) ≡ count
length-nodes graph count low =
    length-reverse (map node_of (take count graph)) ∙ length-map (take count graph) node_of ∙ length_front graph count low
  where
    length_front : (l : List (List ℕ)) (k : ℕ) → k ≤ length l → length (take k l) ≡ k
    length_front l zero low = refl
    length_front [] (suc k) low = absurd (omega arith)
    length_front (x ∷ l) (suc k) low = ap suc (length_front l k (omega arith))

pub take_next : (graph : List (List ℕ)) (i : ℕ) (bytes : List ℕ) → slice_get graph i ≡ Some bytes → take (suc i) graph ≡ take i graph ++ bytes ∷ []
take_next [] i bytes e = absurd (cc)
take_next (b ∷ graph) zero bytes e = let same : b ≡ bytes = cc in ap (λ x. x ∷ []) same
take_next (b ∷ graph) (suc i) bytes e = ap (λ l. b ∷ l) (take_next graph i bytes e)

pub nodes_next : (graph : List (List ℕ)) (i : ℕ) (bytes : List ℕ) → slice_get graph i ≡ Some bytes → nodes_before graph (i + 1) ≡ node_of bytes ∷ nodes_before graph i
nodes_next graph i bytes e =
    let more : i + 1 ≡ suc i = omega arith in
    ap (λ k. nodes_before graph k) more
    ∙ ap (λ l. reverse (map node_of l)) (take_next graph i bytes e)
    ∙ ap reverse (map-append node_of (take i graph) (bytes ∷ []))
    ∙ reverse-append (map node_of (take i graph)) (node_of bytes ∷ [])

-- ---- positions

held_cases : (b : List ℕ) (front : List (List ℕ)) (id : UpdateId) → holds (reverse (map node_of (b ∷ front))) id ≡ true
    → (holds (reverse (map node_of front)) id ≡ true) ⊎ (same_id id (id_of b) ≡ true)
held_cases b front id held =
    let ns = reverse (map node_of front) in
    let split : (holds ns id || (same_id id (id_of b) || false)) ≡ true =
    sym (ap (λ l. holds l id) (last_first (node_of b) (map node_of front)) ∙ list_any-append (λ n. same_id id n.id) ns (node_of b ∷ [])) ∙ held in
    elim (or_cases (holds ns id) _ split) [
      | inl there ↦ inl there
      | inr last ↦ elim (or_cases (same_id id (id_of b)) false last) [ inl same ↦ inr same | inr none ↦ absurd (cc) ]
    ]

-- what is held in front is found there
found_in_front : (front more : List (List ℕ)) (id : UpdateId) (from : ℕ) → holds (reverse (map node_of front)) id ≡ true
    → (k : ℕ) × (position_from (λ e. same_id id e.id) from (map entry_of (front ++ more)) ≡ Some (from + k)) × IsAt (reverse (map node_of front)) id k
found_in_front [] more id from held = absurd (cc)
found_in_front (b ∷ front) more id from held =
    let turned = sym (last_first (node_of b) (map node_of front)) in
    let step : (t : Bool) → same_id id (id_of b) ≡ t
    → (k : ℕ) × (cond t (Some from) (position_from (λ e. same_id id e.id) (from + 1) (map entry_of (front ++ more))) ≡ Some (from + k)) × IsAt (reverse (map node_of (b ∷ front))) id k =
    elim [
      | true ↦ λ same. (
        0,
        ap Some (omega arith),
        subst (λ (l : List NodeData). IsAt l id 0) turned
            (subst (λ (x : UpdateId). IsAt (reverse (map node_of front) ++ node_of b ∷ []) x 0) (sym (id_from_same id (id_of b) same)) (at_last (reverse (map node_of front)) (node_of b))),
      )
      | false ↦ λ apart.
          let there : holds (reverse (map node_of front)) id ≡ true = elim (held_cases b front id held) [ inl there ↦ there | inr same ↦ absurd (cc) ] in
          let spot = found_in_front front more id (from + 1) there in
          (suc spot.0, spot.1 ∙ ap Some (omega arith), subst (λ (l : List NodeData). IsAt l id (suc spot.0)) turned (at_shift (reverse (map node_of front)) (node_of b) id spot.0 spot.2))
    ] in
    step (same_id id (id_of b)) refl

pub front_placed : (graph : List (List ℕ)) (count : ℕ) → IsPlaced (place_in graph) (nodes_before graph count)
front_placed graph count = record {
  at = λ id held.
      let spot = found_in_front (take count graph) (drop count graph) id 0 held in
      let whole : place_in graph id ≡ position_from (λ e. same_id id e.id) 0 (map entry_of (take count graph ++ drop count graph)) =
      ap (λ l. position_from (λ e. same_id id e.id) 0 (map entry_of l)) (sym (take-append-drop count graph)) in (
        spot.0,
        whole ∙ spot.1 ∙ ap Some (omega arith),
        spot.2,
      );
}

-- ---- one more member

split_at : (newer : List NodeData) (member : NodeData) (older : List NodeData) → IsAt (newer ++ member ∷ older) member.id (length older)
split_at [] member older = inl (refl, refl)
split_at (n ∷ newer) member older = inr (split_at newer member older)

pub places_next : (graph : List (List ℕ)) (i : ℕ) (bytes : List ℕ) → slice_get graph i ≡ Some bytes
    → places_before graph (i + 1) ≡ places_before graph i ++ filter_map (place_in graph) (preds_of bytes) ∷ []
unfolding places_of
places_next graph i bytes e = ap (places_of (place_in graph)) (nodes_next graph i bytes e)

-- The past of a node that is next, by the places of all.
pub past_next : (rules : Rules) (place : UpdateId → Option ℕ) (ns : List NodeData) (n : NodeData) → IsClosed ns → IsPlaced place ns → IsNext ns n → AreLower (places_of place (n ∷ ns))
    → IsPastOf rules ns n (λ p. is_ancestor (places_of place (n ∷ ns)) p (length ns))
past_next rules place ns n closed placed next lower = record {
  next = next;
  exact = λ newer member older is.
      let each = each_node rules place ns closed placed (before_lower place ns n lower) in
      sym (next_ancestors rules place ns closed placed each n next lower member.id (length older)
      (subst (λ (l : List NodeData). IsAt l member.id (length older)) (sym is) (split_at newer member older)));
}

pub past_is : (rules : Rules) (graph : List (List ℕ)) (i : ℕ) (bytes : List ℕ) → slice_get graph i ≡ Some bytes → IsClosed (nodes_before graph (i + 1))
    → AreLower (places_before graph (i + 1)) → IsPastOf rules (nodes_before graph i) (node_of bytes) (λ p. is_ancestor (places_before graph (i + 1)) p i)
past_is rules graph i bytes e closed lower =
    let next = nodes_next graph i bytes e in
    let ns = nodes_before graph i in
    let place = place_in graph in
    let n = node_of bytes in
    let both : IsClosed (n ∷ ns) = subst IsClosed next closed in
    let low : AreLower (places_of place (n ∷ ns)) = subst (λ (l : List NodeData). AreLower (places_of place l)) next lower in
    let size : length ns ≡ i = length-nodes graph i (let l : i < length graph = slice_get_within graph i bytes e in omega arith) in
    let whole : IsPastOf rules ns n (λ p. is_ancestor (places_of place (n ∷ ns)) p (length ns)) = past_next rules place ns n both.1 (front_placed graph i) both.0 low in
    subst (λ (k : ℕ). IsPastOf rules ns n (λ p. is_ancestor (places_before graph (i + 1)) p k)) size
    (subst (λ (l : List NodeData). IsPastOf rules ns n (λ p. is_ancestor (places_of place l) p (length ns))) (sym next) whole)

pub places_earlier : (graph : List (List ℕ)) (i : ℕ) (bytes : List ℕ) → slice_get graph i ≡ Some bytes → IsClosed (nodes_before graph (i + 1))
    → All (λ p. p < length (places_before graph i)) (filter_map (place_in graph) (preds_of bytes))
places_earlier graph i bytes e closed =
    let both : IsClosed (node_of bytes ∷ nodes_before graph i) = subst IsClosed (nodes_next graph i bytes e) closed in
    let places = filter_map (place_in graph) (preds_of bytes) in
    subst (λ (n : ℕ). All (λ p. p < n) places) (sym (length-places (place_in graph) (nodes_before graph i)))
    (All-from_recursion (λ p. p < length (nodes_before graph i)) places (places_low (place_in graph) (nodes_before graph i) (front_placed graph i) (preds_of bytes) both.0.preds))

pub length-before : (graph : List (List ℕ)) (count : ℕ) → count ≤ length graph → length (places_before graph count) ≡ count
length-before graph count low = length-places (place_in graph) (nodes_before graph count) ∙ length-nodes graph count low

-- the member whose node is there
found_bytes : (o : Option (List ℕ)) (n : NodeData) → option_map node_of o ≡ Some n → (bytes : List ℕ) × (o ≡ Some bytes) × (node_of bytes ≡ n)
found_bytes None n e = absurd (cc)
found_bytes (Some b) n e = (b, refl, cc)

pub past_from : (rules : Rules) (graph : List (List ℕ)) (i : ℕ) (n : NodeData) (ancestry : List (List ℕ)) → option_map node_of (slice_get graph i) ≡ Some n
    → ((next : List NodeData) → AreNodesOf (map entry_of (take (i + 1) graph)) next → IsClosed (reverse next))
    → AreLower ancestry → ancestry ≡ places_before graph (i + 1) → IsPastOf rules (nodes_before graph i) n (λ p. is_ancestor ancestry p i)
past_from rules graph i n ancestry here arrivals lower places =
    let found = found_bytes (slice_get graph i) n here in
    let past = past_is rules graph i found.0 found.1 (arrivals (map node_of (take (i + 1) graph)) (are_nodes (take (i + 1) graph))) (subst AreLower places lower) in
    subst (λ (m : NodeData). IsPastOf rules (nodes_before graph i) m (λ p. is_ancestor ancestry p i)) found.2
    (subst (λ (l : List (List ℕ)). IsPastOf rules (nodes_before graph i) (node_of found.0) (λ p. is_ancestor l p i)) (sym places) past)

pub next_from : (graph : List (List ℕ)) (i : ℕ) (n : NodeData) → option_map node_of (slice_get graph i) ≡ Some n → nodes_before graph (i + 1) ≡ n ∷ nodes_before graph i
next_from graph i n here =
    let found = found_bytes (slice_get graph i) n here in nodes_next graph i found.0 found.1 ∙ ap (λ m. m ∷ nodes_before graph i) found.2

pub is_next_from : (graph : List (List ℕ)) (i : ℕ) (n : NodeData) → option_map node_of (slice_get graph i) ≡ Some n
    → ((next : List NodeData) → AreNodesOf (map entry_of (take (i + 1) graph)) next → IsClosed (reverse next)) → IsNext (nodes_before graph i) n
is_next_from graph i n here arrivals =
    let both : IsClosed (n ∷ nodes_before graph i) = subst IsClosed (next_from graph i n here) (arrivals (map node_of (take (i + 1) graph)) (are_nodes (take (i + 1) graph))) in both.0

-- the node of the member that is there
pub node_there : (graph : List (List ℕ)) (i : ℕ) (bytes : List ℕ) (n : NodeData) → slice_get graph i ≡ Some bytes → option_map node_of (slice_get graph i) ≡ Some n → n ≡ node_of bytes
node_there graph i bytes n there here =
    let same : Some n ≡ Some (node_of bytes) = sym here ∙ ap (option_map node_of) there in cc

-- the member at a position
member_at : (graph : List (List ℕ)) (i : ℕ) → i < length graph → (bytes : List ℕ) × (slice_get graph i ≡ Some bytes)
member_at [] i low = absurd (omega arith)
member_at (b ∷ graph) zero low = (b, refl)
member_at (b ∷ graph) (suc i) low = member_at graph i (omega arith)

pub take_front : (xs ys : List (List ℕ)) → take (length xs) (xs ++ ys) ≡ xs
take_front [] ys = refl
take_front (x ∷ xs) ys = ap (λ l. x ∷ l) (take_front xs ys)

-- the positions of the members in front, without the next one
pub places_in_front : (graph : List (List ℕ)) (i : ℕ) → i < length graph → take i (places_before graph (i + 1)) ≡ places_before graph i
places_in_front graph i low =
    let there = member_at graph i low in
    let own = filter_map (place_in graph) (preds_of there.0) in
    let few : i ≤ length graph = omega arith in
    let size : length (places_before graph i) ≡ i = length-before graph i few in
    ap (take i) (places_next graph i there.0 there.1)
    ∙ ap (λ k. take k (places_before graph i ++ own ∷ [])) (sym size)
    ∙ take_front (places_before graph i) (own ∷ [])
