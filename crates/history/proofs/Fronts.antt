-- The first members of a list, and what is kept of them.
use Rattle.std.proofs.Common.{◌≡◌, ℕ, zero, suc, ◌+◌, ◌≤◌, true, List, [], ◌∷◌, ◌++◌, length, map, reverse, take, drop, refl, sym, ◌∙◌, ap, subst, arith, Option, Some, slice_get}
use Rattle.std.specs.List.{cons_option, filter_map, list_all}
use Rattle.std.proofs.lemmas.Bool.{and_parts, eqb-true}
use Rattle.std.proofs.lemmas.List.{map-append, reverse-append, take-append-drop, take_all, take-take}
use Rattle.update_model.specs.declared.update_id.UpdateId.{UpdateId}
use Rattle.update_model.specs.Graph.{AreHeads, IsClosed as IsClosedGraph, IsNext as IsNextMember}
use Rattle.update_model.specs.Node.{NodeData}
use Rattle.update_model.proofs.Closed.{Follows-at}
use Rattle.update_model.proofs.Ids.{same_id-refl}
use Rattle.update_codec.specs.Parts.{entry_of}
use Rattle.update_check.specs.Signed.{node_of}
use Rattle.head_set.specs.Grown.{AreHeadsOfEach}
use Rattle.head_set.specs.Present.{present}
use Rattle.head_set.proofs.HeadSteps.{present_heads}
use Rattle.schema.specs.Data.{Meaning, SchemaData}
use Rattle.table_model.specs.Nodes.{holds, IsClosed}
use Rattle.table_model.specs.Visible.{rules_with}
use Rattle.table_model.proofs.Arrivals.{closed_reversed}
use Rattle.tuple_state.specs.State.{IsStateOf}
use Rattle.history.specs.Arrivals.{nodes_before, place_in, places_before, places_of}
use Rattle.history.proofs.Ancestors.{IsPlaced, placed_older}
use Rattle.history.proofs.Arriving.{are_nodes, front_closed, front_placed, take_front, take_next}
use Rattle.history.proofs.Places.{IsAt, same_place}
use Rattle.history.specs.declared.views.Views.{Views}
use Rattle.history.specs.Histories.{nodes_of}
use Rattle.history.specs.Kept.{AreViewsOf}

-- ---- nodes and places of the first members

pub nodes_closed : (members : List (List ℕ)) (count : ℕ) → IsClosedGraph (map entry_of members) → IsClosed (nodes_before members count)
nodes_closed members count closed =
    let front = take count members in
    closed_reversed [] [] tt (map entry_of front) (map node_of front) (are_nodes front) tt (front_closed members count closed)

-- an id is found at one place
same_spot : (ns : List NodeData) → IsClosed ns → (q : UpdateId) (i k : ℕ) → IsAt ns q i → IsAt ns q k → i ≡ k
same_spot ns closed q i k a b = sym (eqb-true k i (sym (same_place ns closed q q i k a b) ∙ same_id-refl q))

places_alike : (place other : UpdateId → Option ℕ) (ns : List NodeData) → IsClosed ns → IsPlaced place ns → IsPlaced other ns → (qs : List UpdateId) → list_all (holds ns) qs ≡ true
    → filter_map place qs ≡ filter_map other qs
places_alike place other ns closed here there [] held = refl
places_alike place other ns closed here there (q ∷ qs) held =
    let parts = and_parts (holds ns q) _ held in
    let a = here.at q parts.0 in
    let b = there.at q parts.0 in
    let same : place q ≡ other q = a.1 ∙ ap Some (same_spot ns closed q a.0 b.0 a.2 b.2) ∙ sym b.1 in
    λ i. cons_option (same i) (places_alike place other ns closed here there qs parts.1 i)

-- the places of nodes are one, by whatever finds them
places_once : (place other : UpdateId → Option ℕ) (ns : List NodeData) → IsClosed ns → IsPlaced place ns → IsPlaced other ns → places_of place ns ≡ places_of other ns
unfolding places_of
places_once place other [] closed here there = refl
places_once place other (n ∷ older) closed here there =
    let a = placed_older place n older closed.0 here in
    let b = placed_older other n older closed.0 there in
    λ i. places_once place other older closed.1 a b i ++ places_alike place other older closed.1 a b n.preds closed.0.preds i ∷ []

-- what stands behind changes no place in front
pub places_in_longer : (front more : List (List ℕ)) → IsClosedGraph (map entry_of front) → places_before (front ++ more) (length front) ≡ places_before front (length front)
places_in_longer front more closed =
    let same : nodes_before (front ++ more) (length front) ≡ nodes_before front (length front) = ap (λ l. reverse (map node_of l)) (take_front front more ∙ sym (take_all (length front) front (omega arith))) in
    let ns = nodes_before front (length front) in
    let longer : IsPlaced (place_in (front ++ more)) ns = subst (IsPlaced (place_in (front ++ more))) same (front_placed (front ++ more) (length front)) in
    ap (places_of (place_in (front ++ more))) same
    ∙ places_once (place_in (front ++ more)) (place_in front) ns (nodes_closed front (length front) closed) longer (front_placed front (length front))

-- ---- views of a front

front_same : (front more : List (List ℕ)) → take (length front) (front ++ more) ≡ take (length front) front
front_same front more = take_front front more ∙ sym (take_all (length front) front (omega arith))

pub views_of_front : (ask : Meaning) (schema : SchemaData) (front more : List (List ℕ)) (views : Views) → IsClosedGraph (map entry_of front)
    → AreViewsOf ask schema (front ++ more) (length front) views → AreViewsOf ask schema front (length front) views
views_of_front ask schema front more views closed are = record {
  heads = subst (λ (l : List (List ℕ)). AreHeadsOfEach (map entry_of l) views.heads) (front_same front more) are.heads;
  places = are.places ∙ places_in_longer front more closed;
  state = subst (λ (l : List (List ℕ)). IsStateOf (rules_with ask schema.tables) (reverse (map node_of l)) views.tables) (front_same front more) are.state;
}

pub views_of_longer : (ask : Meaning) (schema : SchemaData) (front more : List (List ℕ)) (views : Views) → IsClosedGraph (map entry_of front)
    → AreViewsOf ask schema front (length front) views → AreViewsOf ask schema (front ++ more) (length front) views
views_of_longer ask schema front more views closed are = record {
  heads = subst (λ (l : List (List ℕ)). AreHeadsOfEach (map entry_of l) views.heads) (sym (front_same front more)) are.heads;
  places = are.places ∙ sym (places_in_longer front more closed);
  state = subst (λ (l : List (List ℕ)). IsStateOf (rules_with ask schema.tables) (reverse (map node_of l)) views.tables) (sym (front_same front more)) are.state;
}

-- after a cut to the length of a list that stood in front
pub views_cut_back : (ask : Meaning) (schema : SchemaData) (front more whole : List (List ℕ)) (views : Views) → IsClosedGraph (map entry_of front) → whole ≡ front ++ more
    → AreViewsOf ask schema whole (length front) views → AreViewsOf ask schema front (length front) views
views_cut_back ask schema front more whole views closed is are =
    views_of_front ask schema front more views closed (subst (λ (l : List (List ℕ)). AreViewsOf ask schema l (length front) views) is are)

-- all members are the first of their number
pub all_nodes : (members : List (List ℕ)) → nodes_before members (length members) ≡ nodes_of members
all_nodes members = ap (λ l. reverse (map node_of l)) (take_all (length members) members (omega arith))

pub all_heads : (ask : Meaning) (schema : SchemaData) (members : List (List ℕ)) (views : Views) → AreViewsOf ask schema members (length members) views
    → AreHeads (map entry_of members) (present views.heads)
all_heads ask schema members views are =
    present_heads (map entry_of members) views.heads
    (subst (λ (l : List (List ℕ)). AreHeadsOfEach (map entry_of l) views.heads) (take_all (length members) members (omega arith)) are.heads)

pub all_state : (ask : Meaning) (schema : SchemaData) (members : List (List ℕ)) (views : Views) → AreViewsOf ask schema members (length members) views
    → IsStateOf (rules_with ask schema.tables) (nodes_of members) views.tables
all_state ask schema members views are = subst (λ (l : List NodeData). IsStateOf (rules_with ask schema.tables) l views.tables) (all_nodes members) are.state

-- ---- one more, and fewer

-- nodes in front of those of the first so many members
pub newer_nodes : List (List ℕ) → ℕ → ℕ → List NodeData
newer_nodes members count len = reverse (map node_of (drop len (take count members)))

pub nodes_split : (members : List (List ℕ)) (count len : ℕ) → len ≤ count → nodes_before members count ≡ newer_nodes members count len ++ nodes_before members len
unfolding newer_nodes
nodes_split members count len low =
    let front = take count members in
    ap (λ l. reverse (map node_of l)) (sym (take-append-drop len front))
    ∙ ap reverse (map-append node_of (take len front) (drop len front))
    ∙ reverse-append (map node_of (take len front)) (map node_of (drop len front))
    ∙ ap (λ l. newer_nodes members count len ++ reverse (map node_of l)) (take-take len count members low)

-- the member at a position is the next one after those before it
pub next_member : (members : List (List ℕ)) (i : ℕ) (bytes : List ℕ) → IsClosedGraph (map entry_of members) → slice_get members i ≡ Some bytes
    → IsNextMember (map entry_of (take i members)) (entry_of bytes)
next_member members i bytes closed at =
    let parts : map entry_of members ≡ map entry_of (take i members) ++ entry_of bytes ∷ map entry_of (drop (suc i) members) =
    ap (map entry_of) (split members i bytes at) ∙ map-append entry_of (take i members) (bytes ∷ drop (suc i) members) in
    Follows-at [] (map entry_of (take i members)) (map entry_of (drop (suc i) members)) (entry_of bytes) (subst IsClosedGraph parts closed)
  where
    split : (l : List (List ℕ)) (k : ℕ) (b : List ℕ) → slice_get l k ≡ Some b → l ≡ take k l ++ b ∷ drop (suc k) l
    split [] k b e = absurd cc
    split (x ∷ l) zero b e = let same : x ≡ b = cc in ap (λ z. z ∷ l) same
    split (x ∷ l) (suc k) b e = ap (λ z. x ∷ z) (split l k b e)

pub entries_next : (members : List (List ℕ)) (i : ℕ) (bytes : List ℕ) → slice_get members i ≡ Some bytes
    → map entry_of (take (i + 1) members) ≡ map entry_of (take i members) ++ entry_of bytes ∷ []
entries_next members i bytes at =
    let more : i + 1 ≡ suc i = omega arith in
    ap (λ k. map entry_of (take k members)) more ∙ ap (map entry_of) (take_next members i bytes at) ∙ map-append entry_of (take i members) (bytes ∷ [])
