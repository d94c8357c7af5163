-- A draft, which would stand behind all members.
use Rattle.std.proofs.Common.{◌≡◌, ℕ, ◌<◌, ◌≤◌, ◌==◌, ◌||◌, List, [], ◌∷◌, ◌++◌, length, map, take, sym, ◌∙◌, ap, subst, arith, All, inl, inr}
use Rattle.std.specs.List.{filter_map, list_any, AllByRecursion}
use Rattle.std.proofs.lemmas.Bool.{cases_lt}
use Rattle.std.proofs.lemmas.List.{length-append, length-map, take_all}
use Rattle.update_model.specs.declared.update_id.UpdateId.{UpdateId}
use Rattle.update_model.specs.Graph.{position_of, IsClosed as IsClosedGraph}
use Rattle.update_model.specs.Node.{NodeData}
use Rattle.update_codec.specs.Parts.{entry_of}
use Rattle.ancestry.specs.Since.{is_behind}
use Rattle.ancestry.specs.Walks.{preds_at, AreLower, is_ancestor}
use Rattle.ancestry.proofs.Clocking.{preds_last}
use Rattle.ancestry.proofs.Merging.{lower_push}
use Rattle.ancestry.proofs.Steps.{any_same, by_predecessors, lower_preds, none_there, stays}
use Rattle.table_model.specs.Nodes.{IsClosed, IsNext}
use Rattle.table_model.specs.Visible.{Rules}
use Rattle.tuple_state.specs.Past.{IsPastOf}
use Rattle.history.specs.Arrivals.{nodes_before, place_in, places_before, places_of}
use Rattle.history.proofs.Ancestors.{IsPlaced}
use Rattle.history.proofs.Arriving.{front_placed, length-before, length-nodes, past_next}
use Rattle.history.specs.Histories.{nodes_of}
use Rattle.history.proofs.Fronts.{all_nodes, nodes_closed}
use Rattle.history.proofs.Numbers.{old_low}

-- ---- one more list of positions

-- the last member's ancestors by those that it names
pub last_behind : (graph : List (List ℕ)) (preds : List ℕ) (a b : ℕ) → AreLower (graph ++ preds ∷ []) → b ≡ length graph → is_ancestor (graph ++ preds ∷ []) a b ≡ is_behind graph preds a
last_behind graph preds a b lower here =
    let whole = graph ++ preds ∷ [] in
    let end = length graph in
    let own : preds_at whole end ≡ preds = preds_last graph preds in
    let low : AllByRecursion (λ p. p < end) preds = subst (AllByRecursion (λ p. p < end)) own (lower_preds whole end lower) in
    ap (is_ancestor whole a) here
    ∙ by_predecessors whole a end lower
    ∙ ap (list_any (λ p. (p == a) || is_ancestor whole a p)) own
    ∙ any_same (λ p. p < end) (λ p. (p == a) || is_ancestor whole a p) (λ p. (p == a) || is_ancestor graph a p) preds low
    (λ p below. ap (λ t. (p == a) || t) (stays graph (preds ∷ []) a p below lower))

-- of other positions it says nothing new
pub others_same : (graph : List (List ℕ)) (preds : List ℕ) (a b : ℕ) → AreLower (graph ++ preds ∷ []) → ¬ (b ≡ length graph) → is_ancestor graph a b ≡ is_ancestor (graph ++ preds ∷ []) a b
others_same graph preds a b lower apart = elim (cases_lt b (length graph)) [
  | inl low ↦ sym (stays graph (preds ∷ []) a b low lower)
  | inr high ↦
      let size = length-append graph (preds ∷ []) in
      let past : length (graph ++ preds ∷ []) ≤ b = omega (arith, size, apart) in
      none_there graph a b high ∙ sym (none_there (graph ++ preds ∷ []) a b past)
]

-- ---- a draft

-- the places of its predecessors are those among all members
pub draft_places : (members : List (List ℕ)) (draft : NodeData) (len : ℕ) (ids : List UpdateId) (items preds : List ℕ) → len ≡ length members → ids ≡ draft.preds
    → items ≡ filter_map (position_of (map entry_of (take len members))) ids → preds ≡ items → preds ≡ filter_map (place_in members) draft.preds
draft_places members draft len ids items preds all same named lent =
    lent ∙ named ∙ (λ i. filter_map (place_in (take (all i) members)) (same i)) ∙ ap (λ l. filter_map (place_in l) draft.preds) (take_all (length members) members (omega arith))

module _ (members ancestry : List (List ℕ)) (draft : NodeData) (preds : List ℕ) (lower : AreLower ancestry) (places : ancestry ≡ places_before members (length members))
    (named : preds ≡ filter_map (place_in members) draft.preds) where
  -- behind the members its positions are lower too
  pub draft_lower : AreLower (ancestry ++ preds ∷ [])
  draft_lower =
      let size : length ancestry ≡ length members = ap length places ∙ length-before members (length members) (omega arith) in
      let many : length (map entry_of members) ≡ length members = length-map members entry_of in
      let few : length (map entry_of members) ≤ length ancestry = omega (arith, size, many) in
      lower_push ancestry preds lower (subst (λ (l : List ℕ). All (λ p. p < length ancestry) l) (sym named) (old_low (map entry_of members) draft.preds (length ancestry) few))

  -- its past
  pub draft_past : (rules : Rules) (len : ℕ) → len ≡ length members → IsClosedGraph (map entry_of members) → IsNext (nodes_of members) draft
      → IsPastOf rules (nodes_of members) draft (λ p. is_ancestor (ancestry ++ preds ∷ []) p len)
  unfolding places_of
  draft_past rules len here closed next =
      let ns = nodes_of members in
      let place = place_in members in
      let all : nodes_before members (length members) ≡ ns = all_nodes members in
      let nodes : IsClosed ns = subst IsClosed all (nodes_closed members (length members) closed) in
      let placed : IsPlaced place ns = subst (IsPlaced place) all (front_placed members (length members)) in
      let size : length ns ≡ len = ap length (sym all) ∙ length-nodes members (length members) (omega arith) ∙ sym here in
      let old : ancestry ≡ places_of place ns = places ∙ ap (places_of place) all in
      let whole : ancestry ++ preds ∷ [] ≡ places_of place (draft ∷ ns) = λ i. old i ++ named i ∷ [] in
      let low : AreLower (places_of place (draft ∷ ns)) = subst AreLower whole draft_lower in
      let past : IsPastOf rules ns draft (λ p. is_ancestor (places_of place (draft ∷ ns)) p (length ns)) = past_next rules place ns draft nodes placed next low in
      subst (λ (k : ℕ). IsPastOf rules ns draft (λ p. is_ancestor (ancestry ++ preds ∷ []) p k)) size
      (subst (λ (l : List (List ℕ)). IsPastOf rules ns draft (λ p. is_ancestor l p (length ns))) (sym whole) past)
