-- Positions have the ancestors that the definition of verdicts has.
use Rattle.std.proofs.Common.{◌≡◌, ℕ, zero, suc, ◌<◌, ◌≤◌, ◌==◌, Bool, true, false, ◌&&◌, ◌||◌, List, [], ◌∷◌, ◌++◌, length, refl, sym, ◌∙◌, ap, subst, arith, inl, inr, ◌⊎◌, Option, Some, All}
use Rattle.std.specs.List.{list_any, list_all, filter_map, cons_option, AllByRecursion}
use Rattle.std.proofs.lemmas.Bool.{and_parts, both_ways, or_from, or_left, or_right, false_from_ne_true}
use Rattle.std.proofs.lemmas.List.{length-append}
use Rattle.update_model.specs.declared.update_id.UpdateId.{UpdateId}
use Rattle.update_model.specs.Entry.{same_id}
use Rattle.update_model.specs.Graph.{has}
use Rattle.update_model.specs.Node.{NodeData}
use Rattle.update_model.proofs.Ids.{id_from_same, same_id-refl}
use Rattle.ancestry.specs.Walks.{AreLower, is_ancestor, preds_at}
use Rattle.ancestry.proofs.Steps.{by_predecessors, not_below, stays}
use Rattle.table_model.specs.Nodes.{holds, IsClosed, IsNext}
use Rattle.table_model.specs.Visible.{Rules}
use Rattle.table_model.specs.Verdicts.{Judged, ancestor_of, judge_next, judged}
use Rattle.table_model.proofs.Order.{ancestors_held, any_weaker, at_id}
use Rattle.history.specs.Arrivals.{places_of}
use Rattle.history.proofs.Places.{IsAt, at_below, at_held, other_id, same_place}

-- each id that is held has its position
pub record IsPlaced (place : UpdateId → Option ℕ) (ns : List NodeData) : Type 0 where
  pub at : (id : UpdateId) → holds ns id ≡ true → (k : ℕ) × (place id ≡ Some k) × IsAt ns id k

pub placed_older : (place : UpdateId → Option ℕ) (n : NodeData) (older : List NodeData) → IsNext older n → IsPlaced place (n ∷ older) → IsPlaced place older
placed_older place n older next p = record {
  at = λ id held.
      let there = p.at id (or_right (same_id id n.id) _ held) in (
        there.0,
        there.1,
        elim there.2 [
          | inl here ↦ absurd (both_ways _ next.new (subst (λ (x : UpdateId). holds older x ≡ true) (sym here.0) held))
          | inr at ↦ at
        ],
      );
}

pub length-places : (place : UpdateId → Option ℕ) (ns : List NodeData) → length (places_of place ns) ≡ length ns
unfolding places_of
length-places place [] = refl
length-places place (n ∷ older) = let e : length (places_of place older) ≡ length older = length-places place older in let more = length-append (places_of place older) (filter_map place n.preds ∷ []) in omega (arith, e, more)

-- what stands at the end
last_preds : (xs : List (List ℕ)) (x : List ℕ) → preds_at (xs ++ x ∷ []) (length xs) ≡ x
last_preds [] x = refl
last_preds (y ∷ ys) x = last_preds ys x

-- in front the positions are lower too
front_preds : (xs : List (List ℕ)) (x : List ℕ) (b : ℕ) → (preds_at xs b ≡ preds_at (xs ++ x ∷ []) b) ⊎ (preds_at xs b ≡ [])
front_preds [] x b = inr refl
front_preds (y ∷ ys) x zero = inl refl
front_preds (y ∷ ys) x (suc b) = front_preds ys x b

front_lower : (xs : List (List ℕ)) (x : List ℕ) → AreLower (xs ++ x ∷ []) → AreLower xs
front_lower xs x lower b =
    elim (front_preds xs x b) [
      | inl same ↦ subst (λ (l : List ℕ). All (λ p. p < b) l) (sym same) (lower b)
      | inr none ↦ subst (λ (l : List ℕ). All (λ p. p < b) l) (sym none) (λ k d low. absurd (omega arith))
    ]

pub before_lower : (place : UpdateId → Option ℕ) (ns : List NodeData) (n : NodeData) → AreLower (places_of place (n ∷ ns)) → AreLower (places_of place ns)
unfolding places_of
before_lower place ns n lower = front_lower (places_of place ns) (filter_map place n.preds) lower

-- the places of what is held are lower
pub places_low : (place : UpdateId → Option ℕ) (ns : List NodeData) → IsPlaced place ns → (qs : List UpdateId) → list_all (holds ns) qs ≡ true → AllByRecursion (λ p. p < length ns) (filter_map place qs)
places_low place ns placed [] held = tt
places_low place ns placed (q ∷ qs) held =
    let parts = and_parts (holds ns q) _ held in
    let spot = placed.at q parts.0 in
    subst (λ (o : Option ℕ). AllByRecursion (λ p. p < length ns) (cons_option o (filter_map place qs))) (sym spot.1)
    (at_below ns q spot.0 spot.2, places_low place ns placed qs parts.1)

module _ (rules : Rules) where
  -- an id that is not held is no ancestor's
  none_before : (older : List NodeData) → IsClosed older → (n : NodeData) → IsNext older n → (id : UpdateId) → holds older id ≡ false → ancestor_of (judged rules older) n id ≡ false
  none_before older c n next id apart =
      or_from _ _
      (false_from_ne_true _ (λ h. both_ways _ apart (at_id (holds older) n.preds id next.preds h)))
      (false_from_ne_true _ (λ h. both_ways _ apart
      (ancestors_held rules older c id (any_weaker _ (λ j. j.is_ancestor id) (λ j g. (and_parts _ _ g).1) (judged rules older) h))))

  -- no node has an id that is not held
  none_named : (ns : List NodeData) (q : UpdateId) (f : Judged → Bool) → holds ns q ≡ false → list_any (λ j. same_id j.node.id q && f j) (judged rules ns) ≡ false
  unfolding judged judge_next
  none_named [] q f apart = refl
  none_named (n ∷ older) q f apart =
      let first : same_id n.id q ≡ false = false_from_ne_true _ (λ same. both_ways _ apart
      (or_left _ _ (subst (λ (x : UpdateId). same_id q x ≡ true) (sym (id_from_same n.id q same)) (same_id-refl q)))) in
      let later : holds older q ≡ false = false_from_ne_true _ (λ h. both_ways _ apart (or_right (same_id q n.id) _ h)) in
      or_from _ _ (ap (λ b. b && f (judge_next rules (judged rules older) n)) first) (none_named older q f later)

  -- what positions say of the ancestors of each of these nodes, in a list of which they are the oldest
  abbrev Each : (UpdateId → Option ℕ) → List NodeData → List NodeData → Type 0
  Each place whole [] = Unit {0}
  Each place whole (n ∷ older) =
      ((id : UpdateId) (a : ℕ) → IsAt whole id a → ancestor_of (judged rules older) n id ≡ is_ancestor (places_of place whole) a (length older)) × Each place whole older

  module _ (place : UpdateId → Option ℕ) where
    -- of the nodes, one has this id, and what its ancestors are is known
    one_named : (whole ns : List NodeData) → IsClosed ns → Each place whole ns → (q id : UpdateId) (p a : ℕ) → IsAt ns q p → IsAt whole id a
        → list_any (λ j. same_id j.node.id q && j.is_ancestor id) (judged rules ns) ≡ is_ancestor (places_of place whole) a p
    unfolding judged judge_next
    one_named whole [] c each q id p a at there = absurd at
    one_named whole (n ∷ older) c each q id p a (inl here) there =
        let first : same_id n.id q ≡ true = subst (λ (x : UpdateId). same_id n.id x ≡ true) here.0 (same_id-refl n.id) in
        let none : holds older q ≡ false = subst (λ (x : UpdateId). holds older x ≡ false) here.0 c.0.new in
        (λ i. (first i && ancestor_of (judged rules older) n id) || none_named older q (λ j. j.is_ancestor id) none i)
        ∙ or_false (ancestor_of (judged rules older) n id) ∙ each.0 id a there ∙ ap (λ k. is_ancestor (places_of place whole) a k) here.1
      where
        or_false : (b : Bool) → (b || false) ≡ b
        or_false true = refl
        or_false false = refl
    one_named whole (n ∷ older) c each q id p a (inr at) there =
        let first : same_id n.id q ≡ false = other_id older n q c.0.new (at_held older q p at) in
        (λ i. (first i && ancestor_of (judged rules older) n id) || list_any (λ j. same_id j.node.id q && j.is_ancestor id) (judged rules older))
        ∙ one_named whole older c.1 each.1 q id p a at there

    distribute : (a b c s r : Bool) → (((a || b) && c) || (s || r)) ≡ (((a && c) || s) || ((b && c) || r))
    distribute true b true s r = refl
    distribute true true false s r = refl
    distribute true false false s r = refl
    distribute false true true true r = refl
    distribute false true true false r = refl
    distribute false true false s r = refl
    distribute false false c s r = refl

    regroup : (x h s r : Bool) → ((x || h) || (s || r)) ≡ ((x || s) || (h || r))
    regroup true h s r = refl
    regroup false true true r = refl
    regroup false true false r = refl
    regroup false false s r = refl

    any_both : (js : List Judged) (q id : UpdateId) (qs : List UpdateId) → list_any (λ j. has (q ∷ qs) j.node.id && j.is_ancestor id) js
        ≡ (list_any (λ j. same_id j.node.id q && j.is_ancestor id) js || list_any (λ j. has qs j.node.id && j.is_ancestor id) js)
    any_both [] q id qs = refl
    any_both (j ∷ js) q id qs =
        (λ i. (has (q ∷ qs) j.node.id && j.is_ancestor id) || any_both js q id qs i)
        ∙ distribute (same_id j.node.id q) (has qs j.node.id) (j.is_ancestor id) (list_any (λ j. same_id j.node.id q && j.is_ancestor id) js) (list_any (λ j. has qs j.node.id && j.is_ancestor id) js)

    none_at_all : (js : List Judged) (id : UpdateId) → list_any (λ j. has [] j.node.id && j.is_ancestor id) js ≡ false
    none_at_all [] id = refl
    none_at_all (j ∷ js) id = none_at_all js id

    -- the ancestors by some of the predecessors
    by_some : (ns : List NodeData) → IsClosed ns → IsPlaced place ns → Each place ns ns → (more : List (List ℕ)) → AreLower (places_of place ns ++ more)
        → (id : UpdateId) (a : ℕ) → IsAt ns id a → (qs : List UpdateId) → list_all (holds ns) qs ≡ true
        → (has qs id || list_any (λ j. has qs j.node.id && j.is_ancestor id) (judged rules ns)) ≡ list_any (λ p. (p == a) || is_ancestor (places_of place ns ++ more) a p) (filter_map place qs)
    by_some ns c placed each more lower id a at [] held = none_at_all (judged rules ns) id
    by_some ns c placed each more lower id a at (q ∷ qs) held =
        let parts = and_parts (holds ns q) _ held in
        let spot = placed.at q parts.0 in
        let p : ℕ = spot.0 in
        let low : p < length (places_of place ns) = subst (λ (n : ℕ). p < n) (sym (length-places place ns)) (at_below ns q p spot.2) in
        let rest = by_some ns c placed each more lower id a at qs parts.1 in
        let js = judged rules ns in
        (λ i. has (q ∷ qs) id || any_both js q id qs i)
        ∙ regroup (same_id id q) (has qs id) (list_any (λ j. same_id j.node.id q && j.is_ancestor id) js) (list_any (λ j. has qs j.node.id && j.is_ancestor id) js)
        ∙ (λ i. (same_place ns c id q a p at spot.2 i || (one_named ns ns c each q id p a spot.2 at ∙ sym (stays (places_of place ns) more a p low lower)) i) || rest i)
        ∙ sym (ap (λ o. list_any (λ p. (p == a) || is_ancestor (places_of place ns ++ more) a p) (cons_option o (filter_map place qs))) spot.1)

    -- the ancestors of the next node, among those before it
    pub next_ancestors : (ns : List NodeData) → IsClosed ns → IsPlaced place ns → Each place ns ns → (n : NodeData) → IsNext ns n → AreLower (places_of place (n ∷ ns))
        → (id : UpdateId) (a : ℕ) → IsAt ns id a → ancestor_of (judged rules ns) n id ≡ is_ancestor (places_of place (n ∷ ns)) a (length ns)
    unfolding places_of
    next_ancestors ns c placed each n next lower id a at =
        let own = filter_map place n.preds in
        by_some ns c placed each (own ∷ []) lower id a at n.preds next.preds
        ∙ sym (ap (list_any (λ p. (p == a) || is_ancestor (places_of place ns ++ own ∷ []) a p)) (last_preds (places_of place ns) own))
        ∙ sym (by_predecessors (places_of place ns ++ own ∷ []) a (length (places_of place ns)) lower)
        ∙ ap (λ k. is_ancestor (places_of place ns ++ own ∷ []) a k) (length-places place ns)

    -- with one more node the older ones have the same ancestors
    each_stays : (ns : List NodeData) (n : NodeData) → AreLower (places_of place (n ∷ ns)) → (sub : List NodeData) → IsClosed sub → holds sub n.id ≡ false → length sub ≤ length ns
        → Each place ns sub → Each place (n ∷ ns) sub
    unfolding places_of
    each_stays ns n lower [] c apart few each = tt
    each_stays ns n lower (m ∷ sub) c apart few each =
        let later : holds sub n.id ≡ false = false_from_ne_true _ (λ h. both_ways _ apart (or_right (same_id n.id m.id) _ h)) in
        let fewer : length sub < length ns = omega arith in
        let size : length (places_of place ns) ≡ length ns = length-places place ns in
        let low : length sub < length (places_of place ns) = omega arith in (
          λ id a at. elim at [
            | inl here ↦ subst (λ (x : UpdateId). ancestor_of (judged rules sub) m x ≡ false) here.0 (none_before sub c.1 m c.0 n.id later)
                ∙ sym (not_below (places_of place (n ∷ ns)) a (length sub) lower (let e = here.1 in omega arith))
            | inr there ↦ each.0 id a there ∙ sym (stays (places_of place ns) (filter_map place n.preds ∷ []) a (length sub) low lower)
          ],
          each_stays ns n lower sub c.1 later (omega arith) each.1,
        )

    pub each_node : (ns : List NodeData) → IsClosed ns → IsPlaced place ns → AreLower (places_of place ns) → Each place ns ns
    unfolding places_of
    each_node [] c placed lower = tt
    each_node (n ∷ older) c placed lower =
        let before = placed_older place n older c.0 placed in
        let own = filter_map place n.preds in
        let each = each_node older c.1 before (front_lower (places_of place older) own lower) in (
          λ id a at. elim at [
            | inl here ↦ subst (λ (x : UpdateId). ancestor_of (judged rules older) n x ≡ false) here.0 (none_before older c.1 n c.0 n.id c.0.new)
                ∙ sym (not_below (places_of place (n ∷ older)) a (length older) lower (let e = here.1 in omega arith))
            | inr there ↦ next_ancestors older c.1 before each n c.0 lower id a there
          ],
          each_stays older n lower older c.1 c.0.new (omega arith) each,
        )
