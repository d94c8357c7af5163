-- Numbers of a graph that grows, and of the members in front.
use Rattle.std.proofs.Common.{◌≡◌, ℕ, ◌+◌, ◌<◌, Bool, true, false, cond, ◌||◌, List, [], ◌∷◌, ◌++◌, length, Some, refl, sym, ◌∙◌, arith, All, Contains, take}
use Rattle.std.specs.List.{list_any, position_from, AllByRecursion, AllZip}
use Rattle.std.proofs.lemmas.List.Elements.{All-from_recursion, Contains-append_right}
use Rattle.std.proofs.lemmas.Option.{slice_get_within}
use Rattle.update_model.specs.declared.update_id.UpdateId.{UpdateId}
use Rattle.update_model.specs.Entry.{Entry, same_id}
use Rattle.update_model.specs.Graph.{has, holds, IsClosed}
use Rattle.update_model.proofs.Heads.{holds-named, any_from_member}
use Rattle.update_model.proofs.Ids.{same_id-refl}
use Rattle.ancestry.specs.Numbered.{AreNumbered, ArePlaces}
use Rattle.ancestry.proofs.Numbers.{member_at}

-- places are those of members
held_each : (graph : List Entry) (ids : List UpdateId) (places : List ℕ) → ArePlaces graph ids places → AllByRecursion (λ p. p < length graph) places
held_each graph [] [] all = tt
held_each graph [] (p ∷ ps) all = absurd all
held_each graph (id ∷ ids) [] all = absurd all
held_each graph (id ∷ ids) (p ∷ ps) all = let there = member_at graph id p all.0 in (slice_get_within graph p there.0 there.1, held_each graph ids ps all.1)

pub places_held : (graph : List Entry) (ids : List UpdateId) (places : List ℕ) → ArePlaces graph ids places → All (λ p. p < length graph) places
places_held graph ids places all = All-from_recursion (λ p. p < length graph) places (held_each graph ids places all)

-- what is found in front is found there in a longer list too
position_kept : {X : Type 0} (t : X → Bool) (i : ℕ) (xs ys : List X) (k : ℕ) → position_from t i xs ≡ Some k → position_from t i (xs ++ ys) ≡ Some k
position_kept t i [] ys k e = absurd cc
position_kept t i (x ∷ xs) ys k e = by_case (position_kept t (i + 1) xs ys k) (t x) e
  where
    by_case : (position_from t (i + 1) xs ≡ Some k → position_from t (i + 1) (xs ++ ys) ≡ Some k) → (b : Bool)
        → cond b (Some i) (position_from t (i + 1) xs) ≡ Some k → cond b (Some i) (position_from t (i + 1) (xs ++ ys)) ≡ Some k
    by_case later true e = e
    by_case later false e = later e

-- what passes in front is found there
position_front : {X : Type 0} (t : X → Bool) (i : ℕ) (xs ys : List X) → list_any t xs ≡ true → position_from t i (xs ++ ys) ≡ position_from t i xs
position_front t i [] ys any = absurd cc
position_front t i (x ∷ xs) ys any = by_case (position_front t (i + 1) xs ys) (t x) any
  where
    by_case : (list_any t xs ≡ true → position_from t (i + 1) (xs ++ ys) ≡ position_from t (i + 1) xs) → (b : Bool) → (b || list_any t xs) ≡ true
        → cond b (Some i) (position_from t (i + 1) (xs ++ ys)) ≡ cond b (Some i) (position_from t (i + 1) xs)
    by_case later true any = refl
    by_case later false any = later any

-- ---- one more member

places_kept : (graph more : List Entry) (ids : List UpdateId) (places : List ℕ) → ArePlaces graph ids places → ArePlaces (graph ++ more) ids places
places_kept graph more [] [] all = tt
places_kept graph more [] (p ∷ ps) all = absurd all
places_kept graph more (id ∷ ids) [] all = absurd all
places_kept graph more (id ∷ ids) (p ∷ ps) all = (position_kept (λ (m : Entry). same_id id m.id) 0 graph more p all.0, places_kept graph more ids ps all.1)

grow_each : (graph : List Entry) (e : Entry) (places : List ℕ) → ArePlaces graph e.preds places → (es : List Entry) (positions : List (List ℕ))
    → AllZip (λ (m : Entry) ps. ArePlaces graph m.preds ps) es positions
    → AllZip (λ (m : Entry) ps. ArePlaces (graph ++ e ∷ []) m.preds ps) (es ++ e ∷ []) (positions ++ places ∷ [])
grow_each graph e places own [] [] all = (places_kept graph (e ∷ []) e.preds places own, tt)
grow_each graph e places own [] (qs ∷ positions) all = absurd all
grow_each graph e places own (m ∷ es) [] all = absurd all
grow_each graph e places own (m ∷ es) (qs ∷ positions) all = (places_kept graph (e ∷ []) m.preds qs all.0, grow_each graph e places own es positions all.1)

pub numbered_more : (graph : List Entry) (positions : List (List ℕ)) (e : Entry) (places : List ℕ) → AreNumbered graph positions → ArePlaces graph e.preds places
    → AreNumbered (graph ++ e ∷ []) (positions ++ places ∷ [])
numbered_more graph positions e places numbered own = grow_each graph e places own graph positions numbered

-- ---- the members in front

places_front : (graph more : List Entry) (ids : List UpdateId) (places : List ℕ) → ((id : UpdateId) → has ids id ≡ true → holds graph id ≡ true)
    → ArePlaces (graph ++ more) ids places → ArePlaces graph ids places
places_front graph more [] [] held all = tt
places_front graph more [] (p ∷ ps) held all = absurd all
places_front graph more (id ∷ ids) [] held all = absurd all
places_front graph more (id ∷ ids) (p ∷ ps) held all =
    let first : has (id ∷ ids) id ≡ true = or_left (same_id id id) (has ids id) (same_id-refl id) in (
      sym (position_front (λ (m : Entry). same_id id m.id) 0 graph more (held id first)) ∙ all.0,
      places_front graph more ids ps (λ q calls. held q (or_right (same_id q id) (has ids q) calls)) all.1,
    )
  where
    or_left : (a b : Bool) → a ≡ true → (a || b) ≡ true
    or_left true b e = refl
    or_left false b e = absurd cc

    or_right : (a b : Bool) → b ≡ true → (a || b) ≡ true
    or_right true b e = refl
    or_right false b e = e

front_each : (graph more : List Entry) → IsClosed graph → (es : List Entry) → ((e : Entry) → Contains es e → Contains graph e) → (positions : List (List ℕ))
    → AllZip (λ (m : Entry) ps. ArePlaces (graph ++ more) m.preds ps) (es ++ more) positions
    → AllZip (λ (m : Entry) ps. ArePlaces graph m.preds ps) es (take (length es) positions)
front_each graph more closed [] within positions all = tt
front_each graph more closed (m ∷ es) within [] all = absurd all
front_each graph more closed (m ∷ es) within (qs ∷ positions) all =
    let held : Contains graph m = within m (0, omega arith, refl) in (
      places_front graph more m.preds qs (λ id calls. holds-named [] graph id closed (any_from_member (λ (e : Entry). has e.preds id) graph m held calls)) all.0,
      front_each graph more closed es (λ e c. within e (Contains-append_right (m ∷ []) es e c)) positions all.1,
    )

pub numbered_front : (graph more : List Entry) (positions : List (List ℕ)) → IsClosed graph → AreNumbered (graph ++ more) positions → AreNumbered graph (take (length graph) positions)
numbered_front graph more positions closed numbered = front_each graph more closed graph (λ e c. c) positions numbered
