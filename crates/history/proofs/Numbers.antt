-- Members and the positions of their predecessors.
use Rattle.std.proofs.Common.{◌≡◌, ℕ, zero, suc, ◌+◌, ◌<◌, ◌≤◌, Bool, true, false, cond, ◌||◌, List, [], ◌∷◌, ◌++◌, length, map, take, drop, refl, sym, ap, subst, ◌∙◌, arith, All, Option, Some, None, slice_get}
use Rattle.std.specs.Prelude.{is_some}
use Rattle.std.specs.List.{cons_option, filter_map, list_any, position_from}
use Rattle.std.proofs.lemmas.List.{map-append, take-append-drop}
use Rattle.std.proofs.lemmas.List.Elements.{All-cons, All-head, All-nil, All-tail}
use Rattle.std.proofs.lemmas.Option.{slice_get_within}
use Rattle.update_model.specs.declared.update_id.UpdateId.{UpdateId}
use Rattle.update_model.specs.Entry.{Entry, same_id}
use Rattle.update_model.specs.Graph.{holds, position_of, IsClosed}
use Rattle.update_model.proofs.Closed.{is_some-position}
use Rattle.update_codec.specs.Parts.{entry_of, preds_of}
use Rattle.ancestry.specs.Numbered.{AreNumbered, ArePlaces}
use Rattle.ancestry.proofs.Numbers.{member_at}
use Rattle.ancestry.proofs.Growth.{numbered_more}
use Rattle.history.specs.Arrivals.{place_in, places_before, places_of}
use Rattle.history.proofs.Arriving.{places_next}
use Rattle.history.proofs.Fronts.{entries_next, next_member}

-- ---- the first place, in front and in the whole

pub front_found : {X : Type 0} (t : X → Bool) (i : ℕ) (xs ys : List X) → list_any t xs ≡ true → position_from t i (xs ++ ys) ≡ position_from t i xs
front_found t i [] ys any = absurd cc
front_found t i (x ∷ xs) ys any = by_case (t x) (λ later. front_found t (i + 1) xs ys later) any
  where
    by_case : (b : Bool) → (list_any t xs ≡ true → position_from t (i + 1) (xs ++ ys) ≡ position_from t (i + 1) xs) → (b || list_any t xs) ≡ true
        → cond b (Some i) (position_from t (i + 1) (xs ++ ys)) ≡ cond b (Some i) (position_from t (i + 1) xs)
    by_case true later any = refl
    by_case false later any = later any

pub front_none : {X : Type 0} (t : X → Bool) (i : ℕ) (xs ys : List X) → position_from t i (xs ++ ys) ≡ None → position_from t i xs ≡ None
front_none t i [] ys none = refl
front_none t i (x ∷ xs) ys none = by_case (t x) (λ later. front_none t (i + 1) xs ys later) none
  where
    by_case : (b : Bool) → (position_from t (i + 1) (xs ++ ys) ≡ None → position_from t (i + 1) xs ≡ None) → cond b (Some i) (position_from t (i + 1) (xs ++ ys)) ≡ None
        → cond b (Some i) (position_from t (i + 1) xs) ≡ None
    by_case true later none = absurd cc
    by_case false later none = later none

pub above : {X : Type 0} (t : X → Bool) (i : ℕ) (xs : List X) (k : ℕ) → position_from t i xs ≡ Some k → i ≤ k
above t i [] k e = absurd cc
above t i (x ∷ xs) k e = by_case (t x) (λ later. above t (i + 1) xs k later) e
  where
    by_case : (b : Bool) → (position_from t (i + 1) xs ≡ Some k → i + 1 ≤ k) → cond b (Some i) (position_from t (i + 1) xs) ≡ Some k → i ≤ k
    by_case true later e = let is : i ≡ k = cc in omega arith
    by_case false later e = let low = later e in omega arith

pub front_low : {X : Type 0} (t : X → Bool) (i : ℕ) (xs ys : List X) (k : ℕ) → position_from t i (xs ++ ys) ≡ Some k → k < i + length xs → position_from t i xs ≡ Some k
front_low t i [] ys k e low = let high = above t i ys k e in absurd (omega arith)
front_low t i (x ∷ xs) ys k e low = by_case (t x) (λ later. front_low t (i + 1) xs ys k later (omega arith)) e
  where
    by_case : (b : Bool) → (position_from t (i + 1) (xs ++ ys) ≡ Some k → position_from t (i + 1) xs ≡ Some k) → cond b (Some i) (position_from t (i + 1) (xs ++ ys)) ≡ Some k
        → cond b (Some i) (position_from t (i + 1) xs) ≡ Some k
    by_case true later e = e
    by_case false later e = later e

pub front_high : {X : Type 0} (t : X → Bool) (i : ℕ) (xs ys : List X) (k : ℕ) → position_from t i (xs ++ ys) ≡ Some k → i + length xs ≤ k → position_from t i xs ≡ None
front_high t i [] ys k e high = refl
front_high t i (x ∷ xs) ys k e high = by_case (t x) (λ later. front_high t (i + 1) xs ys k later (omega arith)) e
  where
    by_case : (b : Bool) → (position_from t (i + 1) (xs ++ ys) ≡ Some k → position_from t (i + 1) xs ≡ None) → cond b (Some i) (position_from t (i + 1) (xs ++ ys)) ≡ Some k
        → cond b (Some i) (position_from t (i + 1) xs) ≡ None
    by_case true later e = let is : i ≡ k = cc in absurd (omega arith)
    by_case false later e = later e

-- the whole list of members as its front and the rest
pub whole_entries : (members : List (List ℕ)) (below : ℕ) → map entry_of members ≡ map entry_of (take below members) ++ map entry_of (drop below members)
whole_entries members below = ap (map entry_of) (sym (take-append-drop below members)) ∙ map-append entry_of (take below members) (drop below members)

-- places of members are below their number
pub old_low : (graph : List Entry) (ids : List UpdateId) (n : ℕ) → length graph ≤ n → All (λ p. p < n) (filter_map (position_of graph) ids)
old_low graph [] n few = All-nil (λ p. p < n)
old_low graph (id ∷ ids) n few = by_case (position_of graph id) refl (old_low graph ids n few)
  where
    by_case : (o : Option ℕ) → position_of graph id ≡ o → All (λ p. p < n) (filter_map (position_of graph) ids) → All (λ p. p < n) (cons_option o (filter_map (position_of graph) ids))
    by_case None at rest = rest
    by_case (Some k) at rest =
        let there = member_at graph id k at in
        let low = slice_get_within graph k there.0 there.1 in
        All-cons (λ p. p < n) k (filter_map (position_of graph) ids) (omega arith) rest

-- ---- numbers of the first members

the_place : (o : Option ℕ) → is_some o ≡ true → (k : ℕ) × (o ≡ Some k)
the_place None e = absurd cc
the_place (Some k) e = (k, refl)

are_places : (members : List (List ℕ)) (n : ℕ) (qs : List UpdateId) → All (λ q. holds (map entry_of (take n members)) q ≡ true) qs
    → ArePlaces (map entry_of (take n members)) qs (filter_map (place_in members) qs)
are_places members n [] held = tt
are_places members n (q ∷ qs) held =
    let front = map entry_of (take n members) in
    let t : Entry → Bool = λ e. same_id q e.id in
    let here : holds front q ≡ true = All-head (λ p. holds front p ≡ true) q qs held in
    let found = the_place (position_of front q) (is_some-position t 0 front ∙ here) in
    let same : place_in members q ≡ Some found.0 =
    ap (λ (l : List Entry). position_of l q) (whole_entries members n) ∙ front_found t 0 front (map entry_of (drop n members)) here ∙ found.1 in
    subst (λ (o : Option ℕ). ArePlaces front (q ∷ qs) (cons_option o (filter_map (place_in members) qs))) (sym same)
    (found.1, are_places members n qs (All-tail (λ p. holds front p ≡ true) q qs held))

pub bytes_at : (members : List (List ℕ)) (i : ℕ) → i < length members → (bytes : List ℕ) × (slice_get members i ≡ Some bytes)
bytes_at [] i low = absurd (omega arith)
bytes_at (b ∷ members) zero low = (b, refl)
bytes_at (b ∷ members) (suc i) low = bytes_at members i (omega arith)

pub numbers : (members : List (List ℕ)) (n : ℕ) → IsClosed (map entry_of members) → n ≤ length members → AreNumbered (map entry_of (take n members)) (places_before members n)
unfolding places_of
numbers members zero closed low = tt
numbers members (suc n) closed low =
    let there = bytes_at members n (omega arith) in
    let bytes = there.0 in
    let front = map entry_of (take n members) in
    let own = filter_map (place_in members) (preds_of bytes) in
    let more : n + 1 ≡ suc n = omega arith in
    let next = next_member members n bytes closed there.1 in
    let grown : AreNumbered (front ++ entry_of bytes ∷ []) (places_before members n ++ own ∷ []) =
    numbered_more front (places_before members n) (entry_of bytes) own (numbers members n closed (omega arith)) (are_places members n (preds_of bytes) next.preds) in
    subst (λ (k : ℕ). AreNumbered (map entry_of (take k members)) (places_before members k)) more
    (subst (λ (l : List Entry). AreNumbered l (places_before members (n + 1))) (sym (entries_next members n bytes there.1))
    (subst (AreNumbered (front ++ entry_of bytes ∷ [])) (sym (places_next members n bytes there.1)) grown))
