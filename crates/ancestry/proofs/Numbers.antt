-- Ancestors by positions are ancestors by ids.
use Rattle.std.proofs.Common.{◌≡◌, ◌⊎◌, inl, inr, ℕ, zero, suc, ◌+◌, ◌<◌, Bool, true, false, cond, ◌||◌, List, [], ◌∷◌, ◌++◌, length, refl, sym, ap, subst, ◌∙◌, arith, Contains, Some, None, slice_get, zero-add}
use Rattle.std.specs.Prelude.{◌==◌, ◌↔◌, Option, unwrap_or}
use Rattle.std.specs.List.{list_any, position_from, AllByRecursion, AllZip}
use Rattle.std.proofs.lemmas.Bool.{eqb-true, eq-eqb}
use Rattle.std.proofs.lemmas.List.Elements.{All-from_recursion, recursion_from_All}
use Rattle.std.proofs.lemmas.Option.{slice_get_within, get_or_from_slice_get, slice_get-get_or}
use Rattle.update_model.specs.declared.update_id.UpdateId.{UpdateId}
use Rattle.update_model.specs.Entry.{Entry, same_id}
use Rattle.update_model.specs.Graph.{has, holds, position_of, IsNext, IsClosed, IsAncestor, named, through}
use Rattle.update_model.proofs.Closed.{Follows-at}
use Rattle.update_model.proofs.Ids.{id_from_same, same_id-refl}
use Rattle.ancestry.specs.Numbered.{AreNumbered, ArePlaces}
use Rattle.ancestry.specs.Walks.{preds_at, AreLower, leads_in, is_ancestor}
use Rattle.ancestry.proofs.Steps.{by_predecessors}

-- ---- places

-- a list about the place of an element
split_at : {X : Type 0} (xs : List X) (i : ℕ) (x : X) → slice_get xs i ≡ Some x → (front : List X) × (back : List X) × (xs ≡ front ++ x ∷ back) × (length front ≡ i)
split_at [] i x e = absurd cc
split_at (y ∷ ys) zero x e = let is : y ≡ x = cc in ([], ys, ap (λ z. z ∷ ys) is, refl)
split_at (y ∷ ys) (suc i) x e = let s = split_at ys i x e in (y ∷ s.0, s.1, ap (λ zs. y ∷ zs) s.2, ap suc s.3)

-- the first place is that of an element that passes
position_found : {X : Type 0} (t : X → Bool) (i : ℕ) (xs : List X) (k : ℕ) → position_from t i xs ≡ Some k → (j : ℕ) × (x : X) × (k ≡ i + j) × (slice_get xs j ≡ Some x) × (t x ≡ true)
position_found t i [] k e = absurd cc
position_found {X} t i (x ∷ xs) k e = by_case (position_found t (i + 1) xs k) (t x) refl e
  where
    by_case : (position_from t (i + 1) xs ≡ Some k → (j : ℕ) × (y : X) × (k ≡ i + 1 + j) × (slice_get xs j ≡ Some y) × (t y ≡ true)) → (b : Bool) → t x ≡ b
        → cond b (Some i) (position_from t (i + 1) xs) ≡ Some k → (j : ℕ) × (y : X) × (k ≡ i + j) × (slice_get (x ∷ xs) j ≡ Some y) × (t y ≡ true)
    by_case later true passes e = let is : i ≡ k = cc in (0, x, omega arith, refl, passes)
    by_case later false fails e = let rest = later e in (suc rest.0, rest.1, omega (arith, rest.2), rest.3, rest.4)

-- where an element in front passes, the first place is in front
position_before : {X : Type 0} (t : X → Bool) (i : ℕ) (xs ys : List X) (k : ℕ) → list_any t xs ≡ true → position_from t i (xs ++ ys) ≡ Some k → k < i + length xs
position_before t i [] ys k any e = absurd cc
position_before t i (x ∷ xs) ys k any e = by_case (position_before t (i + 1) xs ys k) (t x) any e
  where
    by_case : (list_any t xs ≡ true → position_from t (i + 1) (xs ++ ys) ≡ Some k → k < i + 1 + length xs) → (b : Bool) → (b || list_any t xs) ≡ true
        → cond b (Some i) (position_from t (i + 1) (xs ++ ys)) ≡ Some k → k < i + length (x ∷ xs)
    by_case later true any e = let is : i ≡ k = cc in omega arith
    by_case later false any e = let rest = later any e in omega arith

-- where none in front passes, and the next does, the first place is the next one
position_here : {X : Type 0} (t : X → Bool) (i : ℕ) (xs : List X) (x : X) (ys : List X) → list_any t xs ≡ false → t x ≡ true → position_from t i (xs ++ x ∷ ys) ≡ Some (i + length xs)
position_here t i [] x ys none passes = rw passes (ap Some (omega arith))
position_here t i (y ∷ xs) x ys none passes = by_case (λ fail. position_here t (i + 1) xs x ys fail passes) (t y) none
  where
    by_case : (list_any t xs ≡ false → position_from t (i + 1) (xs ++ x ∷ ys) ≡ Some (i + 1 + length xs)) → (b : Bool) → (b || list_any t xs) ≡ false
        → cond b (Some i) (position_from t (i + 1) (xs ++ x ∷ ys)) ≡ Some (i + length (y ∷ xs))
    by_case later true none = absurd cc
    by_case later false none = later none ∙ ap Some (omega arith)

-- the member at a place
pub member_at : (graph : List Entry) (id : UpdateId) (k : ℕ) → position_of graph id ≡ Some k → (e : Entry) × (slice_get graph k ≡ Some e) × (same_id id e.id ≡ true)
member_at graph id k e =
    let found = position_found (λ (m : Entry). same_id id m.id) 0 graph k e in
    let there : found.0 ≡ k = omega (arith, found.2) in
    (found.1, subst (λ j. slice_get graph j ≡ Some found.1) there found.3, found.4)

pub held_at : {X : Type 0} (xs : List X) (k : ℕ) (x : X) → slice_get xs k ≡ Some x → Contains xs x
held_at xs k x e = (k, slice_get_within xs k x e, get_or_from_slice_get xs k x x e)

-- a member of a closed graph stands at the place of its id
pub placed : (graph : List Entry) (k : ℕ) (e : Entry) → IsClosed graph → slice_get graph k ≡ Some e → position_of graph e.id ≡ Some k
placed graph k e closed at =
    let parts = split_at graph k e at in
    let next : IsNext parts.0 e = Follows-at [] parts.0 parts.1 e (subst IsClosed parts.2 closed) in
    ap (λ (g : List Entry). position_of g e.id) parts.2
    ∙ position_here (λ (m : Entry). same_id e.id m.id) 0 parts.0 e parts.1 next.new (same_id-refl e.id)
    ∙ ap Some (zero-add (length parts.0) ∙ parts.3)

-- ---- predecessors by ids and by positions

or_right : (a b : Bool) → b ≡ true → (a || b) ≡ true
or_right true b e = refl
or_right false b e = e

-- a place of the list is that of an id
place_to_id : (graph : List Entry) (f : ℕ → Bool) (ids : List UpdateId) (places : List ℕ) → ArePlaces graph ids places → list_any f places ≡ true
    → (id : UpdateId) × (place : ℕ) × (has ids id ≡ true) × (position_of graph id ≡ Some place) × (f place ≡ true)
place_to_id graph f [] [] all any = absurd cc
place_to_id graph f [] (p ∷ ps) all any = absurd all
place_to_id graph f (id ∷ ids) [] all any = absurd all
place_to_id graph f (id ∷ ids) (p ∷ ps) all any = by_case (place_to_id graph f ids ps all.1) (f p) refl any
  where
    by_case : (list_any f ps ≡ true → (q : UpdateId) × (place : ℕ) × (has ids q ≡ true) × (position_of graph q ≡ Some place) × (f place ≡ true)) → (b : Bool) → f p ≡ b → (b || list_any f ps) ≡ true
        → (q : UpdateId) × (place : ℕ) × (has (id ∷ ids) q ≡ true) × (position_of graph q ≡ Some place) × (f place ≡ true)
    by_case later true passes any = (id, p, ap (λ b. b || has ids id) (same_id-refl id), all.0, passes)
    by_case later false fails any = let rest = later any in (rest.0, rest.1, or_right (same_id rest.0 id) (has ids rest.0) rest.2, rest.3, rest.4)

-- an id of the list has its place there
id_to_place : (graph : List Entry) (f : ℕ → Bool) (q : UpdateId) (place : ℕ) → position_of graph q ≡ Some place → f place ≡ true
    → (ids : List UpdateId) (places : List ℕ) → ArePlaces graph ids places → has ids q ≡ true → list_any f places ≡ true
id_to_place graph f q place at passes [] [] all any = absurd cc
id_to_place graph f q place at passes [] (p ∷ ps) all any = absurd all
id_to_place graph f q place at passes (id ∷ ids) [] all any = absurd all
id_to_place graph f q place at passes (id ∷ ids) (p ∷ ps) all any = by_case (id_to_place graph f q place at passes ids ps all.1) (same_id q id) refl any
  where
    by_case : (has ids q ≡ true → list_any f ps ≡ true) → (b : Bool) → same_id q id ≡ b → (b || has ids q) ≡ true → list_any f (p ∷ ps) ≡ true
    by_case later true same any =
        let there : position_of graph q ≡ Some p = ap (position_of graph) (id_from_same q id same) ∙ all.0 in
        let is : place ≡ p = cc in
        ap (λ b. b || list_any f ps) (ap f (sym is) ∙ passes)
    by_case later false apart any = or_right (f p) (list_any f ps) (later any)

-- what a member names by positions, against what it names by ids
zip_left : {A B : Type 0} (R : A → B → Type 0) (xs : List A) (ys : List B) (k : ℕ) (x : A) → AllZip R xs ys → slice_get xs k ≡ Some x → (y : B) × (slice_get ys k ≡ Some y) × R x y
zip_left R [] ys k x all at = absurd cc
zip_left R (a ∷ xs) [] k x all at = absurd all
zip_left {A} {B} R (a ∷ xs) (b ∷ ys) zero x all at = let is : a ≡ x = cc in (b, refl, subst (λ (z : A). R z b) is all.0)
zip_left R (a ∷ xs) (b ∷ ys) (suc k) x all at = zip_left R xs ys k x all.1 at

zip_right : {A B : Type 0} (R : A → B → Type 0) (xs : List A) (ys : List B) (k : ℕ) (y : B) → AllZip R xs ys → slice_get ys k ≡ Some y → (x : A) × (slice_get xs k ≡ Some x) × R x y
zip_right R xs [] k y all at = absurd cc
zip_right R [] (b ∷ ys) k y all at = absurd all
zip_right {A} {B} R (a ∷ xs) (b ∷ ys) zero y all at = let is : b ≡ y = cc in (a, refl, subst (λ (z : B). R a z) is all.0)
zip_right R (a ∷ xs) (b ∷ ys) (suc k) y all at = zip_right R xs ys k y all.1 at

named_places : (graph : List Entry) (positions : List (List ℕ)) (k : ℕ) (e : Entry) → AreNumbered graph positions → slice_get graph k ≡ Some e → ArePlaces graph e.preds (preds_at positions k)
named_places graph positions k e numbered at =
    let places = zip_left (λ (m : Entry) ps. ArePlaces graph m.preds ps) graph positions k e numbered at in
    let is : preds_at positions k ≡ places.0 = ap (λ (o : Option (List ℕ)). unwrap_or o []) places.1 in
    subst (λ (ps : List ℕ). ArePlaces graph e.preds ps) (sym is) places.2

-- ---- positions are lower

lower_each : (graph : List Entry) (front : List Entry) (back : List Entry) (k : ℕ) → graph ≡ front ++ back → length front ≡ k → (ids : List UpdateId) (places : List ℕ)
    → ArePlaces graph ids places → AllByRecursion (λ id. holds front id ≡ true) ids → AllByRecursion (λ p. p < k) places
lower_each graph front back k is long [] [] all held = tt
lower_each graph front back k is long [] (p ∷ ps) all held = absurd all
lower_each graph front back k is long (id ∷ ids) [] all held = absurd all
lower_each graph front back k is long (id ∷ ids) (p ∷ ps) all held =
    let at : position_of (front ++ back) id ≡ Some p = subst (λ (g : List Entry). position_of g id ≡ Some p) is all.0 in
    let early = position_before (λ (m : Entry). same_id id m.id) 0 front back p held.0 at in
    (omega arith, lower_each graph front back k is long ids ps all.1 held.1)

pub numbered_lower : (graph : List Entry) (positions : List (List ℕ)) → IsClosed graph → AreNumbered graph positions → AreLower positions
numbered_lower graph positions closed numbered = λ b. All-from_recursion (λ p. p < b) (preds_at positions b) (by_case b (slice_get positions b) refl)
  where
    by_case : (b : ℕ) (o : Option (List ℕ)) → slice_get positions b ≡ o → AllByRecursion (λ p. p < b) (unwrap_or o [])
    by_case b None none = tt
    by_case b (Some ps) at =
        let mine = zip_right (λ (m : Entry) qs. ArePlaces graph m.preds qs) graph positions b ps numbered at in
        let parts = split_at graph b mine.0 mine.1 in
        let next : IsNext parts.0 mine.0 = Follows-at [] parts.0 parts.1 mine.0 (subst IsClosed parts.2 closed) in
        lower_each graph parts.0 (mine.0 ∷ parts.1) b parts.2 parts.3 mine.0.preds ps mine.2
        (recursion_from_All (λ id. holds parts.0 id ≡ true) mine.0.preds next.preds)

-- ---- the two are one

or_cases : (a b : Bool) → (a || b) ≡ true → (a ≡ true) ⊎ (b ≡ true)
or_cases true b e = inl refl
or_cases false b e = inr e

-- what a member names by an id that is at a place, it names by the id of the member there
calls_member : (e m : Entry) (id : UpdateId) → has e.preds id ≡ true → same_id id m.id ≡ true → has e.preds m.id ≡ true
calls_member e m id calls same = ap (has e.preds) (sym (id_from_same id m.id same)) ∙ calls

walk_down : (graph : List Entry) (positions : List (List ℕ)) → AreNumbered graph positions → (n a b : ℕ) (x y : Entry) → slice_get graph a ≡ Some x → slice_get graph b ≡ Some y
    → leads_in positions n a b ≡ true → IsAncestor graph x y
unfolding leads_in
walk_down graph positions numbered zero a b x y at_x at_y e = absurd cc
walk_down graph positions numbered (suc n) a b x y at_x at_y e =
    let found = place_to_id graph (λ p. (p == a) || leads_in positions n a p) y.preds (preds_at positions b) (named_places graph positions b y numbered at_y) e in
    let there = member_at graph found.0 found.1 found.3 in
    let calls = calls_member y there.0 found.0 found.2 there.2 in
    elim (or_cases (found.1 == a) (leads_in positions n a found.1) found.4) [
      | inl same ↦
          let at : slice_get graph a ≡ Some there.0 = ap (slice_get graph) (sym (eqb-true found.1 a same)) ∙ there.1 in
          let is : there.0 ≡ x = cc in
          named y (held_at graph a x at_x) (ap (λ (m : Entry). has y.preds m.id) (sym is) ∙ calls)
      | inr rest ↦ through there.0 y (held_at graph found.1 there.0 there.1) calls (walk_down graph positions numbered n a found.1 x there.0 at_x there.1 rest)
    ]

-- what a member names, with a test that its place passes
passes_by_name : (graph : List Entry) (positions : List (List ℕ)) → IsClosed graph → AreNumbered graph positions → (a b k : ℕ) (m y : Entry) → slice_get graph k ≡ Some m → slice_get graph b ≡ Some y
    → has y.preds m.id ≡ true → ((k == a) || is_ancestor positions a k) ≡ true → is_ancestor positions a b ≡ true
passes_by_name graph positions closed numbered a b k m y at_m at_y calls passes =
    by_predecessors positions a b (numbered_lower graph positions closed numbered)
    ∙ id_to_place graph (λ p. (p == a) || is_ancestor positions a p) m.id k (placed graph k m closed at_m) passes y.preds (preds_at positions b) (named_places graph positions b y numbered at_y) calls

walk_up : (graph : List Entry) (positions : List (List ℕ)) → IsClosed graph → AreNumbered graph positions → (a : ℕ) (x : Entry) → slice_get graph a ≡ Some x → (b : ℕ) (y : Entry) → slice_get graph b ≡ Some y
    → IsAncestor graph x y → is_ancestor positions a b ≡ true
walk_up graph positions closed numbered a x at_x b y at_y (named _ held calls) =
    passes_by_name graph positions closed numbered a b a x y at_x at_y calls (ap (λ t. t || is_ancestor positions a a) (eq-eqb a a refl))
walk_up graph positions closed numbered a x at_x b y at_y (through m _ held calls rest) =
    let at_m : slice_get graph held.0 ≡ Some m = slice_get-get_or graph held.0 m held.1 ∙ ap Some held.2 in
    passes_by_name graph positions closed numbered a b held.0 m y at_m at_y calls
    (or_right (held.0 == a) (is_ancestor positions a held.0) (walk_up graph positions closed numbered a x at_x held.0 m at_m rest))

pub walks_are : (graph : List Entry) (positions : List (List ℕ)) (a b : ℕ) (x y : Entry) → IsClosed graph → AreNumbered graph positions → slice_get graph a ≡ Some x → slice_get graph b ≡ Some y
    → (is_ancestor positions a b ≡ true) ↔ IsAncestor graph x y
walks_are graph positions a b x y closed numbered at_x at_y =
    (walk_down graph positions numbered (suc b) a b x y at_x at_y, walk_up graph positions closed numbered a x at_x b y at_y)
