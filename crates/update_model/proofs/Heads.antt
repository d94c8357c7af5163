-- Laws of heads: they are a function of the set of members, and stand above all of these.
use Rattle.std.proofs.Common.{◌≡◌, ◌≢◌, ◌⊎◌, inl, inr, Bool, true, false, List, [], ◌∷◌, ◌++◌, refl, sym, ap, subst, ◌∙◌, ◌||◌, append_assoc, Contains, arith, ℕ, zero, suc, length, ◌<◌, get_or}
use Rattle.std.specs.List.{list_any, AllByRecursion}
use Rattle.std.specs.List.Sorted.{IsStrictlySortedBy}
use Rattle.std.specs.Cmp.{both_ways}
use Rattle.std.specs.declared.cmp.Ordering.TheVariants.{Less, Greater}
use Rattle.std.proofs.lemmas.List.Folds.{Any-from_list_any, list_any-from_Any, list_any-append}
use Rattle.std.proofs.lemmas.List.Elements.{All-contains, Contains-append_right}
use Rattle.update_model.specs.declared.update_id.UpdateId.{UpdateId}
use Rattle.update_model.specs.Entry.{Entry, id_cmp, same_id}
use Rattle.update_model.specs.Graph.{has, holds, names, IsNext, Follows, IsClosed, IsAncestor, named, through, IsHead, AreHeads, HaveSameMembers}
use Rattle.update_model.proofs.Closed.{Follows-push}
use Rattle.update_model.proofs.Ids.{id_cmp_total, id_from_same, same_id-refl}

-- ---- one that passes

pub witness : {X : Type 0} (p : X → Bool) (xs : List X) → list_any p xs ≡ true → (x : X) × Contains xs x × (p x ≡ true)
witness p xs e = let a = Any-from_list_any p xs e in (a.1, (a.0, a.2, a.3), a.4)

pub any_from_member : {X : Type 0} (p : X → Bool) (xs : List X) (x : X) → Contains xs x → p x ≡ true → list_any p xs ≡ true
any_from_member p xs x c e = list_any-from_Any p xs (c.0, x, c.1, c.2, e)

same_any : (p : Entry → Bool) (graph other : List Entry) → HaveSameMembers graph other → list_any p graph ≡ list_any p other
same_any p graph other same = both_ways _ _
    (λ e. let w = witness p graph e in any_from_member p other w.0 ((same w.0).0 w.1) w.2)
    (λ e. let w = witness p other e in any_from_member p graph w.0 ((same w.0).1 w.1) w.2)

-- ---- strictly rising lists with the same members are one

or_cases : (a b : Bool) → (a || b) ≡ true → (a ≡ true) ⊎ (b ≡ true)
or_cases true b e = inl refl
or_cases false b e = inr e

-- an id is not among those above it
has_above : (x : UpdateId) (xs : List UpdateId) → AllByRecursion (λ y. id_cmp x y ≡ Less) xs → has xs x ≡ false
has_above x [] above = refl
has_above x (y ∷ ys) above = rw above.0 (has_above x ys above.1)

less_than_member : (x q : UpdateId) (xs : List UpdateId) → AllByRecursion (λ y. id_cmp x y ≡ Less) xs → has xs q ≡ true → id_cmp x q ≡ Less
less_than_member x q [] above e = absurd cc
less_than_member x q (y ∷ ys) above e = elim (or_cases (same_id q y) (has ys q) e) [
  | inl s ↦ rw (id_from_same q y s) above.0
  | inr m ↦ less_than_member x q ys above.1 m
]

both_less : (x y : UpdateId) → id_cmp x y ≡ Less → id_cmp y x ≡ Less → ⊥
both_less x y e f = let turned = id_cmp_total.antisymm x y in let at : id_cmp x y ≡ Greater = rw f at turned in absurd cc

-- what rising lists with the same members begin with
same_first : (x y : UpdateId) (xs ys : List UpdateId) → AllByRecursion (λ z. id_cmp x z ≡ Less) xs → AllByRecursion (λ z. id_cmp y z ≡ Less) ys
    → has (x ∷ xs) x ≡ has (y ∷ ys) x → has (x ∷ xs) y ≡ has (y ∷ ys) y → x ≡ y
same_first x y xs ys over_x over_y at_x at_y =
    let x_there : has (y ∷ ys) x ≡ true = sym at_x ∙ ap (λ b. b || has xs x) (same_id-refl x) in
    let y_there : has (x ∷ xs) y ≡ true = at_y ∙ ap (λ b. b || has ys y) (same_id-refl y) in
    elim (or_cases (same_id x y) (has ys x) x_there) [
      | inl s ↦ id_from_same x y s
      | inr under ↦ elim (or_cases (same_id y x) (has xs y) y_there) [
        | inl s ↦ sym (id_from_same y x s)
        | inr over ↦ absurd (both_less x y (less_than_member x y xs over_x over) (less_than_member y x ys over_y under))
      ]
    ]

same_rest : (x q : UpdateId) (xs ys : List UpdateId) → AllByRecursion (λ z. id_cmp x z ≡ Less) xs → AllByRecursion (λ z. id_cmp x z ≡ Less) ys
    → (same_id q x || has xs q) ≡ (same_id q x || has ys q) → has xs q ≡ has ys q
same_rest x q xs ys over other e = by_case (same_id q x) refl
  where
    by_case : (b : Bool) → same_id q x ≡ b → has xs q ≡ has ys q
    by_case true s = rw (id_from_same q x s) (has_above x xs over ∙ sym (has_above x ys other))
    by_case false s = rw s at e

pub sorted_same : (xs ys : List UpdateId) → IsStrictlySortedBy id_cmp xs → IsStrictlySortedBy id_cmp ys → ((q : UpdateId) → has xs q ≡ has ys q) → xs ≡ ys
unfolding IsStrictlySortedBy
sorted_same [] [] s t e = refl
sorted_same [] (y ∷ ys) s t e = absurd (let there : has (y ∷ ys) y ≡ true = ap (λ b. b || has ys y) (same_id-refl y) in let none = e y in cc)
sorted_same (x ∷ xs) [] s t e = absurd (let there : has (x ∷ xs) x ≡ true = ap (λ b. b || has xs x) (same_id-refl x) in let none = e x in cc)
sorted_same (x ∷ xs) (y ∷ ys) s t e =
    let first = same_first x y xs ys s.0 t.0 (e x) (e y) in
    let over : AllByRecursion (λ z. id_cmp x z ≡ Less) ys = rw first t.0 in
    let rest = sorted_same xs ys s.1 t.1 (λ q. same_rest x q xs ys s.0 over (let at = e q in rw (← first) at at)) in
    cc

pub heads_same : (graph other : List Entry) (heads others : List UpdateId) → HaveSameMembers graph other → AreHeads graph heads → AreHeads other others → heads ≡ others
heads_same graph other heads others same a b = sorted_same heads others a.rising b.rising (λ q.
    let held = same_any (λ e. same_id q e.id) graph other same in
    let called = same_any (λ e. has e.preds q) graph other same in
    let here = a.exact q in
    let there = b.exact q in
    cc)

-- ---- every member is below a head

-- what the members name is held
pub holds-named : (before es : List Entry) (id : UpdateId) → Follows before es → names es id ≡ true → holds (before ++ es) id ≡ true
holds-named before [] id f e = absurd cc
holds-named before (x ∷ xs) id f e = elim (or_cases (has x.preds id) (names xs id) e) [
  | inl own ↦
      let w = witness (same_id id) x.preds own in
      let held : holds before w.0 ≡ true = All-contains (λ p. holds before p ≡ true) x.preds w.0 f.0.preds w.1 in
      let same = id_from_same id w.0 w.2 in
      let here : holds before id ≡ true = rw same held in
      list_any-append (λ m. same_id id m.id) before (x ∷ xs) ∙ ap (λ b. b || holds (x ∷ xs) id) here
  | inr later ↦ rw (← append_assoc before (x ∷ []) xs) (holds-named (before ++ x ∷ []) xs id f.1 later)
]

-- an ancestor of a member is one of its successors too
further : (graph : List Entry) (x f h : Entry) → Contains graph x → Contains graph f → has f.preds x.id ≡ true → IsAncestor graph f h → IsAncestor graph x h
further graph x f h held_x held_f calls (named _ held calls_f) = through f h held_f calls_f (named f held_x calls)
further graph x f h held_x held_f calls (through p _ held calls_p rest) = through p h held calls_p (further graph x f p held_x held_f calls rest)

-- a head at or above the member
abbrev pub IsCovered : List Entry → Entry → Type 0
IsCovered graph e = (head : Entry) × Contains graph head × IsHead graph head × ((head ≡ e) ⊎ IsAncestor graph e head)

-- no member up to itself names the next one
not_named : (before xs : List Entry) (x : Entry) → Follows [] before → IsNext before x → names (before ++ x ∷ xs) x.id ≡ true → names xs x.id ≡ true
not_named before xs x closed next e =
    let parts : (names before x.id || (has x.preds x.id || names xs x.id)) ≡ true = sym (list_any-append (λ m. has m.preds x.id) before (x ∷ xs)) ∙ e in
    elim (or_cases (names before x.id) (has x.preds x.id || names xs x.id) parts) [
      | inl earlier ↦ absurd (let held = holds-named [] before x.id closed earlier in let new = next.new in cc)
      | inr rest ↦ elim (or_cases (has x.preds x.id) (names xs x.id) rest) [
        | inl own ↦ absurd (let w = witness (same_id x.id) x.preds own in
            let held : holds before w.0 ≡ true = All-contains (λ p. holds before p ≡ true) x.preds w.0 next.preds w.1 in
            let same = id_from_same x.id w.0 w.2 in
            let new = next.new in cc)
        | inr later ↦ later
      ]
    ]

climb : (graph : List Entry) (x f : Entry) → Contains graph x → Contains graph f → has f.preds x.id ≡ true → IsCovered graph f → IsCovered graph x
climb graph x f held_x held_f calls cover = elim cover.3 [
  | inl is ↦ (cover.0, cover.1, cover.2, inr (rw is (named f held_x calls)))
  | inr above ↦ (cover.0, cover.1, cover.2, inr (further graph x f cover.0 held_x held_f calls above))
]

cons_cases : (x : Entry) (xs : List Entry) (e : Entry) → Contains (x ∷ xs) e → (x ≡ e) ⊎ Contains xs e
cons_cases x xs e c = at c.0 c.1 c.2
  where
    at : (k : ℕ) → k < length (x ∷ xs) → get_or (x ∷ xs) k e ≡ e → (x ≡ e) ⊎ Contains xs e
    at zero low is = inl is
    at (suc k) low is = inr (k, omega arith, is)

first_member : (x : Entry) (xs : List Entry) → Contains (x ∷ xs) x
first_member x xs = (0, omega arith, refl)

covered_first : (before xs : List Entry) (x : Entry) → Follows [] before → IsNext before x
    → ((e : Entry) → Contains xs e → IsCovered (before ++ x ∷ xs) e) → IsCovered (before ++ x ∷ xs) x
covered_first before xs x closed next later = by_case (names (before ++ x ∷ xs) x.id) refl
  where
    held : Contains (before ++ x ∷ xs) x
    held = Contains-append_right before (x ∷ xs) x (first_member x xs)

    by_case : (b : Bool) → names (before ++ x ∷ xs) x.id ≡ b → IsCovered (before ++ x ∷ xs) x
    by_case false e = (x, held, e, inl refl)
    by_case true e =
        let w = witness (λ m. has m.preds x.id) xs (not_named before xs x closed next e) in
        climb (before ++ x ∷ xs) x w.0 held (Contains-append_right before (x ∷ xs) w.0 (Contains-append_right (x ∷ []) xs w.0 w.1)) w.2 (later w.0 w.1)

pub covered : (before es : List Entry) → Follows [] before → Follows before es → (e : Entry) → Contains es e → IsCovered (before ++ es) e
covered before [] closed f e c = absurd (omega (arith, c.1))
covered before (x ∷ xs) closed f e c =
    let later : (m : Entry) → Contains xs m → IsCovered (before ++ x ∷ xs) m =
    λ m held. let P : List Entry → Type 0 = λ g. IsCovered g m in subst P (append_assoc before (x ∷ []) xs) (covered (before ++ x ∷ []) xs (Follows-push [] before x closed f.0) f.1 m held) in
    elim (cons_cases x xs e c) [
      | inl is ↦ let P : Entry → Type 0 = λ m. IsCovered (before ++ x ∷ xs) m in subst P is (covered_first before xs x closed f.0 later)
      | inr held ↦ later e held
    ]

pub has_head : (graph : List Entry) → IsClosed graph → graph ≢ [] → (head : Entry) × Contains graph head × IsHead graph head
has_head [] closed some = absurd (some refl)
has_head (x ∷ xs) closed some = let cover = covered [] (x ∷ xs) tt closed x (first_member x xs) in (cover.0, cover.1, cover.2)
