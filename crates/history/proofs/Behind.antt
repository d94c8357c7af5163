-- What is new to whoever has some members, by positions and by ids.
use Rattle.std.proofs.Common.{nat_lt, ◌≡◌, inl, inr, ℕ, zero, suc, ◌<◌, ◌≤◌, ◌==◌, Bool, true, false, cond, ◌||◌, List, [], ◌∷◌, ◌++◌, length, map, take, refl, sym, ap, subst, ◌∙◌, arith, All, Option, Some, None, slice_get}
use Rattle.std.specs.List.{cons_option, filter_map, list_any, AllByRecursion}
use Rattle.std.specs.List.Sorted.{IsStrictlySortedBy}
use Rattle.std.specs.Ordering.{nat_cmp}
use Rattle.std.specs.declared.cmp.Ordering.TheVariants.{Less, Equal, Greater}
use Rattle.std.proofs.lemmas.Bool.{both_ways, eq-eqb, eqb-true, or_cases, or_left, or_right}
use Rattle.std.proofs.lemmas.Bool.Decides.{nat_tests}
use Rattle.std.proofs.lemmas.List.{length-map, length-take-le, map-append}
use Rattle.std.proofs.lemmas.List.Elements.{All-cons, All-head, All-nil, All-tail, filter_map-append}
use Rattle.std.proofs.lemmas.Option.{slice_get-get_or, slice_get_within}
use Rattle.update_model.specs.declared.update_id.UpdateId.{UpdateId}
use Rattle.update_model.specs.Entry.{Entry, same_id}
use Rattle.update_model.specs.Graph.{has, position_of, IsClosed}
use Rattle.update_model.specs.Since.{AreSince, IsBehind, Picks}
use Rattle.update_model.proofs.Ids.{id_from_same, same_id-refl}
use Rattle.update_codec.specs.Parts.{entry_of}
use Rattle.update_check.specs.Holding.{ArePositionsSince, at_positions}
use Rattle.ancestry.specs.Numbered.{AreNumbered}
use Rattle.ancestry.specs.Since.{is_behind, since}
use Rattle.ancestry.specs.Walks.{AreLower, is_ancestor}
use Rattle.ancestry.proofs.Numbers.{held_at, member_at, placed, walks_are}
use Rattle.ancestry.proofs.Steps.{stays}
use Rattle.history.specs.Arrivals.{nodes_before, place_in, places_before, places_of}
use Rattle.history.proofs.Arriving.{front_closed, length-before, take_next}
use Rattle.history.proofs.Fronts.{newer_nodes, nodes_split}
use Rattle.history.proofs.Numbers.{bytes_at, numbers}
use Rattle.history.proofs.Steps.{behind}

turn : (a b : UpdateId) → same_id a b ≡ true → same_id b a ≡ true
turn a b same = subst (λ (x : UpdateId). same_id x a ≡ true) (id_from_same a b same) (same_id-refl a)

module _ (graph : List Entry) where
  -- a member passes that has one of the ids
  abbrev FoundIn : (ℕ → Bool) → List UpdateId → Type 0
  FoundIn t ids = (q : ℕ) × (d : Entry) × (slice_get graph q ≡ Some d) × (t q ≡ true) × (has ids d.id ≡ true)

  -- of the places of ids one passes
  any_placed : (t : ℕ → Bool) (ids : List UpdateId) → list_any t (filter_map (position_of graph) ids) ≡ true → FoundIn t ids
  any_placed t [] e = absurd cc
  any_placed t (id ∷ ids) e = by_case (λ rest. any_placed t ids rest) (position_of graph id) refl e
    where
      by_case : (list_any t (filter_map (position_of graph) ids) ≡ true → FoundIn t ids) → (o : Option ℕ) → position_of graph id ≡ o
          → list_any t (cons_option o (filter_map (position_of graph) ids)) ≡ true → FoundIn t (id ∷ ids)
      by_case more None at any = let found = more any in (found.0, found.1, found.2, found.3, or_right (same_id found.1.id id) _ found.4)
      by_case more (Some q) at any = elim (or_cases (t q) _ any) [
        | inl passes ↦ let there = member_at graph id q at in (q, there.0, there.1, passes, or_left (same_id there.0.id id) _ (turn id there.0.id there.2))
        | inr rest ↦ let found = more rest in (found.0, found.1, found.2, found.3, or_right (same_id found.1.id id) _ found.4)
      ]

  -- a member that has one of the ids, and passes
  placed_any : IsClosed graph → (t : ℕ → Bool) (ids : List UpdateId) (q : ℕ) (d : Entry) → slice_get graph q ≡ Some d → has ids d.id ≡ true → t q ≡ true
      → list_any t (filter_map (position_of graph) ids) ≡ true
  placed_any closed t [] q d at held passes = absurd cc
  placed_any closed t (id ∷ ids) q d at held passes = elim (or_cases (same_id d.id id) _ held) [
    | inl same ↦
        let here : position_of graph id ≡ Some q = ap (position_of graph) (sym (id_from_same d.id id same)) ∙ placed graph q d closed at in
        ap (λ o. list_any t (cons_option o (filter_map (position_of graph) ids))) here ∙ or_left (t q) _ passes
    | inr later ↦ by_case (position_of graph id) (placed_any closed t ids q d at later passes)
  ]
    where
      by_case : (o : Option ℕ) → list_any t (filter_map (position_of graph) ids) ≡ true → list_any t (cons_option o (filter_map (position_of graph) ids)) ≡ true
      by_case None rest = rest
      by_case (Some p) rest = or_right (t p) _ rest

  -- the whole list of positions says of these members what the front of it does
  module _ (positions whole : List (List ℕ)) (closed : IsClosed graph) (numbered : AreNumbered graph positions)
      (same : (p q : ℕ) → q < length graph → is_ancestor whole p q ≡ is_ancestor positions p q) (old : List UpdateId) where
    behind_means : (p : ℕ) (e : Entry) → slice_get graph p ≡ Some e → is_behind whole (filter_map (position_of graph) old) p ≡ true → IsBehind graph old e
    behind_means p e at is =
        let found = any_placed (λ q. (q == p) || is_ancestor whole p q) old is in
        let q : ℕ = found.0 in
        let d : Entry = found.1 in
        elim (or_cases (q == p) (is_ancestor whole p q) found.3) [
          | inl here ↦
              let there : slice_get graph p ≡ Some d = ap (slice_get graph) (sym (eqb-true q p here)) ∙ found.2 in
              let one : d ≡ e = cc in
              inl (ap (λ (m : Entry). has old m.id) (sym one) ∙ found.4)
          | inr above ↦
              let low = slice_get_within graph q d found.2 in
              inr (d, held_at graph q d found.2, found.4, (walks_are graph positions p q e d closed numbered at found.2).0 (sym (same p q low) ∙ above))
        ]

    not_behind : (p : ℕ) (e : Entry) → slice_get graph p ≡ Some e → is_behind whole (filter_map (position_of graph) old) p ≡ false → IsBehind graph old e → ⊥
    not_behind p e at is (inl held) =
        both_ways _ is (placed_any closed (λ q. (q == p) || is_ancestor whole p q) old p e at held (or_left (p == p) _ (eq-eqb p p refl)))
    not_behind p e at is (inr d) =
        let q : ℕ = d.1.0 in
        let low : q < length graph = d.1.1 in
        let there : slice_get graph q ≡ Some d.0 = slice_get-get_or graph q d.0 low ∙ ap Some d.1.2 in
        let above : is_ancestor whole p q ≡ true = same p q low ∙ (walks_are graph positions p q e d.0 closed numbered at there).1 d.3 in
        both_ways _ is (placed_any closed (λ k. (k == p) || is_ancestor whole p k) old q d.0 there d.2 (or_right (q == p) _ above))

-- ---- one more element

pub picks_more : {X : Type 0} (P : X → Type 0) (xs : List X) (x : X) (out : List X) → Picks P xs out → P x → Picks P (xs ++ x ∷ []) (out ++ x ∷ [])
picks_more P [] x out picks p = inl (p, ([], ap (λ l. l ++ x ∷ []) picks, refl))
picks_more P (y ∷ ys) x out (inl here) p = inl (here.0, (here.1.0 ++ x ∷ [], ap (λ l. l ++ x ∷ []) here.1.1, picks_more P ys x here.1.0 here.1.2 p))
picks_more P (y ∷ ys) x out (inr there) p = inr (there.0, picks_more P ys x out there.1 p)

pub picks_skip : {X : Type 0} (P : X → Type 0) (xs : List X) (x : X) (out : List X) → Picks P xs out → ¬ (P x) → Picks P (xs ++ x ∷ []) out
picks_skip P [] x out picks fails = inr (fails, picks)
picks_skip P (y ∷ ys) x out (inl here) fails = inl (here.0, (here.1.0, here.1.1, picks_skip P ys x here.1.0 here.1.2 fails))
picks_skip P (y ∷ ys) x out (inr there) fails = inr (there.0, picks_skip P ys x out there.1 fails)

-- ---- positions that rise

below_is_less : (x n : ℕ) → x < n → nat_cmp x n ≡ Less
below_is_less x n low = let test : nat_lt x n ≡ true = grind (arith, nat_tests) in ap (λ b. cond b Less (cond (x == n) Equal Greater)) test

push_each : (P : ℕ → Type 0) (xs : List ℕ) (n : ℕ) → AllByRecursion P xs → P n → AllByRecursion P (xs ++ n ∷ [])
push_each P [] n all last = (last, tt)
push_each P (x ∷ xs) n all last = (all.0, push_each P xs n all.1 last)

-- what rises below a number rises with the number behind it
rise_more : (xs : List ℕ) (n : ℕ) → IsStrictlySortedBy nat_cmp xs → All (λ p. p < n) xs → IsStrictlySortedBy nat_cmp (xs ++ n ∷ [])
unfolding IsStrictlySortedBy
rise_more [] n sorted low = (tt, tt)
rise_more (x ∷ xs) n sorted low =
    (push_each (λ y. nat_cmp x y ≡ Less) xs n sorted.0 (below_is_less x n (All-head (λ p. p < n) x xs low)), rise_more xs n sorted.1 (All-tail (λ p. p < n) x xs low))

all_later : (xs : List ℕ) (n : ℕ) → All (λ p. p < n) xs → All (λ p. p < suc n) xs
all_later [] n all = All-nil (λ p. p < suc n)
all_later (x ∷ xs) n all =
    let here : x < n = All-head (λ p. p < n) x xs all in All-cons (λ p. p < suc n) x xs (omega arith) (all_later xs n (All-tail (λ p. p < n) x xs all))

all_with : (xs : List ℕ) (n : ℕ) → All (λ p. p < suc n) xs → All (λ p. p < suc n) (xs ++ n ∷ [])
all_with [] n all = All-cons (λ p. p < suc n) n [] (omega arith) (All-nil (λ p. p < suc n))
all_with (x ∷ xs) n all = All-cons (λ p. p < suc n) x (xs ++ n ∷ []) (All-head (λ p. p < suc n) x xs all) (all_with xs n (All-tail (λ p. p < suc n) x xs all))

pub rising : (whole : List (List ℕ)) (olds : List ℕ) (n : ℕ) → IsStrictlySortedBy nat_cmp (since whole olds n) × All (λ p. p < n) (since whole olds n)
unfolding since IsStrictlySortedBy
rising whole olds zero = (tt, All-nil (λ p. p < 0))
rising whole olds (suc n) = by_case (is_behind whole olds n) (rising whole olds n)
  where
    by_case : (b : Bool) → IsStrictlySortedBy nat_cmp (since whole olds n) × All (λ p. p < n) (since whole olds n)
        → IsStrictlySortedBy nat_cmp (cond b (since whole olds n) (since whole olds n ++ n ∷ [])) × All (λ p. p < suc n) (cond b (since whole olds n) (since whole olds n ++ n ∷ []))
    by_case true so = (so.0, all_later (since whole olds n) n so.1)
    by_case false so = (rise_more (since whole olds n) n so.0 so.1, all_with (since whole olds n) n (all_later (since whole olds n) n so.1))

-- ---- the members at the positions

entry_in_front : (members : List (List ℕ)) (below i : ℕ) (bytes : List ℕ) → i < below → slice_get members i ≡ Some bytes → slice_get (map entry_of (take below members)) i ≡ Some (entry_of bytes)
entry_in_front [] below i bytes low at = absurd cc
entry_in_front (b ∷ members) zero i bytes low at = absurd (omega arith)
entry_in_front (b ∷ members) (suc below) zero bytes low at = let same : b ≡ bytes = cc in ap (λ x. Some (entry_of x)) same
entry_in_front (b ∷ members) (suc below) (suc i) bytes low at = entry_in_front members below i bytes (omega arith) at

module _ (members : List (List ℕ)) (below : ℕ) (within : below ≤ length members) (positions whole : List (List ℕ)) (closed : IsClosed (map entry_of (take below members)))
    (numbered : AreNumbered (map entry_of (take below members)) positions)
    (same : (p q : ℕ) → q < length (map entry_of (take below members)) → is_ancestor whole p q ≡ is_ancestor positions p q) (old : List UpdateId) where
  abbrev IsNew : Entry → Type 0
  IsNew e = ¬ (IsBehind (map entry_of (take below members)) old e)

  abbrev olds : List ℕ
  olds = filter_map (position_of (map entry_of (take below members))) old

  pub picked : (n : ℕ) → n ≤ below → Picks IsNew (map entry_of (take n members)) (map entry_of (at_positions members (since whole olds n)))
  unfolding since
  picked zero low = refl
  picked (suc n) low = by_case (is_behind whole olds n) refl (picked n (omega arith))
    where
      by_case : (b : Bool) → is_behind whole olds n ≡ b → Picks IsNew (map entry_of (take n members)) (map entry_of (at_positions members (since whole olds n)))
          → Picks IsNew (map entry_of (take (suc n) members)) (map entry_of (at_positions members (cond b (since whole olds n) (since whole olds n ++ n ∷ []))))
      by_case true is rest =
          let there = bytes_at members n (omega arith) in
          let e = entry_of there.0 in
          let at = entry_in_front members below n there.0 (omega arith) there.1 in
          let parts : map entry_of (take (suc n) members) ≡ map entry_of (take n members) ++ e ∷ [] =
          ap (map entry_of) (take_next members n there.0 there.1) ∙ map-append entry_of (take n members) (there.0 ∷ []) in
          subst (λ (l : List Entry). Picks IsNew l (map entry_of (at_positions members (since whole olds n)))) (sym parts)
          (picks_skip IsNew (map entry_of (take n members)) e (map entry_of (at_positions members (since whole olds n))) rest
          (λ new. new (behind_means (map entry_of (take below members)) positions whole closed numbered same old n e at is)))
      by_case false is rest =
          let there = bytes_at members n (omega arith) in
          let e = entry_of there.0 in
          let at = entry_in_front members below n there.0 (omega arith) there.1 in
          let parts : map entry_of (take (suc n) members) ≡ map entry_of (take n members) ++ e ∷ [] =
          ap (map entry_of) (take_next members n there.0 there.1) ∙ map-append entry_of (take n members) (there.0 ∷ []) in
          let before = since whole olds n in
          let out : map entry_of (at_positions members (before ++ n ∷ [])) ≡ map entry_of (at_positions members before) ++ e ∷ [] =
          ap (map entry_of) (filter_map-append (slice_get members) before (n ∷ []) ∙ ap (λ (o : Option (List ℕ)). at_positions members before ++ cons_option o []) there.1)
          ∙ map-append entry_of (at_positions members before) (there.0 ∷ []) in
          subst (λ (l : List Entry). Picks IsNew l (map entry_of (at_positions members (before ++ n ∷ [])))) (sym parts)
          (subst (Picks IsNew (map entry_of (take n members) ++ e ∷ [])) (sym out)
          (picks_more IsNew (map entry_of (take n members)) e (map entry_of (at_positions members before)) rest
          (not_behind (map entry_of (take below members)) positions whole closed numbered same old n e at is)))

pub positions_since : (members : List (List ℕ)) (below : ℕ) (whole : List (List ℕ)) (old : List UpdateId) (olds : List ℕ) → below ≤ length members → IsClosed (map entry_of members)
    → whole ≡ places_before members (length members) → AreLower whole → olds ≡ filter_map (position_of (map entry_of (take below members))) old
    → ArePositionsSince members below old (since whole olds below)
positions_since members below whole old olds within closed is lower are =
    let front = map entry_of (take below members) in
    let positions = places_before members below in
    let more = behind (place_in members) (newer_nodes members (length members) below) (nodes_before members below) in
    let parts : whole ≡ positions ++ more.0 =
    is ∙ ap (places_of (place_in members)) (nodes_split members (length members) below within) ∙ more.1 in
    let many : length front ≡ length positions = length-map (take below members) entry_of ∙ length-take-le below members within ∙ sym (length-before members below within) in
    let same : (p q : ℕ) → q < length front → is_ancestor whole p q ≡ is_ancestor positions p q = λ p q low.
    ap (λ (g : List (List ℕ)). is_ancestor g p q) parts ∙ stays positions more.0 p q (omega (arith, many)) (subst AreLower parts lower) in
    let picks = picked members below within positions whole (front_closed members below closed) (numbers members below closed within) same old below (omega arith) in
    let so = rising whole olds below in
    record {
      rising = so.0;
      within = so.1;
      exact = subst (λ (l : List ℕ). AreSince front old (map entry_of (at_positions members (since whole l below)))) (sym are) picks;
    }
