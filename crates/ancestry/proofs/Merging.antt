-- The steps of the code that finds a clock and a chain.
use Rattle.std.proofs.Common.{◌≡◌, ◌⊎◌, inl, inr, ℕ, suc, ◌+◌, ◌<◌, ◌≤◌, Bool, true, false, ◌||◌, ◌&&◌, not, ltb, List, [], ◌∷◌, ◌++◌, length, refl, sym, ap, subst, ◌∙◌, arith, slice_index_or, All, take, Fits, w32}
use Rattle.std.specs.Prelude.{◌==◌, Option, unwrap_or}
use Rattle.std.specs.List.{list_any}
use Rattle.std.proofs.lemmas.Bool.{eqb-true, eq-eqb, ne_eqb, cases_lt, cases_eq, cases_Bool, ltb-true, lt-ltb, le-ltb, cond-true, cond-false, and_parts, and_from, and_cases, and_left, and_right, or_left, or_right, or_from, not_from_false, not_from_true}
use Rattle.std.proofs.lemmas.List.{take_more, length-append, take_all}
use Rattle.std.proofs.lemmas.List.Elements.{All-contains}
use Rattle.std.proofs.lemmas.List.Folds.{list_any-append}
use Rattle.std.proofs.lemmas.Option.{slice_get_past}
use Rattle.update_model.specs.declared.limits.TheConstants.{MAX_MEMBERS}
use Rattle.update_model.proofs.Heads.{witness}
use Rattle.ancestry.specs.declared.clock.Clock.{Clock}
use Rattle.ancestry.specs.Below.{any_below, count_below}
use Rattle.ancestry.specs.Chains.{chain_at, ends_chain, joined, fresh, next_chain, chains, chain_of, members_below, clock_of}
use Rattle.ancestry.specs.Clocked.{IsClock, AreClocked, AreSizes, raised, with_own}
use Rattle.ancestry.specs.Walks.{preds_at, AreLower, is_ancestor}
use Rattle.ancestry.proofs.Below.{any_witness, any_none, first_low, first_passes, first_skips, first_is, count_longer, count_cut, count_one, count_same, count_low, none_counted, counted_none}
use Rattle.ancestry.proofs.Chained.{long, chain_there, own_place, clock_tells}
use Rattle.ancestry.proofs.Clocking.{brought, greatest, greatest_none, greatest_push, greatest_same, chain_stays, clock_merges, clock_stays, preds_last}
use Rattle.ancestry.proofs.Steps.{preds_stay}

at_place : (P : ℕ → Type 0) (xs : List ℕ) (i : ℕ) → All P xs → i < length xs → P (slice_index_or xs i 0)
at_place P xs i all low = all i 0 low

pub lower_push : (graph : List (List ℕ)) (preds : List ℕ) → AreLower graph → All (λ p. p < length graph) preds → AreLower (graph ++ preds ∷ [])
lower_push graph preds lower own b = elim (cases_lt b (length graph)) [
  | inl low ↦ subst (All (λ p. p < b)) (sym (preds_stay graph (preds ∷ []) b low)) (lower b)
  | inr high ↦ elim (cases_eq b (length graph)) [
    | inl same ↦ rw (same, preds_last graph preds) own
    | inr apart ↦ let none : preds_at (graph ++ preds ∷ []) b ≡ [] = ap (λ (o : Option (List ℕ)). unwrap_or o []) (slice_get_past (graph ++ preds ∷ []) b (let e = length-append graph (preds ∷ []) in omega arith)) in
        rw none (λ k d low. absurd (omega arith))
  ]
]

pub counts_few : (graph : List (List ℕ)) (clocks : List Clock) (preds : List ℕ) (i c : ℕ) (d : Clock) → AreClocked graph clocks → length graph ≤ MAX_MEMBERS → All (λ p. p < length graph) preds → i < length preds → c < 64
    → slice_index_or (slice_index_or clocks (slice_index_or preds i 0) d).counts c 0 ≤ MAX_MEMBERS
counts_few graph clocks preds i c d clocked few own low in_one =
    let p = slice_index_or preds i 0 in
    let held : p < length graph = at_place (λ p. p < length graph) preds i own low in
    let is = (clocked.are p d held).counts.are c in_one in
    omega (arith, is, count_low (λ a. (chain_of graph a == c) && is_ancestor graph a p) p)

pub merged_none : (graph : List (List ℕ)) (c : ℕ) (preds : List ℕ) → 0 ≡ greatest (brought graph c) 0 (take 0 preds)
merged_none graph c preds = sym (greatest_none (brought graph c) 0)

pub merged_more : (graph : List (List ℕ)) (clocks : List Clock) (preds : List ℕ) (i c old new : ℕ) (d : Clock) → AreClocked graph clocks → All (λ p. p < length graph) preds → i < length preds → c < 64
    → old ≡ greatest (brought graph c) 0 (take i preds)
    → new ≡ raised old (with_own (slice_index_or clocks (slice_index_or preds i 0) d).chain c (slice_index_or (slice_index_or clocks (slice_index_or preds i 0) d).counts c 0))
    → new ≡ greatest (brought graph c) 0 (take (i + 1) preds)
merged_more graph clocks preds i c old new d clocked own low in_one before is =
    let p = slice_index_or preds i 0 in
    let held : p < length graph = at_place (λ p. p < length graph) preds i own low in
    let clock = clocked.are p d held in
    let brings : with_own (slice_index_or clocks p d).chain c (slice_index_or (slice_index_or clocks p d).counts c 0) ≡ brought graph c p = rw (clock.chain, clock.counts.are c in_one) refl in
    is ∙ ap (λ x. raised old x) brings ∙ ap (λ m. raised m (brought graph c p)) before ∙ sym (greatest_push (brought graph c) 0 (take i preds) p)
    ∙ ap (greatest (brought graph c) 0) (sym (take_more preds i 0 low))

pub merged_all : (graph : List (List ℕ)) (preds : List ℕ) (i c count : ℕ) → AreLower graph → All (λ p. p < length graph) preds → length preds ≤ i → c < 64
    → count ≡ greatest (brought graph c) 0 (take i preds) → count ≡ clock_of (graph ++ preds ∷ []) (length graph) c
merged_all graph preds i c count lower own high in_one is =
    let grown = graph ++ preds ∷ [] in
    let lower_grown = lower_push graph preds lower own in
    let kept : greatest (brought graph c) 0 preds ≡ greatest (brought grown c) 0 preds = greatest_same (brought graph c) (brought grown c) 0 0 preds (λ p called.
    let w = witness (λ q. q == p) preds called in
    let low : p < length graph = subst (λ q. q < length graph) (eqb-true w.0 p w.2) (All-contains (λ p. p < length graph) preds w.0 own w.1) in
    rw (chain_stays graph (preds ∷ []) p low, clock_stays graph (preds ∷ []) p c lower_grown low) refl) in
    is ∙ ap (greatest (brought graph c) 0) (take_all i preds high) ∙ kept ∙ ap (greatest (brought grown c) 0) (sym (preds_last graph preds)) ∙ clock_merges grown lower_grown (length graph) c in_one

-- ---- the last of a chain

pub ends_out : (graph : List (List ℕ)) (p : ℕ) → p < length graph → 64 ≤ chain_of graph p → ends_chain (chains graph (length graph)) p ≡ false
ends_out graph p held out =
    let before = chains graph (length graph) in
    let here : chain_at before p ≡ chain_of graph p = chain_there graph (length graph) p held in
    and_left (ltb (chain_at before p) 64) (not (any_below (λ q. ltb p q && (chain_at before q == chain_at before p)) (length before))) (le-ltb (chain_at before p) 64 (omega arith))

pub ends_in : (graph : List (List ℕ)) (p : ℕ) → AreLower graph → p < length graph → chain_of graph p < 64
    → ends_chain (chains graph (length graph)) p ≡ (clock_of graph p (chain_of graph p) + 1 == members_below graph (length graph) (chain_of graph p))
ends_in graph p lower held in_one =
    let before = chains graph (length graph) in
    let later = λ (q : ℕ). ltb p q && (chain_at before q == chain_at before p) in
    by_case (cases_Bool (any_below later (length before)))
  where
    here : chain_at (chains graph (length graph)) p ≡ chain_of graph p
    here = chain_there graph (length graph) p held

    size : length (chains graph (length graph)) ≡ length graph
    size = long graph (length graph)

    own : members_below graph p (chain_of graph p) ≡ clock_of graph p (chain_of graph p)
    own = own_place graph lower p in_one

    one : members_below graph (suc p) (chain_of graph p) ≡ suc (members_below graph p (chain_of graph p))
    one = count_one (λ x. chain_of graph x == chain_of graph p) p (eq-eqb (chain_of graph p) (chain_of graph p) refl)

    none_later : any_below (λ q. ltb p q && (chain_at (chains graph (length graph)) q == chain_at (chains graph (length graph)) p)) (length (chains graph (length graph))) ≡ false
        → (j : ℕ) → suc p ≤ j → j < length graph → (chain_of graph j == chain_of graph p) ≡ false
    none_later none j high low =
        elim (and_cases (ltb p j) (chain_at (chains graph (length graph)) j == chain_at (chains graph (length graph)) p)
        (any_none (λ q. ltb p q && (chain_at (chains graph (length graph)) q == chain_at (chains graph (length graph)) p)) (length (chains graph (length graph))) j none (omega (arith, size)))) [
          | inl not_above ↦ absurd (let is = lt-ltb p j (omega arith) in cc)
          | inr differs ↦ rw (← chain_there graph (length graph) j low, ← here) differs
        ]

    by_case : (any_below (λ q. ltb p q && (chain_at (chains graph (length graph)) q == chain_at (chains graph (length graph)) p)) (length (chains graph (length graph))) ≡ true)
        ⊎ (any_below (λ q. ltb p q && (chain_at (chains graph (length graph)) q == chain_at (chains graph (length graph)) p)) (length (chains graph (length graph))) ≡ false)
        → ends_chain (chains graph (length graph)) p ≡ (clock_of graph p (chain_of graph p) + 1 == members_below graph (length graph) (chain_of graph p))
    by_case (inr none) =
        let cut : members_below graph (length graph) (chain_of graph p) ≡ members_below graph (suc p) (chain_of graph p) =
        count_cut (λ x. chain_of graph x == chain_of graph p) (suc p) (length graph) (omega arith) (none_later none) in
        and_from (ltb (chain_at (chains graph (length graph)) p) 64) _ (lt-ltb (chain_at (chains graph (length graph)) p) 64 (omega (arith, here))) (not_from_false _ none)
        ∙ sym (eq-eqb (clock_of graph p (chain_of graph p) + 1) (members_below graph (length graph) (chain_of graph p)) (omega (arith, cut, one, own)))
    by_case (inl some) =
        let found = any_witness (λ q. ltb p q && (chain_at (chains graph (length graph)) q == chain_at (chains graph (length graph)) p)) (length (chains graph (length graph))) some in
        let q = found.0 in
        let low : q < length graph = omega (arith, found.1, size) in
        let parts = and_parts (ltb p q) (chain_at (chains graph (length graph)) q == chain_at (chains graph (length graph)) p) found.2 in
        let above : p < q = ltb-true p q parts.0 in
        let same : chain_of graph q ≡ chain_of graph p = sym (chain_there graph (length graph) q low) ∙ eqb-true (chain_at (chains graph (length graph)) q) (chain_at (chains graph (length graph)) p) parts.1 ∙ here in
        let two : members_below graph (suc q) (chain_of graph p) ≡ suc (members_below graph q (chain_of graph p)) = count_one (λ x. chain_of graph x == chain_of graph p) q (eq-eqb (chain_of graph q) (chain_of graph p) same) in
        let more = count_longer (λ x. chain_of graph x == chain_of graph p) (suc p) q (omega arith) in
        let most = count_longer (λ x. chain_of graph x == chain_of graph p) (suc q) (length graph) (omega arith) in
        and_right (ltb (chain_at (chains graph (length graph)) p) 64) _ (not_from_true _ some)
        ∙ sym (ne_eqb (clock_of graph p (chain_of graph p) + 1) (members_below graph (length graph) (chain_of graph p)) (λ e. absurd (omega (arith, e, one, own, two, more, most))))

-- ---- the chain that is joined

pub joined_none : (before preds : List ℕ) → length before ≡ joined before (take 0 preds)
joined_none before preds = first_is (λ p. false && ends_chain before p) (length before) (length before) (omega arith) (λ low. absurd (omega arith)) (λ j low. refl)

any_push : (xs : List ℕ) (y p : ℕ) → list_any (λ q. q == p) (xs ++ y ∷ []) ≡ (list_any (λ q. q == p) xs || ((y == p) || false))
any_push xs y p = list_any-append (λ q. q == p) xs (y ∷ [])

joined_here : (before xs : List ℕ) (y : ℕ) → y < length before → y < joined before xs → ends_chain before y ≡ true → y ≡ joined before (xs ++ y ∷ [])
joined_here before xs y held low ends = first_is (λ p. list_any (λ q. q == p) (xs ++ y ∷ []) && ends_chain before p) (length before) y (omega arith)
    (λ under. and_from (list_any (λ q. q == y) (xs ++ y ∷ [])) (ends_chain before y)
    (any_push xs y y ∙ or_right (list_any (λ q. q == y) xs) ((y == y) || false) (or_left (y == y) false (eq-eqb y y refl))) ends)
    (λ j under. elim (and_cases (list_any (λ q. q == j) xs) (ends_chain before j) (first_skips (λ p. list_any (λ q. q == p) xs && ends_chain before p) (length before) j (omega arith))) [
      | inl none ↦ and_left (list_any (λ q. q == j) (xs ++ y ∷ [])) (ends_chain before j)
          (any_push xs y j ∙ or_from (list_any (λ q. q == j) xs) ((y == j) || false) none (or_from (y == j) false (ne_eqb y j (λ e. absurd (omega arith))) refl))
      | inr open_end ↦ and_right (list_any (λ q. q == j) (xs ++ y ∷ [])) (ends_chain before j) open_end
    ])

joined_kept : (before xs : List ℕ) (y : ℕ) → ((joined before xs ≤ y) ⊎ (ends_chain before y ≡ false)) → joined before xs ≡ joined before (xs ++ y ∷ [])
joined_kept before xs y not_better = first_is (λ p. list_any (λ q. q == p) (xs ++ y ∷ []) && ends_chain before p) (length before) (joined before xs)
    (first_low (λ p. list_any (λ q. q == p) xs && ends_chain before p) (length before))
    (λ under.
    let parts = and_parts (list_any (λ q. q == joined before xs) xs) (ends_chain before (joined before xs)) (first_passes (λ p. list_any (λ q. q == p) xs && ends_chain before p) (length before) under) in
    and_from (list_any (λ q. q == joined before xs) (xs ++ y ∷ [])) (ends_chain before (joined before xs))
    (any_push xs y (joined before xs) ∙ or_left (list_any (λ q. q == joined before xs) xs) ((y == joined before xs) || false) parts.0) parts.1)
    (λ j under. elim (and_cases (list_any (λ q. q == j) xs) (ends_chain before j) (first_skips (λ p. list_any (λ q. q == p) xs && ends_chain before p) (length before) j under)) [
      | inl none ↦ elim (cases_eq y j) [
        | inr apart ↦ and_left (list_any (λ q. q == j) (xs ++ y ∷ [])) (ends_chain before j)
            (any_push xs y j ∙ or_from (list_any (λ q. q == j) xs) ((y == j) || false) none (or_from (y == j) false (ne_eqb y j apart) refl))
        | inl same ↦ and_right (list_any (λ q. q == j) (xs ++ y ∷ [])) (ends_chain before j) (elim not_better [
          | inl high ↦ absurd (omega arith)
          | inr open_end ↦ subst (λ k. ends_chain before k ≡ false) same open_end
        ])
      ]
      | inr open_end ↦ and_right (list_any (λ q. q == j) (xs ++ y ∷ [])) (ends_chain before j) open_end
    ])

pub joined_better : (before preds : List ℕ) (i y least : ℕ) → i < length preds → y ≡ slice_index_or preds i 0 → y < length before → least ≡ joined before (take i preds)
    → y < least → ends_chain before y ≡ true → y ≡ joined before (take (i + 1) preds)
joined_better before preds i y least low is held was less ends =
    joined_here before (take i preds) y held (subst (λ n. y < n) was less) ends
    ∙ ap (λ (z : ℕ). joined before (take i preds ++ z ∷ [])) is ∙ ap (joined before) (sym (take_more preds i 0 low))

pub joined_as_before : (before preds : List ℕ) (i y least : ℕ) → i < length preds → y ≡ slice_index_or preds i 0 → least ≡ joined before (take i preds)
    → ((least ≤ y) ⊎ (ends_chain before y ≡ false)) → least ≡ joined before (take (i + 1) preds)
joined_as_before before preds i y least low is was not_better =
    was ∙ joined_kept before (take i preds) y (elim not_better [ inl high ↦ inl (subst (λ n. n ≤ y) was high) | inr open_end ↦ inr open_end ])
    ∙ ap (λ (z : ℕ). joined before (take i preds ++ z ∷ [])) is ∙ ap (joined before) (sym (take_more preds i 0 low))

pub joins_there : (graph : List (List ℕ)) (preds : List ℕ) (i least : ℕ) → length preds ≤ i → least ≡ joined (chains graph (length graph)) (take i preds) → least < length graph
    → chain_of graph least ≡ next_chain (chains graph (length graph)) preds
joins_there graph preds i least high is low =
    let before = chains graph (length graph) in
    let at : least ≡ joined before preds = is ∙ ap (joined before) (take_all i preds high) in
    let under : joined before preds < length before = omega (arith, at, long graph (length graph)) in
    sym (chain_there graph (length graph) least low) ∙ ap (chain_at before) at
    ∙ sym (cond-true (ltb (joined before preds) (length before)) (chain_at before (joined before preds)) (fresh before) (lt-ltb (joined before preds) (length before) under))

-- ---- a new chain

-- whether no member is in this chain
abbrev pub is_free : List (List ℕ) → ℕ → Bool
is_free graph c = not (any_below (λ p. chain_at (chains graph (length graph)) p == c) (length (chains graph (length graph))))

members_there : (graph : List (List ℕ)) (c : ℕ) → count_below (λ p. chain_at (chains graph (length graph)) p == c) (length (chains graph (length graph))) ≡ members_below graph (length graph) c
members_there graph c =
    ap (count_below (λ p. chain_at (chains graph (length graph)) p == c)) (long graph (length graph))
    ∙ count_same (λ p. chain_at (chains graph (length graph)) p == c) (λ p. chain_of graph p == c) (length graph) (λ k low. ap (λ d. d == c) (chain_there graph (length graph) k low))

pub free_none : (graph : List (List ℕ)) (c : ℕ) → members_below graph (length graph) c ≡ 0 → is_free graph c ≡ true
free_none graph c none = not_from_false _ (counted_none (λ p. chain_at (chains graph (length graph)) p == c) (length (chains graph (length graph))) (members_there graph c ∙ none))

pub free_not : (graph : List (List ℕ)) (c : ℕ) → 0 < members_below graph (length graph) c → is_free graph c ≡ false
free_not graph c some = by_case (cases_Bool (any_below (λ p. chain_at (chains graph (length graph)) p == c) (length (chains graph (length graph)))))
  where
    by_case : (any_below (λ p. chain_at (chains graph (length graph)) p == c) (length (chains graph (length graph))) ≡ true)
        ⊎ (any_below (λ p. chain_at (chains graph (length graph)) p == c) (length (chains graph (length graph))) ≡ false) → is_free graph c ≡ false
    by_case (inl there) = not_from_true _ there
    by_case (inr none) = absurd (let zero_there = none_counted (λ p. chain_at (chains graph (length graph)) p == c) (length (chains graph (length graph))) none in omega (arith, zero_there, members_there graph c))

pub joins_new : (graph : List (List ℕ)) (preds : List ℕ) (i least c : ℕ) → length preds ≤ i → least ≡ joined (chains graph (length graph)) (take i preds) → length graph ≤ least
    → c ≤ 64 → (c < 64 → is_free graph c ≡ true) → ((k : ℕ) → k < c → is_free graph k ≡ false) → c ≡ next_chain (chains graph (length graph)) preds
joins_new graph preds i least c high is past most free taken =
    let before = chains graph (length graph) in
    let at : least ≡ joined before preds = is ∙ ap (joined before) (take_all i preds high) in
    first_is (is_free graph) 64 c most free taken
    ∙ sym (cond-false (ltb (joined before preds) (length before)) (chain_at before (joined before preds)) (fresh before) (le-ltb (joined before preds) (length before) (omega (arith, at, long graph (length graph)))))

-- ---- what the kept numbers tell

pub own_count_few : (graph : List (List ℕ)) (clocks : List Clock) (p c : ℕ) (d : Clock) → AreClocked graph clocks → length graph ≤ MAX_MEMBERS → p < length graph → c < 64
    → slice_index_or (slice_index_or clocks p d).counts c 0 ≤ MAX_MEMBERS
own_count_few graph clocks p c d clocked few held in_one =
    let is = (clocked.are p d held).counts.are c in_one in
    omega (arith, is, count_low (λ a. (chain_of graph a == c) && is_ancestor graph a p) p)

pub own_count_fits : (graph : List (List ℕ)) (clocks : List Clock) (p c : ℕ) (d : Clock) → AreClocked graph clocks → length graph ≤ MAX_MEMBERS → p < length graph → c < 64
    → Fits w32 (slice_index_or (slice_index_or clocks p d).counts c 0 + 1)
own_count_fits graph clocks p c d clocked few held in_one = omega (arith, own_count_few graph clocks p c d clocked few held in_one)

pub tells_in : (graph : List (List ℕ)) (clocks : List Clock) (sizes : List ℕ) (p : ℕ) (d : Clock) → AreLower graph → AreClocked graph clocks → AreSizes graph sizes → p < length graph
    → (slice_index_or clocks p d).chain < 64
    → (slice_index_or (slice_index_or clocks p d).counts (slice_index_or clocks p d).chain 0 + 1 == slice_index_or sizes (slice_index_or clocks p d).chain 0) ≡ ends_chain (chains graph (length graph)) p
tells_in graph clocks sizes p d lower clocked sized held in_one =
    let clock = clocked.are p d held in
    let own : chain_of graph p < 64 = subst (λ c. c < 64) clock.chain in_one in
    rw (clock.counts.are (slice_index_or clocks p d).chain in_one, sized.are (slice_index_or clocks p d).chain in_one, clock.chain) (sym (ends_in graph p lower held own))

pub tells_out : (graph : List (List ℕ)) (clocks : List Clock) (p : ℕ) (d : Clock) → AreClocked graph clocks → p < length graph
    → 64 ≤ (slice_index_or clocks p d).chain → ltb (slice_index_or clocks p d).chain 64 ≡ ends_chain (chains graph (length graph)) p
tells_out graph clocks p d clocked held out =
    let clock = clocked.are p d held in
    le-ltb (slice_index_or clocks p d).chain 64 out ∙ sym (ends_out graph p held (subst (λ c. 64 ≤ c) clock.chain out))

-- Of a member in a chain, its own number and the other's for that chain tell whether it is an ancestor.
pub compared : (graph : List (List ℕ)) (clocks : List Clock) (a b : ℕ) (d e : Clock) → AreLower graph → AreClocked graph clocks → a < length graph → b < length graph
    → (slice_index_or clocks a d).chain < 64
    → ltb (slice_index_or (slice_index_or clocks a d).counts (slice_index_or clocks a d).chain 0) (slice_index_or (slice_index_or clocks b e).counts (slice_index_or clocks a d).chain 0) ≡ is_ancestor graph a b
compared graph clocks a b d e lower clocked first second in_one =
    let one = clocked.are a d first in
    let other = clocked.are b e second in
    let own : chain_of graph a < 64 = subst (λ c. c < 64) one.chain in_one in
    rw (one.counts.are (slice_index_or clocks a d).chain in_one, other.counts.are (slice_index_or clocks a d).chain in_one, one.chain)
    (ap (λ n. ltb n (clock_of graph b (chain_of graph a))) (sym (own_place graph lower a own)) ∙ sym (clock_tells graph lower a b own))

read_clock : (graph : List (List ℕ)) (clocks : List Clock) (a : ℕ) (x : Clock) → AreClocked graph clocks → a < length graph → x ≡ slice_index_or clocks a x → IsClock graph a x
read_clock graph clocks a x clocked low is = subst (IsClock graph a) (sym is) (clocked.are a x low)

pub compared_read : (graph : List (List ℕ)) (clocks : List Clock) (a b : ℕ) (x y : Clock) → AreLower graph → AreClocked graph clocks → a < length graph → b < length graph
    → x ≡ slice_index_or clocks a x → y ≡ slice_index_or clocks b y → x.chain < 64 → ltb (slice_index_or x.counts x.chain 0) (slice_index_or y.counts x.chain 0) ≡ is_ancestor graph a b
compared_read graph clocks a b x y lower clocked first second reads_x reads_y in_one =
    let one = read_clock graph clocks a x clocked first reads_x in
    let other = read_clock graph clocks b y clocked second reads_y in
    let own : chain_of graph a < 64 = subst (λ c. c < 64) one.chain in_one in
    rw (one.counts.are x.chain in_one, other.counts.are x.chain in_one, one.chain)
    (ap (λ n. ltb n (clock_of graph b (chain_of graph a))) (sym (own_place graph lower a own)) ∙ sym (clock_tells graph lower a b own))
