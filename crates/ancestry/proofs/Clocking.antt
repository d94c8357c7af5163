-- Clocks as members come: what the clocks of predecessors give, and how a member finds its chain.
use Rattle.std.proofs.Common.{◌≡◌, ◌⊎◌, inl, inr, ℕ, zero, suc, ◌+◌, ◌<◌, ◌≤◌, Bool, true, false, ◌||◌, ◌&&◌, cond, ltb, List, [], ◌∷◌, ◌++◌, length, refl, sym, ap, subst, ◌∙◌, arith, Contains}
use Rattle.std.specs.Prelude.{◌==◌}
use Rattle.std.specs.List.{list_any}
use Rattle.std.proofs.lemmas.Bool.{eqb-true, eq-eqb, cases_lt, ltb-true, ltb-false, cond-true, and_parts, and_from, or_cases, or_left, or_right}
use Rattle.std.proofs.lemmas.List.{get_or_push}
use Rattle.std.proofs.lemmas.List.Elements.{All-contains}
use Rattle.std.proofs.lemmas.Option.{unwrap_or-slice_get}
use Rattle.update_model.proofs.Heads.{witness, any_from_member}
use Rattle.ancestry.specs.Below.{count_below}
use Rattle.ancestry.specs.Chains.{next_chain, chains, chain_of, members_below, clock_of}
use Rattle.ancestry.specs.Clocked.{raised, with_own}
use Rattle.ancestry.specs.Walks.{preds_at, AreLower, is_ancestor}
use Rattle.ancestry.proofs.Below.{count_wider, count_longer, count_one, count_same, count_last}
use Rattle.ancestry.proofs.Chained.{named, counted, own_place}
use Rattle.ancestry.proofs.Steps.{by_predecessors, stays, preds_stay}

-- ---- later members change no chain and no clock

pub chains_stay : (graph more : List (List ℕ)) (n : ℕ) → n ≤ length graph → chains (graph ++ more) n ≡ chains graph n
unfolding chains
chains_stay graph more zero low = refl
chains_stay graph more (suc n) low = rw (chains_stay graph more n (omega arith), preds_stay graph more n (omega arith)) refl

pub chain_stays : (graph more : List (List ℕ)) (b : ℕ) → b < length graph → chain_of (graph ++ more) b ≡ chain_of graph b
chain_stays graph more b low = rw (chains_stay graph more b (omega arith), preds_stay graph more b low) refl

pub clock_stays : (graph more : List (List ℕ)) (b c : ℕ) → AreLower (graph ++ more) → b < length graph → clock_of (graph ++ more) b c ≡ clock_of graph b c
clock_stays graph more b c lower low =
    count_same (λ a. (chain_of (graph ++ more) a == c) && is_ancestor (graph ++ more) a b) (λ a. (chain_of graph a == c) && is_ancestor graph a b) b
    (λ k under. rw (chain_stays graph more k (omega arith), stays graph more k b low lower) refl)

pub preds_last : (graph : List (List ℕ)) (preds : List ℕ) → preds_at (graph ++ preds ∷ []) (length graph) ≡ preds
preds_last graph preds = unwrap_or-slice_get (graph ++ preds ∷ []) (length graph) [] ∙ get_or_push graph preds [] (length graph) refl

pub chain_last : (graph : List (List ℕ)) (preds : List ℕ) → chain_of (graph ++ preds ∷ []) (length graph) ≡ next_chain (chains graph (length graph)) preds
chain_last graph preds = rw (chains_stay graph (preds ∷ []) (length graph) (omega arith), preds_last graph preds) refl

-- ---- the greatest

-- the greatest of a number and what a list's elements give
pub greatest : (ℕ → ℕ) → ℕ → List ℕ → ℕ
greatest f m [] = m
greatest f m (x ∷ xs) = greatest f (raised m (f x)) xs

pub greatest_none : (f : ℕ → ℕ) (m : ℕ) → greatest f m [] ≡ m
unfolding greatest
greatest_none f m = refl

raised_left : (m x : ℕ) → m ≤ raised m x
raised_left m x = by_case (ltb m x) refl
  where
    by_case : (b : Bool) → ltb m x ≡ b → m ≤ cond b x m
    by_case true e = omega (arith, ltb-true m x e)
    by_case false e = omega arith

raised_right : (m x : ℕ) → x ≤ raised m x
raised_right m x = by_case (ltb m x) refl
  where
    by_case : (b : Bool) → ltb m x ≡ b → x ≤ cond b x m
    by_case true e = omega arith
    by_case false e = omega (arith, ltb-false m x e)

raised_one : (m x : ℕ) → (raised m x ≡ m) ⊎ (raised m x ≡ x)
raised_one m x = by_case (ltb m x)
  where
    by_case : (b : Bool) → (cond b x m ≡ m) ⊎ (cond b x m ≡ x)
    by_case true = inr refl
    by_case false = inl refl

pub greatest_push : (f : ℕ → ℕ) (m : ℕ) (xs : List ℕ) (y : ℕ) → greatest f m (xs ++ y ∷ []) ≡ raised (greatest f m xs) (f y)
unfolding greatest
greatest_push f m [] y = refl
greatest_push f m (x ∷ xs) y = greatest_push f (raised m (f x)) xs y

greatest_first : (f : ℕ → ℕ) (m : ℕ) (xs : List ℕ) → m ≤ greatest f m xs
unfolding greatest
greatest_first f m [] = omega arith
greatest_first f m (x ∷ xs) = omega (arith, raised_left m (f x), greatest_first f (raised m (f x)) xs)

greatest_over : (f : ℕ → ℕ) (m : ℕ) (xs : List ℕ) (n : ℕ) → m ≤ n → ((p : ℕ) → list_any (λ q. q == p) xs ≡ true → f p ≤ n) → greatest f m xs ≤ n
unfolding greatest
greatest_over f m [] n low all = low
greatest_over f m (x ∷ xs) n low all =
    greatest_over f (raised m (f x)) xs n
    (elim (raised_one m (f x)) [
      | inl old ↦ omega (arith, old)
      | inr new ↦ omega (arith, new, all x (or_left (x == x) (list_any (λ q. q == x) xs) (eq-eqb x x refl)))
    ])
    (λ p e. all p (or_right (x == p) (list_any (λ q. q == p) xs) e))

greatest_has : (f : ℕ → ℕ) (m : ℕ) (xs : List ℕ) (p : ℕ) → list_any (λ q. q == p) xs ≡ true → f p ≤ greatest f m xs
unfolding greatest
greatest_has f m [] p e = absurd cc
greatest_has f m (x ∷ xs) p e = elim (or_cases (x == p) (list_any (λ q. q == p) xs) e) [
  | inl here ↦ let is : f x ≡ f p = ap f (eqb-true x p here) in omega (arith, is, raised_right m (f x), greatest_first f (raised m (f x)) xs)
  | inr later ↦ greatest_has f (raised m (f x)) xs p later
]

pub greatest_same : (f g : ℕ → ℕ) (n m : ℕ) (xs : List ℕ) → ((p : ℕ) → list_any (λ q. q == p) xs ≡ true → f p ≡ g p) → greatest f m xs ≡ greatest g m xs
unfolding greatest
greatest_same f g n m [] same = refl
greatest_same f g n m (x ∷ xs) same =
    rw (same x (or_left (x == x) (list_any (λ q. q == x) xs) (eq-eqb x x refl))) (greatest_same f g n (raised m (g x)) xs (λ p e. same p (or_right (x == p) (list_any (λ q. q == p) xs) e)))

-- ---- what predecessors give

own_more : (chain c count : ℕ) → count ≤ with_own chain c count
own_more chain c count = by_case (chain == c)
  where
    by_case : (b : Bool) → count ≤ cond b (count + 1) count
    by_case true = omega arith
    by_case false = omega arith

own_here : (chain c count : ℕ) → chain ≡ c → with_own chain c count ≡ count + 1
own_here chain c count same = cond-true (chain == c) (count + 1) count (eq-eqb chain c same)

abbrev pub brought : List (List ℕ) → ℕ → ℕ → ℕ
brought graph c p = with_own (chain_of graph p) c (clock_of graph p c)

module _ (graph : List (List ℕ)) (lower : AreLower graph) (b c : ℕ) (in_one : c < 64) where
  brings_low : (p : ℕ) → list_any (λ q. q == p) (preds_at graph b) ≡ true → brought graph c p ≤ clock_of graph b c
  brings_low p called =
      let w = witness (λ q. q == p) (preds_at graph b) called in
      let named_here : Contains (preds_at graph b) p = subst (Contains (preds_at graph b)) (eqb-true w.0 p w.2) w.1 in
      let low : p < b = All-contains (λ p. p < b) (preds_at graph b) p (lower b) named_here in
      let t = λ (x : ℕ). (chain_of graph x == c) && is_ancestor graph x p in
      let u = λ (x : ℕ). (chain_of graph x == c) && is_ancestor graph x b in
      let wide : count_below t p ≤ count_below u p = count_wider t u p (λ k under e.
      let parts = and_parts (chain_of graph k == c) (is_ancestor graph k p) e in
      and_from (chain_of graph k == c) (is_ancestor graph k b) parts.0 (named graph k p b lower named_here (or_right (p == k) (is_ancestor graph k p) parts.1))) in
      let far : count_below u p ≤ count_below u b = count_longer u p b (omega arith) in
      by_case wide far (chain_of graph p == c) refl
      (λ e. count_one u p (and_from (chain_of graph p == c) (is_ancestor graph p b) e (named graph p p b lower named_here (or_left (p == p) (is_ancestor graph p p) (eq-eqb p p refl)))))
      (count_longer u (suc p) b (omega arith))
    where
      by_case : clock_of graph p c ≤ count_below (λ x. (chain_of graph x == c) && is_ancestor graph x b) p
          → count_below (λ x. (chain_of graph x == c) && is_ancestor graph x b) p ≤ clock_of graph b c
          → (d : Bool) → (chain_of graph p == c) ≡ d
          → ((chain_of graph p == c) ≡ true → count_below (λ x. (chain_of graph x == c) && is_ancestor graph x b) (suc p) ≡ suc (count_below (λ x. (chain_of graph x == c) && is_ancestor graph x b) p))
          → count_below (λ x. (chain_of graph x == c) && is_ancestor graph x b) (suc p) ≤ clock_of graph b c
          → cond d (clock_of graph p c + 1) (clock_of graph p c) ≤ clock_of graph b c
      by_case wide far true e one further = omega (arith, wide, one e, further)
      by_case wide far false e one further = omega (arith, wide, far)

  brings_all : clock_of graph b c ≤ greatest (brought graph c) 0 (preds_at graph b)
  brings_all = elim (cases_lt 0 (clock_of graph b c)) [
    | inr none ↦ omega arith
    | inl some ↦
        let u = λ (x : ℕ). (chain_of graph x == c) && is_ancestor graph x b in
        let found = count_last u b some in
        let k = found.0 in
        let parts = and_parts (chain_of graph k == c) (is_ancestor graph k b) found.2 in
        let same : chain_of graph k ≡ c = eqb-true (chain_of graph k) c parts.0 in
        let few : count_below u k ≤ members_below graph k c = count_wider u (λ x. chain_of graph x == c) k (λ j under e. (and_parts (chain_of graph j == c) (is_ancestor graph j b) e).0) in
        let w = witness (λ p. (p == k) || is_ancestor graph k p) (preds_at graph b) (sym (by_predecessors graph k b lower) ∙ parts.1) in
        let there : list_any (λ q. q == w.0) (preds_at graph b) ≡ true = any_from_member (λ q. q == w.0) (preds_at graph b) w.0 w.1 (eq-eqb w.0 w.0 refl) in
        let under : brought graph c w.0 ≤ greatest (brought graph c) 0 (preds_at graph b) = greatest_has (brought graph c) 0 (preds_at graph b) w.0 there in
        omega (arith, found.3, few, under, reached k w.0 same (or_cases (w.0 == k) (is_ancestor graph k w.0) w.2))
  ]
    where
      reached : (k p : ℕ) → chain_of graph k ≡ c → (((p == k) ≡ true) ⊎ (is_ancestor graph k p ≡ true)) → members_below graph k c < brought graph c p
      reached k p same (inl here) =
          let at : p ≡ k = eqb-true p k here in
          let mine : members_below graph k c ≡ clock_of graph k c = subst (λ d. members_below graph k d ≡ clock_of graph k d) same (own_place graph lower k (subst (λ d. d < 64) (sym same) in_one)) in
          let more : brought graph c k ≡ clock_of graph k c + 1 = own_here (chain_of graph k) c (clock_of graph k c) same in
          subst (λ q. members_below graph k c < brought graph c q) (sym at) (omega (arith, mine, more))
      reached k p same (inr above) =
          let more : members_below graph k c < clock_of graph p c = subst (λ d. members_below graph k d < clock_of graph p d) same (counted graph lower k p (subst (λ d. d < 64) (sym same) in_one) above) in
          omega (arith, more, own_more (chain_of graph p) c (clock_of graph p c))

  -- A clock is, number by number, the greatest of what the predecessors' clocks and the predecessors themselves give.
  pub clock_merges : greatest (brought graph c) 0 (preds_at graph b) ≡ clock_of graph b c
  clock_merges =
      let over = greatest_over (brought graph c) 0 (preds_at graph b) (clock_of graph b c) (omega arith) brings_low in
      let under = brings_all in
      omega (arith, over, under)
