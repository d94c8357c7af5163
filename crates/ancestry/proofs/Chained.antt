-- Chains: members of one chain are ancestors of each other, and so one number of a clock tells who they are.
use Rattle.std.proofs.Common.{◌≡◌, ◌↔◌, inl, inr, ℕ, zero, suc, ◌<◌, ◌≤◌, Bool, true, false, ◌||◌, ◌&&◌, not, ltb, List, [], ◌∷◌, length, refl, sym, subst, ◌∙◌, arith, Contains}
use Rattle.std.specs.Prelude.{◌==◌}
use Rattle.std.specs.List.{list_any}
use Rattle.std.proofs.lemmas.Bool.{eqb-true, eq-eqb, cases_lt, cases_eq, cases_Bool, lt-ltb, le-ltb, cond-true, cond-false, and_parts, and_from, and_cases, or_cases, or_left, or_right, not-true, false_from_ne_true}
use Rattle.std.proofs.lemmas.List.{get_or_append_left, get_or_push, length-append}
use Rattle.std.proofs.lemmas.List.Elements.{All-contains}
use Rattle.update_model.proofs.Heads.{witness, any_from_member}
use Rattle.ancestry.specs.Below.{any_below, count_below}
use Rattle.ancestry.specs.Chains.{chain_at, ends_chain, joined, fresh, chains, chain_of, members_below, clock_of}
use Rattle.ancestry.specs.Walks.{preds_at, AreLower, is_ancestor}
use Rattle.ancestry.proofs.Below.{any_none, first_passes, count_wider, count_longer, count_cut, count_one, count_same}
use Rattle.ancestry.proofs.Steps.{by_predecessors, not_below}

-- ---- the list of chains

pub long : (graph : List (List ℕ)) (n : ℕ) → length (chains graph n) ≡ n
unfolding chains
long graph zero = refl
long graph (suc n) = length-append (chains graph n) (chain_of graph n ∷ []) ∙ (let e = long graph n in omega arith)

-- what the list has is each member's chain
pub chain_there : (graph : List (List ℕ)) (n x : ℕ) → x < n → chain_at (chains graph n) x ≡ chain_of graph x
unfolding chains
chain_there graph zero x low = absurd (omega arith)
chain_there graph (suc n) x low = elim (cases_eq x n) [
  | inl same ↦ rw same (get_or_push (chains graph n) (chain_of graph n) 64 n (long graph n))
  | inr apart ↦ get_or_append_left (chains graph n) (chain_of graph n ∷ []) 64 x (let e = long graph n in omega arith) ∙ chain_there graph n x (omega arith)
]

-- ---- how a member comes into its chain

-- what the least predecessor that ends its chain is
follows : (graph : List (List ℕ)) (b : ℕ) → joined (chains graph b) (preds_at graph b) < length (chains graph b)
    → (p : ℕ) × (p < b) × Contains (preds_at graph b) p × (chain_of graph b ≡ chain_of graph p) × ((q : ℕ) → p < q → q < b → (chain_of graph q == chain_of graph p) ≡ false)
follows graph b low =
    let before = chains graph b in
    let p = joined before (preds_at graph b) in
    let size : length before ≡ b = long graph b in
    let under : p < b = omega arith in
    let passes = and_parts (list_any (λ q. q == p) (preds_at graph b)) (ends_chain before p)
    (first_passes (λ p. list_any (λ q. q == p) (preds_at graph b) && ends_chain before p) (length before) low) in
    let w = witness (λ q. q == p) (preds_at graph b) passes.0 in
    let ends = and_parts (ltb (chain_at before p) 64) (not (any_below (λ q. ltb p q && (chain_at before q == chain_at before p)) (length before))) passes.1 in
    let none = not-true (any_below (λ q. ltb p q && (chain_at before q == chain_at before p)) (length before)) ends.1 in
    let here : chain_at before p ≡ chain_of graph p = chain_there graph b p under in (
      p,
      under,
      subst (Contains (preds_at graph b)) (eqb-true w.0 p w.2) w.1,
      cond-true (ltb p (length before)) (chain_at before p) (fresh before) (lt-ltb p (length before) low) ∙ here,
      λ q above below.
          let apart = any_none (λ q. ltb p q && (chain_at before q == chain_at before p)) (length before) q none (omega arith) in
          elim (and_cases (ltb p q) (chain_at before q == chain_at before p) apart) [
            | inl not_above ↦ absurd (let is = lt-ltb p q above in cc)
            | inr differs ↦ rw (← chain_there graph b q below, ← here) differs
          ],
    )

fresh_there : (graph : List (List ℕ)) (b : ℕ) → length (chains graph b) ≤ joined (chains graph b) (preds_at graph b) → chain_of graph b < 64
    → (q : ℕ) → q < b → (chain_of graph q == chain_of graph b) ≡ false
fresh_there graph b high in_one q low =
    let before = chains graph b in
    let size : length before ≡ b = long graph b in
    let none_of = λ (c : ℕ). not (any_below (λ p. chain_at before p == c) (length before)) in
    let own : chain_of graph b ≡ fresh before =
    cond-false (ltb (joined before (preds_at graph b)) (length before)) (chain_at before (joined before (preds_at graph b))) (fresh before)
    (le-ltb (joined before (preds_at graph b)) (length before) high) in
    let passes : not (any_below (λ p. chain_at before p == fresh before) (length before)) ≡ true = first_passes none_of 64 (omega (arith, own, in_one)) in
    let apart = any_none (λ p. chain_at before p == fresh before) (length before) q (not-true (any_below (λ p. chain_at before p == fresh before) (length before)) passes) (omega arith) in
    rw (own, ← chain_there graph b q low) apart

-- ---- members of one chain

pub named : (graph : List (List ℕ)) (a p b : ℕ) → AreLower graph → Contains (preds_at graph b) p → ((p == a) || is_ancestor graph a p) ≡ true → is_ancestor graph a b ≡ true
named graph a p b lower called met = by_predecessors graph a b lower ∙ any_from_member (λ p. (p == a) || is_ancestor graph a p) (preds_at graph b) p called met

chained : (graph : List (List ℕ)) → AreLower graph → (n a b : ℕ) → b < n → a < b → chain_of graph b < 64 → chain_of graph a ≡ chain_of graph b → is_ancestor graph a b ≡ true
chained graph lower zero a b high low in_one same = absurd (omega arith)
chained graph lower (suc n) a b high low in_one same = elim (cases_lt (joined (chains graph b) (preds_at graph b)) (length (chains graph b))) [
  | inr none ↦ absurd (let apart = fresh_there graph b none in_one a low in let is = eq-eqb (chain_of graph a) (chain_of graph b) same in cc)
  | inl there ↦ let found = follows graph b there in
      by_place found.0 (λ further. chained graph lower n a found.0 (let under = found.1 in omega arith) further) found.2 found.3 (found.4 a)
]
  where
    by_place : (p : ℕ) → (a < p → chain_of graph p < 64 → chain_of graph a ≡ chain_of graph p → is_ancestor graph a p ≡ true) → Contains (preds_at graph b) p → chain_of graph b ≡ chain_of graph p → (p < a → a < b → (chain_of graph a == chain_of graph p) ≡ false) → is_ancestor graph a b ≡ true
    by_place p before called is apart = elim (cases_lt p a) [
      | inl above ↦ absurd (let other = apart above low in let one = eq-eqb (chain_of graph a) (chain_of graph p) (same ∙ is) in cc)
      | inr below ↦ named graph a p b lower called (elim (cases_eq p a) [
        | inl here ↦ or_left (p == a) (is_ancestor graph a p) (eq-eqb p a here)
        | inr further ↦ or_right (p == a) (is_ancestor graph a p)
            (before (omega arith) (subst (λ c. c < 64) is in_one) (same ∙ is))
      ])
    ]

-- Of two members of one chain the earlier one is an ancestor of the later one.
pub chain_members : (graph : List (List ℕ)) (a b : ℕ) → AreLower graph → a < b → chain_of graph b < 64 → chain_of graph a ≡ chain_of graph b → is_ancestor graph a b ≡ true
chain_members graph a b lower low in_one same = chained graph lower (suc b) a b (omega arith) low in_one same

-- ---- ancestors of ancestors

over : (graph : List (List ℕ)) → AreLower graph → (n a b d : ℕ) → d < n → is_ancestor graph a b ≡ true → is_ancestor graph b d ≡ true → is_ancestor graph a d ≡ true
over graph lower zero a b d high first second = absurd (omega arith)
over graph lower (suc n) a b d high first second =
    let w = witness (λ p. (p == b) || is_ancestor graph b p) (preds_at graph d) (sym (by_predecessors graph b d lower) ∙ second) in
    let below : w.0 < d = All-contains (λ p. p < d) (preds_at graph d) w.0 (lower d) w.1 in
    named graph a w.0 d lower w.1 (or_right (w.0 == a) (is_ancestor graph a w.0) (elim (or_cases (w.0 == b) (is_ancestor graph b w.0) w.2) [
      | inl here ↦ subst (λ q. is_ancestor graph a q ≡ true) (sym (eqb-true w.0 b here)) first
      | inr further ↦ over graph lower n a b w.0 (omega arith) first further
    ]))

pub through : (graph : List (List ℕ)) (a b d : ℕ) → AreLower graph → is_ancestor graph a b ≡ true → is_ancestor graph b d ≡ true → is_ancestor graph a d ≡ true
through graph a b d lower first second = over graph lower (suc d) a b d (omega arith) first second

pub ancestor_low : (graph : List (List ℕ)) (a b : ℕ) → AreLower graph → is_ancestor graph a b ≡ true → a < b
ancestor_low graph a b lower e = elim (cases_lt a b) [
  | inl low ↦ low
  | inr high ↦ absurd (let none = not_below graph a b lower high in cc)
]

-- ---- one comparison

module _ (graph : List (List ℕ)) (lower : AreLower graph) where
  -- An ancestor in a chain has all of the chain before it among the ancestors.
  pub counted : (a b : ℕ) → chain_of graph a < 64 → is_ancestor graph a b ≡ true → members_below graph a (chain_of graph a) < clock_of graph b (chain_of graph a)
  counted a b in_one above =
      let c = chain_of graph a in
      let t = λ (x : ℕ). chain_of graph x == c in
      let u = λ (x : ℕ). (chain_of graph x == c) && is_ancestor graph x b in
      let low : a < b = ancestor_low graph a b lower above in
      let own : t a ≡ true = eq-eqb (chain_of graph a) c refl in
      let one : count_below t (suc a) ≡ suc (count_below t a) = count_one t a own in
      let wide : count_below t (suc a) ≤ count_below u (suc a) = count_wider t u (suc a) (λ k under e. and_from (t k) (is_ancestor graph k b) e (reached k under (eqb-true (chain_of graph k) c e))) in
      let far : count_below u (suc a) ≤ count_below u b = count_longer u (suc a) b (omega arith) in
      omega (arith, one, wide, far)
    where
      reached : (k : ℕ) → k < suc a → chain_of graph k ≡ chain_of graph a → is_ancestor graph k b ≡ true
      reached k under same = elim (cases_eq k a) [
        | inl here ↦ subst (λ q. is_ancestor graph q b ≡ true) (sym here) above
        | inr further ↦ through graph k a b lower (chain_members graph k a lower (omega arith) in_one same) above
      ]

  -- What is no ancestor has only members of its chain before it among them.
  uncounted : (a b : ℕ) → chain_of graph a < 64 → is_ancestor graph a b ≡ false → clock_of graph b (chain_of graph a) ≤ members_below graph a (chain_of graph a)
  uncounted a b in_one none =
      let c = chain_of graph a in
      let t = λ (x : ℕ). chain_of graph x == c in
      let u = λ (x : ℕ). (chain_of graph x == c) && is_ancestor graph x b in
      elim (cases_lt a b) [
        | inl low ↦
            let cut : count_below u b ≡ count_below u a = count_cut u a b (omega arith) (λ j high under. false_from_ne_true (u j) (λ e. missed j high e)) in
            let wide : count_below u a ≤ count_below t a = count_wider u t a (λ k under e. (and_parts (t k) (is_ancestor graph k b) e).0) in
            omega (arith, cut, wide)
        | inr high ↦
            let wide : count_below u b ≤ count_below t b = count_wider u t b (λ k under e. (and_parts (t k) (is_ancestor graph k b) e).0) in
            let far : count_below t b ≤ count_below t a = count_longer t b a high in
            omega (arith, wide, far)
      ]
    where
      missed : (j : ℕ) → a ≤ j → ((chain_of graph j == chain_of graph a) && is_ancestor graph j b) ≡ true → ⊥
      missed j high e =
          let parts = and_parts (chain_of graph j == chain_of graph a) (is_ancestor graph j b) e in
          let same : chain_of graph j ≡ chain_of graph a = eqb-true (chain_of graph j) (chain_of graph a) parts.0 in
          elim (cases_eq j a) [
            | inl here ↦ let is : is_ancestor graph a b ≡ true = subst (λ q. is_ancestor graph q b ≡ true) here parts.1 in absurd cc
            | inr further ↦
                let is = through graph a j b lower (chain_members graph a j lower (omega arith) (subst (λ c. c < 64) (sym same) in_one) (sym same)) parts.1 in
                absurd cc
          ]

  -- Of a member in a chain, one number of a clock tells whose ancestor it is.
  pub clock_tells : (a b : ℕ) → chain_of graph a < 64 → is_ancestor graph a b ≡ ltb (members_below graph a (chain_of graph a)) (clock_of graph b (chain_of graph a))
  clock_tells a b in_one = elim (cases_Bool (is_ancestor graph a b)) [
    | inl above ↦ above ∙ sym (lt-ltb (members_below graph a (chain_of graph a)) (clock_of graph b (chain_of graph a)) (counted a b in_one above))
    | inr none ↦ none ∙ sym (le-ltb (members_below graph a (chain_of graph a)) (clock_of graph b (chain_of graph a)) (uncounted a b in_one none))
  ]

  -- Its own clock has the number of members before it.
  pub own_place : (a : ℕ) → chain_of graph a < 64 → members_below graph a (chain_of graph a) ≡ clock_of graph a (chain_of graph a)
  own_place a in_one = count_same (λ x. chain_of graph x == chain_of graph a) (λ x. (chain_of graph x == chain_of graph a) && is_ancestor graph x a) a
      (λ k low. both k low (chain_of graph k == chain_of graph a) refl)
    where
      both : (k : ℕ) → k < a → (t : Bool) → (chain_of graph k == chain_of graph a) ≡ t → t ≡ (t && is_ancestor graph k a)
      both k low false e = refl
      both k low true e = sym (chain_members graph k a lower low in_one (eqb-true (chain_of graph k) (chain_of graph a) e))

pub clock_is : (graph : List (List ℕ)) (a b : ℕ) → AreLower graph → chain_of graph a < 64
    → (is_ancestor graph a b ≡ true) ↔ (members_below graph a (chain_of graph a) < clock_of graph b (chain_of graph a))
clock_is graph a b lower in_one = (
  λ above. counted graph lower a b in_one above,
  λ more. clock_tells graph lower a b in_one ∙ lt-ltb (members_below graph a (chain_of graph a)) (clock_of graph b (chain_of graph a)) more,
)
