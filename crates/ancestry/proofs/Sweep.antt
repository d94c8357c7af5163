-- The sweep from a member down: what its marks mean after each step.
use Rattle.std.proofs.Common.{◌≡◌, ◌≢◌, ◌⊎◌, inl, inr, ℕ, ◌+◌, ◌-◌, ◌<◌, ◌≤◌, Bool, true, false, ◌||◌, List, length, refl, sym, ap, subst, ◌∙◌, arith, Contains, slice_index_or, set, replicate, get_or, All}
use Rattle.std.specs.Prelude.{◌==◌}
use Rattle.std.specs.List.{list_any}
use Rattle.std.proofs.lemmas.Bool.{eqb-true, eq-eqb, cases_lt, or_cases, or_left, or_right}
use Rattle.std.proofs.lemmas.Bool.Decides.{eqb_tells}
use Rattle.std.proofs.lemmas.List.{get_or_read, get_or-set_same, get_or-set_other, get_or_past, length-replicate}
use Rattle.std.proofs.lemmas.List.Elements.{All-contains, All-weaker}
use Rattle.update_model.proofs.Heads.{witness, any_from_member}
use Rattle.ancestry.specs.Walks.{preds_at, AreLower, is_ancestor}
use Rattle.ancestry.proofs.Marking.{unmarked}
use Rattle.ancestry.proofs.Steps.{by_predecessors, not_below, preds_read}

-- whether `q` is `a`, or has it as an ancestor
abbrev pub meets : List (List ℕ) → ℕ → ℕ → Bool
meets graph a q = (q == a) || is_ancestor graph a q

abbrev pub mark_at : List Bool → ℕ → Bool
mark_at marks k = slice_index_or marks k false

-- The members from offset `k` on are done: what is marked and meets `a` shows that `a` is an ancestor of `b`, and if it is
-- one, then a member that is still to be done is marked and meets it.
pub record IsSwept (graph : List (List ℕ)) (a b k : ℕ) (marks : List Bool) : Type 0 where
  pub sound : (j : ℕ) → mark_at marks j ≡ true → meets graph a (a + j) ≡ true → is_ancestor graph a b ≡ true
  pub complete : is_ancestor graph a b ≡ true → (j : ℕ) × (j < k) × (mark_at marks j ≡ true) × (meets graph a (a + j) ≡ true)

-- what meets `a` and is not `a` has it as an ancestor
met_above : (graph : List (List ℕ)) (a q : ℕ) → a < q → meets graph a q ≡ true → is_ancestor graph a q ≡ true
met_above graph a q high e = elim (or_cases (q == a) (is_ancestor graph a q) e) [
  | inl same ↦ absurd (let is = eqb-true q a same in omega arith)
  | inr above ↦ above
]

-- what meets `a` does not stand below it
met_high : (graph : List (List ℕ)) (a q : ℕ) → AreLower graph → meets graph a q ≡ true → a ≤ q
met_high graph a q lower e = elim (or_cases (q == a) (is_ancestor graph a q) e) [
  | inl same ↦ let is = eqb-true q a same in omega arith
  | inr above ↦ by_case above
]
  where
    by_case : is_ancestor graph a q ≡ true → a ≤ q
    by_case above = elim (cases_lt a q) [
      | inl high ↦ omega arith
      | inr low ↦ absurd (let none = not_below graph a q lower low in cc)
    ]

-- ---- the first mark

pub swept_first : (graph : List (List ℕ)) (a b n k : ℕ) (marks : List Bool) → a < b → n ≡ b - a → k ≡ n + 1 → marks ≡ set (replicate (n + 1) false) n true → IsSwept graph a b k marks
swept_first graph a b n k marks low is next are = record {
  sound = λ j marked met. by_case j (eqb_tells j n) marked met;
  complete = λ above. (
    n,
    omega arith,
    rw are (get_or-set_same (replicate (n + 1) false) n true false (omega (arith, length-replicate (n + 1) false))),
    let there : b ≡ a + n = omega arith in rw (← there) (or_right (b == a) (is_ancestor graph a b) above),
  );
}
  where
    by_case : (j : ℕ) → ((j == n) ≡ true) × (j ≡ n) ⊎ (((j == n) ≡ false) × (j ≢ n)) → mark_at marks j ≡ true → meets graph a (a + j) ≡ true → is_ancestor graph a b ≡ true
    by_case j (inl same) marked met =
        let there : a + j ≡ b = let e = same.1 in omega arith in
        met_above graph a b low (subst (λ q. meets graph a q ≡ true) there met)
    by_case j (inr apart) marked met =
        let kept : mark_at marks j ≡ mark_at (replicate (n + 1) false) j = rw are (get_or-set_other (replicate (n + 1) false) n j true false apart.1) in
        absurd (let none = unmarked (n + 1) j in cc)

-- ---- one more member

module _ (graph : List (List ℕ)) (a b k : ℕ) (marks new : List Bool) (lower : AreLower graph) (high : 0 < k) (within : k < length marks) (marked : mark_at marks k ≡ true)
    (are : (j : ℕ) → j < length marks → mark_at new j ≡ (mark_at marks j || list_any (λ p. p == a + j) (preds_at graph (a + k)))) where
  -- a predecessor that meets `a` shows that `a` is an ancestor
  called_meets : (p : ℕ) → Contains (preds_at graph (a + k)) p → meets graph a p ≡ true → meets graph a (a + k) ≡ true
  called_meets p called met =
      or_right (a + k == a) (is_ancestor graph a (a + k))
      (by_predecessors graph a (a + k) lower ∙ any_from_member (meets graph a) (preds_at graph (a + k)) p called met)

  new_sound : IsSwept graph a b (k + 1) marks → length new ≡ length marks → (j : ℕ) → mark_at new j ≡ true → meets graph a (a + j) ≡ true → is_ancestor graph a b ≡ true
  new_sound swept long j is met = by_place (cases_lt j (length marks))
    where
      by_place : (j < length marks) ⊎ (length marks ≤ j) → is_ancestor graph a b ≡ true
      by_place (inr out) = absurd (let past = get_or_past new j false (omega arith) in cc)
      by_place (inl low) = elim (or_cases (mark_at marks j) (list_any (λ p. p == a + j) (preds_at graph (a + k))) (sym (are j low) ∙ is)) [
        | inl old ↦ swept.sound j old met
        | inr called ↦
            let w = witness (λ p. p == a + j) (preds_at graph (a + k)) called in
            let there : a + j ≡ w.0 = sym (eqb-true w.0 (a + j) w.2) in
            swept.sound k marked (called_meets w.0 w.1 (subst (λ q. meets graph a q ≡ true) there met))
      ]

  new_complete : IsSwept graph a b (k + 1) marks → is_ancestor graph a b ≡ true → (j : ℕ) × (j < k) × (mark_at new j ≡ true) × (meets graph a (a + j) ≡ true)
  new_complete swept above = at (swept.complete above)
    where
      at : ((j : ℕ) × (j < k + 1) × (mark_at marks j ≡ true) × (meets graph a (a + j) ≡ true)) → (j : ℕ) × (j < k) × (mark_at new j ≡ true) × (meets graph a (a + j) ≡ true)
      at found = elim (eqb_tells found.0 k) [
        | inr apart ↦ let e = apart.1 in
            (found.0, omega (arith, found.1), are found.0 (omega (arith, found.1)) ∙ or_left (mark_at marks found.0) (list_any (λ p. p == a + found.0) (preds_at graph (a + k))) found.2, found.3)
        | inl same ↦
            let met : meets graph a (a + k) ≡ true = subst (λ j. meets graph a (a + j) ≡ true) same.1 found.3 in
            let called = sym (by_predecessors graph a (a + k) lower) ∙ met_above graph a (a + k) (omega arith) met in
            let w = witness (meets graph a) (preds_at graph (a + k)) called in
            let below : w.0 < a + k = All-contains (λ p. p < a + k) (preds_at graph (a + k)) w.0 (lower (a + k)) w.1 in
            let not_under : a ≤ w.0 = met_high graph a w.0 lower w.2 in
            let there : w.0 ≡ a + (w.0 - a) = omega arith in (
              w.0 - a,
              omega arith,
              are (w.0 - a) (omega arith) ∙ or_right (mark_at marks (w.0 - a)) (list_any (λ p. p == a + (w.0 - a)) (preds_at graph (a + k)))
                  (any_from_member (λ p. p == a + (w.0 - a)) (preds_at graph (a + k)) w.0 w.1 (eq-eqb w.0 (a + (w.0 - a)) there)),
              subst (λ q. meets graph a q ≡ true) there w.2,
            )
      ]

  pub swept_marked : length new ≡ length marks → IsSwept graph a b (k + 1) marks → IsSwept graph a b k new
  swept_marked long swept = record { sound = new_sound swept long; complete = new_complete swept }

pub named_within : (graph : List (List ℕ)) (a k n : ℕ) (preds : List ℕ) → AreLower graph → a + k < length graph → preds ≡ get_or graph (a + k) preds → k < n → All (λ p. p < a + n) preds
named_within graph a k n preds lower held is low =
    All-weaker (λ p. p < a + k) (λ p. p < a + n) (λ p below. omega arith) preds
    (subst (All (λ p. p < a + k)) (preds_read graph (a + k) preds held is) (lower (a + k)))

pub swept_next : (graph : List (List ℕ)) (a b k last : ℕ) (marks new : List Bool) (preds : List ℕ) (mark : Bool) → AreLower graph → 0 < k → last ≡ k + 1 → k < length marks → a + k < length graph
    → mark ≡ get_or marks k mark → mark ≡ true → preds ≡ get_or graph (a + k) preds → length new ≡ length marks
    → ((j : ℕ) → j < length marks → mark_at new j ≡ (mark_at marks j || list_any (λ p. p == a + j) preds)) → IsSwept graph a b last marks → IsSwept graph a b k new
swept_next graph a b k last marks new preds mark lower high is_last low held reads marked are_preds long are swept =
    swept_marked graph a b k marks new lower high low (sym (get_or_read marks k mark low reads false) ∙ marked)
    (λ j below. are j below ∙ ap (λ (ps : List ℕ). mark_at marks j || list_any (λ p. p == a + j) ps) (sym (preds_read graph (a + k) preds held are_preds)))
    long (subst (λ n. IsSwept graph a b n marks) is_last swept)

-- ---- the answer

pub swept_all : (graph : List (List ℕ)) (a b : ℕ) (marks : List Bool) → IsSwept graph a b 1 marks → mark_at marks 0 ≡ is_ancestor graph a b
swept_all graph a b marks swept = by_case (mark_at marks 0) refl (is_ancestor graph a b) refl
  where
    by_case : (m : Bool) → mark_at marks 0 ≡ m → (t : Bool) → is_ancestor graph a b ≡ t → mark_at marks 0 ≡ is_ancestor graph a b
    by_case true marked t above =
        marked ∙ sym (swept.sound 0 marked (let there : a + 0 ≡ a = omega arith in or_left (a + 0 == a) (is_ancestor graph a (a + 0)) (eq-eqb (a + 0) a there)))
    by_case false none false below = none ∙ sym below
    by_case false none true above = absurd (
        let found = swept.complete above in
        let first : found.0 ≡ 0 = omega (arith, found.1) in
        let marked : mark_at marks 0 ≡ true = subst (λ j. mark_at marks j ≡ true) first found.2 in
        cc)

-- where all is done but perhaps the first
pub swept_end : (graph : List (List ℕ)) (a b k : ℕ) (marks : List Bool) → k ≤ 1 → IsSwept graph a b k marks → mark_at marks 0 ≡ is_ancestor graph a b
swept_end graph a b k marks last swept = swept_all graph a b marks record {
  sound = swept.sound;
  complete = λ above. let found = swept.complete above in (found.0, omega (arith, found.1, last), found.2, found.3);
}

-- ---- where nothing is marked below

pub bare_first : (n j : ℕ) (marks : List Bool) → marks ≡ set (replicate (n + 1) false) n true → j < n → mark_at marks j ≡ false
bare_first n j marks are low = rw are (get_or-set_other (replicate (n + 1) false) n j true false (omega arith) ∙ unmarked (n + 1) j)

pub bare_next : (a j : ℕ) (marks new : List Bool) (preds : List ℕ) → mark_at new j ≡ (mark_at marks j || list_any (λ p. p == a + j) preds) → mark_at marks j ≡ false
    → list_any (λ p. p == a + j) preds ≡ false → mark_at new j ≡ false
bare_next a j marks new preds is none unnamed = is ∙ (λ i. none i || unnamed i)

pub swept_bare : (graph : List (List ℕ)) (a b k low : ℕ) (marks : List Bool) → k ≤ low → ((j : ℕ) → j < low → mark_at marks j ≡ false) → IsSwept graph a b k marks → false ≡ is_ancestor graph a b
swept_bare graph a b k low marks under bare swept = by_case (is_ancestor graph a b) refl
  where
    by_case : (t : Bool) → is_ancestor graph a b ≡ t → false ≡ is_ancestor graph a b
    by_case false e = sym e
    by_case true e = absurd (let found = swept.complete e in let none = bare found.0 (omega (arith, found.1, under)) in let marked = found.2 in cc)
