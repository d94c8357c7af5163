-- One sweep that marks all that is behind some members.
use Rattle.std.proofs.Common.{◌≡◌, ◌⊎◌, inl, inr, ℕ, zero, suc, ◌+◌, ◌<◌, ◌≤◌, Bool, true, false, ◌||◌, List, length, refl, sym, ap, subst, ◌∙◌, arith, Contains, slice_index_or, All, replicate, take, drop, ◌++◌}
use Rattle.std.specs.Prelude.{◌==◌}
use Rattle.std.specs.List.{list_any}
use Rattle.std.proofs.lemmas.Bool.{eqb-true, eq-eqb, cases_eq, cases_lt, or_cases, or_left, or_right}
use Rattle.std.proofs.lemmas.List.{get_or_past, get_or_read, get_or-replicate, length-replicate, take_at}
use Rattle.std.proofs.lemmas.List.Elements.{All-contains}
use Rattle.update_model.proofs.Heads.{witness, any_from_member}
use Rattle.ancestry.specs.Named.{names}
use Rattle.ancestry.specs.Since.{is_behind}
use Rattle.ancestry.specs.Walks.{preds_at, AreLower, is_ancestor}
use Rattle.ancestry.proofs.Chained.{named, through}
use Rattle.ancestry.proofs.Steps.{by_predecessors, preds_read}

-- The first step up from an ancestor.
pub upward : (graph : List (List ℕ)) → AreLower graph → (n k q : ℕ) → q < n → is_ancestor graph k q ≡ true
    → (s : ℕ) × (s ≤ q) × (names graph s k ≡ true) × (((s ≡ q) ⊎ (is_ancestor graph s q ≡ true)))
upward graph lower zero k q high above = absurd (omega arith)
upward graph lower (suc n) k q high above =
    let w = witness (λ p. (p == k) || is_ancestor graph k p) (preds_at graph q) (sym (by_predecessors graph k q lower) ∙ above) in
    let low : w.0 < q = All-contains (λ p. p < q) (preds_at graph q) w.0 (lower q) w.1 in
    by_case w.0 low w.1 (λ further. upward graph lower n k w.0 (omega arith) further) (or_cases (w.0 == k) (is_ancestor graph k w.0) w.2)
  where
    by_case : (p : ℕ) → p < q → Contains (preds_at graph q) p
        → (is_ancestor graph k p ≡ true → (s : ℕ) × (s ≤ p) × (names graph s k ≡ true) × (((s ≡ p) ⊎ (is_ancestor graph s p ≡ true))))
        → (((p == k) ≡ true) ⊎ (is_ancestor graph k p ≡ true)) → (s : ℕ) × (s ≤ q) × (names graph s k ≡ true) × (((s ≡ q) ⊎ (is_ancestor graph s q ≡ true)))
    by_case p low called earlier (inl here) = (q, omega arith, any_from_member (λ p. p == k) (preds_at graph q) p called here, inl refl)
    by_case p low called earlier (inr further) =
        let found = earlier further in (
          found.0,
          omega (arith, found.1),
          found.2,
          inr (named graph found.0 p q lower called (elim found.3 [
            | inl same ↦ or_left (p == found.0) (is_ancestor graph found.0 p) (eq-eqb p found.0 (sym same))
            | inr above ↦ or_right (p == found.0) (is_ancestor graph found.0 p) above
          ])),
        )

-- what a member behind them names is behind them
pub behind_called : (graph : List (List ℕ)) (old : List ℕ) (m k : ℕ) → AreLower graph → is_behind graph old m ≡ true → names graph m k ≡ true → is_behind graph old k ≡ true
behind_called graph old m k lower behind called =
    let w = witness (λ q. (q == m) || is_ancestor graph m q) old behind in
    let c = witness (λ p. p == k) (preds_at graph m) called in
    let step : is_ancestor graph k m ≡ true = named graph k c.0 m lower c.1 (or_left (c.0 == k) (is_ancestor graph k c.0) c.2) in
    any_from_member (λ q. (q == k) || is_ancestor graph k q) old w.0 w.1 (or_right (w.0 == k) (is_ancestor graph k w.0) (elim (or_cases (w.0 == m) (is_ancestor graph m w.0) w.2) [
      | inl here ↦ subst (λ q. is_ancestor graph k q ≡ true) (sym (eqb-true w.0 m here)) step
      | inr above ↦ through graph k m w.0 lower step above
    ]))

-- The members from `n` on are done: what is marked is behind, and what is behind is marked, or a member that is still to be done and is behind names it.
pub record IsMarked (graph : List (List ℕ)) (old : List ℕ) (n : ℕ) (marks : List Bool) : Type 0 where
  pub sound : (k : ℕ) → k < length graph → slice_index_or marks k false ≡ true → is_behind graph old k ≡ true
  pub complete : (k : ℕ) → k < length graph → is_behind graph old k ≡ true
      → (slice_index_or marks k false ≡ true) ⊎ ((q : ℕ) × (q < n) × (is_behind graph old q ≡ true) × (names graph q k ≡ true))

pub marked_first : (graph : List (List ℕ)) (old : List ℕ) (marks : List Bool) → AreLower graph → All (λ q. q < length graph) old
    → ((k : ℕ) → k < length graph → slice_index_or marks k false ≡ list_any (λ p. p == k) old) → IsMarked graph old (length graph) marks
marked_first graph old marks lower own are = record {
  sound = λ k low marked.
      let w = witness (λ p. p == k) old (sym (are k low) ∙ marked) in
      any_from_member (λ q. (q == k) || is_ancestor graph k q) old w.0 w.1 (or_left (w.0 == k) (is_ancestor graph k w.0) w.2);
  complete = λ k low behind.
      let w = witness (λ q. (q == k) || is_ancestor graph k q) old behind in
      elim (or_cases (w.0 == k) (is_ancestor graph k w.0) w.2) [
        | inl here ↦ inl (are k low ∙ any_from_member (λ p. p == k) old w.0 w.1 here)
        | inr above ↦
            let held : w.0 < length graph = All-contains (λ q. q < length graph) old w.0 own w.1 in
            let found = upward graph lower (suc w.0) k w.0 (omega arith) above in
            inr (
              found.0,
              omega (arith, found.1, held),
              any_from_member (λ q. (q == found.0) || is_ancestor graph found.0 q) old w.0 w.1 (elim found.3 [
                | inl same ↦ or_left (w.0 == found.0) (is_ancestor graph found.0 w.0) (eq-eqb w.0 found.0 (sym same))
                | inr more ↦ or_right (w.0 == found.0) (is_ancestor graph found.0 w.0) more
              ]),
              found.2,
            )
      ];
}

called_low : (graph : List (List ℕ)) (q k : ℕ) → AreLower graph → names graph q k ≡ true → k < q
called_low graph q k lower called =
    let c = witness (λ p. p == k) (preds_at graph q) called in
    subst (λ p. p < q) (eqb-true c.0 k c.2) (All-contains (λ p. p < q) (preds_at graph q) c.0 (lower q) c.1)

-- what is done is marked rightly
pub marked_is : (graph : List (List ℕ)) (old : List ℕ) (n k : ℕ) (marks : List Bool) → AreLower graph → IsMarked graph old n marks → n ≤ suc k → k < length graph
    → slice_index_or marks k false ≡ is_behind graph old k
marked_is graph old n k marks lower marked high low = by_case (slice_index_or marks k false) refl (is_behind graph old k) refl
  where
    by_case : (m : Bool) → slice_index_or marks k false ≡ m → (t : Bool) → is_behind graph old k ≡ t → slice_index_or marks k false ≡ is_behind graph old k
    by_case true is t e = is ∙ sym (marked.sound k low is)
    by_case false is false e = is ∙ sym e
    by_case false is true e = elim (marked.complete k low e) [
      | inl there ↦ absurd cc
      | inr found ↦ absurd (let above = called_low graph found.0 k lower found.3 in omega (arith, above, found.1))
    ]

pub marked_passed : (graph : List (List ℕ)) (old : List ℕ) (n : ℕ) (marks : List Bool) → AreLower graph → n < length graph → slice_index_or marks n false ≡ false → IsMarked graph old (suc n) marks → IsMarked graph old n marks
marked_passed graph old n marks lower held none marked = record {
  sound = marked.sound;
  complete = λ k low behind. elim (marked.complete k low behind) [
    | inl there ↦ inl there
    | inr found ↦ inr (found.0, other found.0 found.1 found.2, found.2, found.3)
  ];
}
  where
    other : (q : ℕ) → q < suc n → is_behind graph old q ≡ true → q < n
    other q under behind = elim (cases_eq q n) [
      | inl same ↦ absurd (let is = sym (marked_is graph old (suc n) n marks lower marked (omega arith) held) ∙ none in let at : is_behind graph old n ≡ true = subst (λ j. is_behind graph old j ≡ true) same behind in cc)
      | inr apart ↦ omega arith
    ]

pub marked_more : (graph : List (List ℕ)) (old : List ℕ) (n : ℕ) (marks new : List Bool) → AreLower graph → n < length graph → slice_index_or marks n false ≡ true
    → ((k : ℕ) → k < length graph → slice_index_or new k false ≡ (slice_index_or marks k false || names graph n k)) → IsMarked graph old (suc n) marks → IsMarked graph old n new
marked_more graph old n marks new lower held here are marked = record {
  sound = λ k low is. elim (or_cases (slice_index_or marks k false) (names graph n k) (sym (are k low) ∙ is)) [
    | inl before ↦ marked.sound k low before
    | inr called ↦ behind_called graph old n k lower (marked.sound n held here) called
  ];
  complete = λ k low behind. elim (marked.complete k low behind) [
    | inl there ↦ inl (are k low ∙ or_left (slice_index_or marks k false) (names graph n k) there)
    | inr found ↦ elim (cases_eq found.0 n) [
      | inl same ↦ inl (are k low ∙ or_right (slice_index_or marks k false) (names graph n k) (subst (λ q. names graph q k ≡ true) same found.3))
      | inr apart ↦ inr (found.0, (let under = found.1 in omega arith), found.2, found.3)
    ]
  ];
}

-- ---- the steps of the sweep

pub named_all : (graph : List (List ℕ)) (k n : ℕ) (preds : List ℕ) → AreLower graph → k < length graph → preds ≡ slice_index_or graph k preds → n ≡ length graph → All (λ p. p < 0 + n) preds
named_all graph k n preds lower held is same = λ i d low.
    let below = (subst (All (λ p. p < k)) (preds_read graph k preds held is) (lower k)) i d low in omega (arith, below)

pub unmarked : (m j : ℕ) → slice_index_or (replicate m false) j false ≡ false
unmarked m j = elim (cases_lt j m) [
  | inl low ↦ get_or-replicate m j false false low
  | inr high ↦ get_or_past (replicate m false) j false (omega (arith, length-replicate m false))
]

pub first_step : (graph : List (List ℕ)) (old : List ℕ) (lent new : List Bool) → AreLower graph → All (λ q. q < length graph) old → lent ≡ replicate (length graph) false
    → ((k : ℕ) → k < length lent → slice_index_or new k false ≡ (slice_index_or lent k false || list_any (λ p. p == 0 + k) old)) → length lent ≡ length graph → IsMarked graph old (length graph) new
first_step graph old lent new lower own is are size = marked_first graph old new lower own (λ k low.
    let z : 0 + k ≡ k = omega arith in
    let none : slice_index_or lent k false ≡ false = rw is (unmarked (length graph) k) in
    are k (omega arith) ∙ ap (λ b. b || list_any (λ p. p == 0 + k) old) none ∙ ap (λ i. list_any (λ p. p == i) old) z)

pub next_step : (graph : List (List ℕ)) (old : List ℕ) (k last : ℕ) (marks new : List Bool) (preds : List ℕ) (mark : Bool) → AreLower graph → k < length graph → last ≡ k + 1 → length marks ≡ length graph
    → mark ≡ slice_index_or marks k mark → mark ≡ true → preds ≡ slice_index_or graph k preds
    → ((j : ℕ) → j < length marks → slice_index_or new j false ≡ (slice_index_or marks j false || list_any (λ p. p == 0 + j) preds)) → IsMarked graph old last marks → IsMarked graph old k new
next_step graph old k last marks new preds mark lower held is_last size reads marked are_preds are before =
    let next : last ≡ suc k = omega arith in
    marked_more graph old k marks new lower held (sym (get_or_read marks k mark (omega arith) reads false) ∙ marked)
    (λ j low. let z : 0 + j ≡ j = omega arith in
    are j (omega arith) ∙ ap (λ i. slice_index_or marks j false || list_any (λ p. p == i) preds) z
    ∙ ap (λ (ps : List ℕ). slice_index_or marks j false || list_any (λ p. p == j) ps) (sym (preds_read graph k preds held are_preds)))
    (subst (λ n. IsMarked graph old n marks) next before)

pub pass_step : (graph : List (List ℕ)) (old : List ℕ) (k last : ℕ) (marks : List Bool) (mark : Bool) → AreLower graph → k < length graph → last ≡ k + 1 → length marks ≡ length graph
    → mark ≡ slice_index_or marks k mark → mark ≡ false → IsMarked graph old last marks → IsMarked graph old k marks
pass_step graph old k last marks mark lower held is_last size reads none before =
    let next : last ≡ suc k = omega arith in
    marked_passed graph old k marks lower held (sym (get_or_read marks k mark (omega arith) reads false) ∙ none) (subst (λ n. IsMarked graph old n marks) next before)

-- marks that are lent whole and come back
pub put_back : {X : Type 0} (n : ℕ) (new items : List X) → length new ≡ n → take n (new ++ drop (length new) items) ≡ new
put_back n new items long = take_at new (drop (length new) items) n long
