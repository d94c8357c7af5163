-- How many rows are visible after an update's ancestors, and pass a test.
use Rattle.std.proofs.Common.{◌≡◌, ℕ, ◌+◌, ◌<◌, ◌≤◌, Bool, true, false, cond, not, ◌&&◌, List, [], ◌∷◌, length, take, map, reverse, refl, sym, ap, ◌∙◌, Some, arith}
use Rattle.std.specs.Prelude.{slice_get, filter, count_by, Result, IfOk}
use Rattle.std.proofs.lemmas.Bool.{both_ways}
use Rattle.std.proofs.lemmas.List.{take_all}
use Rattle.std.proofs.lemmas.List.Sums.{count_by_more_no, count_by_more_yes, sum_by-cons, sum_by_push}
use Rattle.table_model.specs.Visible.{TableRow, is_deleted, is_visible}
use Rattle.table_model.proofs.Settled.{are_resting}
use Rattle.tuple_state.specs.declared.inserted.Inserted.{Inserted}
use Rattle.tuple_state.specs.Kept.{are_layered}
use Rattle.tuple_state.specs.Past.{done_then, visible_then}
use Rattle.tuple_state.specs.State.{State, done_in, row_of, rules_of_state}
use Rattle.tuple_state.proofs.Lookups.{get_or_from, reverse_cons}
use Rattle.tuple_state.proofs.Reaching.{hidden_row}
use Rattle.tuple_state.proofs.Regrowth.{and_true}
use Rattle.tuple_state.proofs.Restricting.{if_ok}

-- ---- counts of changed lists

pub count_of_kept : {X : Type 0} (t k : X → Bool) (xs : List X) → count_by t (filter k xs) ≡ count_by (λ x. k x && t x) xs
count_of_kept t k [] = refl
count_of_kept t k (x ∷ xs) =
    let rest = count_of_kept t k xs in
    let step : (b : Bool) → count_by t (cond b (x ∷ filter k xs) (filter k xs)) ≡ cond (b && t x) 1 0 + count_by (λ y. k y && t y) xs =
    elim [
      | true ↦ sum_by-cons (λ y. cond (t y) 1 0) x (filter k xs) ∙ ap (λ n. cond (t x) 1 0 + n) rest
      | false ↦ omega (arith, rest)
    ] in
    step (k x) ∙ sym (sum_by-cons (λ y. cond (k y && t y) 1 0) x xs)

pub count_reversed : {X : Type 0} (t : X → Bool) (xs : List X) → count_by t (reverse xs) ≡ count_by t xs
count_reversed t [] = refl
count_reversed t (x ∷ xs) =
    let pushed : count_by t (reverse (x ∷ xs)) ≡ count_by t (reverse xs) + cond (t x) 1 0 = ap (count_by t) (reverse_cons x xs) ∙ sum_by_push (λ y. cond (t y) 1 0) (reverse xs) x in
    let front : count_by t (x ∷ xs) ≡ cond (t x) 1 0 + count_by t xs = sum_by-cons (λ y. cond (t y) 1 0) x xs in
    let rest = count_reversed t xs in
    omega (arith, pushed, front, rest)

pub count_mapped : {X Y : Type 0} (f : X → Y) (t : Y → Bool) (xs : List X) → count_by t (map f xs) ≡ count_by (λ x. t (f x)) xs
count_mapped f t [] = refl
count_mapped f t (x ∷ xs) =
    sum_by-cons (λ y. cond (t y) 1 0) (f x) (map f xs) ∙ ap (λ n. cond (t (f x)) 1 0 + n) (count_mapped f t xs) ∙ sym (sum_by-cons (λ y. cond (t (f y)) 1 0) x xs)

module _ (state : State) (past : ℕ → Bool) (t : TableRow → Bool) where
  -- whether a row passes the test, where it is visible
  abbrev pub seen_on : Inserted → Bool
  seen_on it = past it.position && (is_visible (rules_of_state state) (done_then state past) it.name && t (row_of it))

  -- the count goes over the rows in order of arrival
  pub count_is : count_by t (visible_then state past) ≡ count_by seen_on state.inserted
  count_is =
      let v : TableRow → Bool = λ row. is_visible (rules_of_state state) (done_then state past) row.name in
      count_of_kept t v (done_then state past).inserted
      ∙ count_reversed (λ row. v row && t row) (map row_of (filter (λ (it : Inserted). past it.position) state.inserted))
      ∙ count_mapped row_of (λ row. v row && t row) (filter (λ (it : Inserted). past it.position) state.inserted)
      ∙ count_of_kept (λ (it : Inserted). v (row_of it) && t (row_of it)) (λ (it : Inserted). past it.position) state.inserted

  -- a row that passes the test is counted where it stands
  pub tested : {E : Type 0} (place : ℕ) (r : Result Bool E) (b : Bool) → b ≡ true → ((it : Inserted) → slice_get state.inserted place ≡ Some it → b ≡ t (row_of it))
      → IfOk r (λ answer. (it : Inserted) → slice_get state.inserted place ≡ Some it → answer ≡ is_visible (rules_of_state state) (done_then state past) it.name)
      → IfOk r (λ answer. (it : Inserted) → slice_get state.inserted place ≡ Some it → answer ≡ (is_visible (rules_of_state state) (done_then state past) it.name && t (row_of it)))
  tested place r b holds is =
      if_ok (λ (answer : Bool). (it : Inserted) → slice_get state.inserted place ≡ Some it → answer ≡ is_visible (rules_of_state state) (done_then state past) it.name)
      (λ (answer : Bool). (it : Inserted) → slice_get state.inserted place ≡ Some it → answer ≡ (is_visible (rules_of_state state) (done_then state past) it.name && t (row_of it)))
      r (λ answer f it at. f it at ∙ sym (ap (λ x. is_visible (rules_of_state state) (done_then state past) it.name && x) (sym (is it at) ∙ holds) ∙ and_true _))

  module _ (all : are_layered (rules_of_state state) (done_in state).inserted ≡ true) (some : are_layered (rules_of_state state) (done_then state past).inserted ≡ true)
      (rest : are_resting (rules_of_state state) (done_then state past).inserted ≡ true) where
    -- what is visible is of the past
    pub seen_at : (place : ℕ) (it : Inserted) (b : Bool) → slice_get state.inserted place ≡ Some it → b ≡ (is_visible (rules_of_state state) (done_then state past) it.name && t (row_of it)) → seen_on it ≡ b
    seen_at place it b at is =
        let g = done_then state past in
        let step : (p v : Bool) → past it.position ≡ p → is_visible (rules_of_state state) g it.name ≡ v → (p && (v && t (row_of it))) ≡ (v && t (row_of it)) =
        elim [
          | true ↦ λ v e f. refl
          | false ↦ elim [
            | true ↦ λ e f. absurd (both_ways _ (hidden_row state.shapes state.inserted past g.deleted all some rest place it at (ap (λ x. x && not (is_deleted g it.name)) e)) f)
            | false ↦ λ e f. refl
          ]
        ] in
        step (past it.position) (is_visible (rules_of_state state) g it.name) refl refl ∙ sym is

    pub one_more : (place : ℕ) (it : Inserted) (b : Bool) (n : ℕ) → slice_get state.inserted place ≡ Some it → place < length state.inserted
        → b ≡ (is_visible (rules_of_state state) (done_then state past) it.name && t (row_of it)) → b ≡ true → n ≡ count_by seen_on (take place state.inserted)
        → n + 1 ≡ count_by seen_on (take (place + 1) state.inserted)
    one_more place it b n at below is holds before =
        ap (λ m. m + 1) before
        ∙ sym (count_by_more_yes seen_on state.inserted place it below (ap seen_on (get_or_from state.inserted place it it at) ∙ seen_at place it b at is ∙ holds))

    pub no_more : (place : ℕ) (it : Inserted) (b : Bool) (n : ℕ) → slice_get state.inserted place ≡ Some it → place < length state.inserted
        → b ≡ (is_visible (rules_of_state state) (done_then state past) it.name && t (row_of it)) → b ≡ false → n ≡ count_by seen_on (take place state.inserted)
        → n ≡ count_by seen_on (take (place + 1) state.inserted)
    no_more place it b n at below is fails before =
        before
        ∙ sym (count_by_more_no seen_on state.inserted place it below (ap seen_on (get_or_from state.inserted place it it at) ∙ seen_at place it b at is ∙ fails))

  -- at the end all are counted
  pub all_counted : (place n : ℕ) → length state.inserted ≤ place → n ≡ count_by seen_on (take place state.inserted) → n ≡ count_by t (visible_then state past)
  all_counted place n past_end before = before ∙ ap (count_by seen_on) (take_all place state.inserted past_end) ∙ sym count_is
