-- Counts of causes that fit each other tell which rows are visible.
use Rattle.std.proofs.Common.{◌≡◌, ℕ, ◌+◌, ◌==◌, Bool, true, false, not, ◌&&◌, ◌||◌, List, [], ◌∷◌, refl, sym, ap, ◌∙◌, subst, arith}
use Rattle.std.specs.List.{list_any, list_all, AllByRecursion}
use Rattle.std.proofs.lemmas.Bool.{and_parts, and_from, eqb-true, eq-eqb, not_from_false, not-true}
use Rattle.update_model.specs.declared.row_name.RowName.{RowName}
use Rattle.table_model.specs.Visible.{Rules, TableRow, RowRef, Effects, same_row, cascade_refs, is_candidate, is_least, shows, is_visible}
use Rattle.table_model.specs.Counts.{one_where, times, causes_where, is_counted, AreCounted}
use Rattle.table_model.proofs.Standing.{row_from_same, bool_same}
use Rattle.table_model.proofs.Settled.{any_gives, IsOne, are_resting, shows_one, shows_none, visible_only, each_both}

none_weigh : {X : Type 0} (p : X → Bool) (xs : List X) → times p xs ≡ 0 → list_any p xs ≡ false
none_weigh p [] h = refl
none_weigh p (x ∷ xs) h =
    let step : (b : Bool) → one_where b + times p xs ≡ 0 → (b || list_any p xs) ≡ false = elim [
      | true ↦ λ e. absurd (omega arith)
      | false ↦ λ e. none_weigh p xs (omega arith)
    ] in
    step (p x) h

weigh_none : {X : Type 0} (p : X → Bool) (xs : List X) → list_any p xs ≡ false → times p xs ≡ 0
weigh_none p [] h = refl
weigh_none p (x ∷ xs) h =
    let step : (b : Bool) → (b || list_any p xs) ≡ false → one_where b + times p xs ≡ 0 = elim [
      | true ↦ λ e. absurd cc
      | false ↦ λ e. let rest = weigh_none p xs e in omega arith
    ] in
    step (p x) h

all_by_none : {X : Type 0} (q : X → Bool) (xs : List X) → list_any (λ x. not (q x)) xs ≡ false → list_all q xs ≡ true
all_by_none q [] h = refl
all_by_none q (x ∷ xs) h =
    let step : (b : Bool) → (not b || list_any (λ x. not (q x)) xs) ≡ false → (b && list_all q xs) ≡ true = elim [ true ↦ λ e. all_by_none q xs e | false ↦ λ e. absurd cc ] in
    step (q x) h

none_by_all : {X : Type 0} (q : X → Bool) (xs : List X) → list_all q xs ≡ true → list_any (λ x. not (q x)) xs ≡ false
none_by_all q [] h = refl
none_by_all q (x ∷ xs) h =
    let step : (b : Bool) → (b && list_all q xs) ≡ true → (not b || list_any (λ x. not (q x)) xs) ≡ false = elim [ true ↦ λ e. none_by_all q xs e | false ↦ λ e. absurd cc ] in
    step (q x) h

-- a row has no causes exactly where it is a candidate and nothing goes before it
pub no_causes : (rules : Rules) (did : Effects) (seen : RowName → Bool) (row : TableRow) → (causes_where rules did seen row == 0) ≡ (is_candidate rules did seen row && is_least rules did seen row)
no_causes rules did seen row =
    let dels = times (same_row row.name) did.deleted in
    let hidden = times (λ (r : RowRef). not (seen r.name)) (cascade_refs rules row) in
    bool_same (causes_where rules did seen row == 0) (is_candidate rules did seen row && is_least rules did seen row)
    (λ h.
    let e = eqb-true (causes_where rules did seen row) 0 h in
    let step : (b : Bool) → is_least rules did seen row ≡ b → dels + hidden + one_where (not b) ≡ 0 → (is_candidate rules did seen row && is_least rules did seen row) ≡ true = elim [
      | true ↦ λ l z. and_from _ _ (and_from _ _ (all_by_none (λ r. seen r.name) (cascade_refs rules row) (none_weigh (λ (r : RowRef). not (seen r.name)) (cascade_refs rules row) (omega arith)))
          (not_from_false _ (none_weigh (same_row row.name) did.deleted (omega arith)))) l
      | false ↦ λ l z. absurd (omega arith)
    ] in
    step (is_least rules did seen row) refl e)
    (λ h.
    let two = and_parts (is_candidate rules did seen row) _ h in
    let led = and_parts (list_all (λ r. seen r.name) (cascade_refs rules row)) _ two.0 in
    let a : dels ≡ 0 = weigh_none (same_row row.name) did.deleted (not-true _ led.1) in
    let b : hidden ≡ 0 = weigh_none (λ (r : RowRef). not (seen r.name)) (cascade_refs rules row) (none_by_all (λ r. seen r.name) (cascade_refs rules row) led.0) in
    let c : one_where (not (is_least rules did seen row)) ≡ 0 = ap (λ (x : Bool). one_where (not x)) two.1 in
    eq-eqb (causes_where rules did seen row) 0 (omega arith))

-- Where a number is kept for each row, and it is that of its causes, as those rows are seen whose number is 0, these are the visible
-- ones: no order in which the numbers came to be so matters.
module _ (rules : Rules) (did : Effects) (ones : AllByRecursion (IsOne did.inserted) did.inserted) (rest : are_resting rules did.inserted ≡ true) (count : RowName → ℕ) where
  pub counted_visible : AreCounted rules did count → (name : RowName) → is_counted did count name ≡ is_visible rules did name
  counted_visible counted =
      visible_only rules did ones rest (is_counted did count) (λ name.
      let step : (b : Bool) → list_any (λ row. same_row row.name name) did.inserted ≡ b → (b && (count name == 0)) ≡ shows rules did (is_counted did count) name = elim [
        | true ↦ λ there. any_gives ((count name == 0) ≡ shows rules did (is_counted did count) name) (λ row. IsOne did.inserted row × (count row.name ≡ causes_where rules did (is_counted did count) row)) (λ row. same_row row.name name)
            (λ row p e. subst (λ (n : RowName). (count n == 0) ≡ shows rules did (is_counted did count) n) (row_from_same row.name name e)
            (ap (λ (n : ℕ). n == 0) p.1 ∙ no_causes rules did (is_counted did count) row ∙ sym (shows_one rules did (is_counted did count) row p.0)))
            did.inserted (each_both (IsOne did.inserted) (λ row. count row.name ≡ causes_where rules did (is_counted did count) row) _ (λ row a b. (a, b)) did.inserted ones counted) there
        | false ↦ λ none. sym (shows_none rules did (is_counted did count) name none)
      ] in
      step (list_any (λ row. same_row row.name name) did.inserted) refl)
