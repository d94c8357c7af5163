-- A query has one answer over rows whose names rise.
use Rattle.std.proofs.Common.{◌≡◌, ◌∙◌, ℕ, suc, Bool, false, List, [], ◌∷◌, length, map, filter, slice_get, Some, refl, sym, ap, ap₂, subst, arith}
use Rattle.std.specs.List.{AllByRecursion, IsDistinct}
use Rattle.std.specs.List.Sorted.{IsPermutation, IsSorted, IsStrictlySortedBy}
use Rattle.std.specs.declared.cmp.Ordering.{Ordering}
use Rattle.std.specs.declared.cmp.Ordering.TheVariants.{Less, Equal, Greater}
use Rattle.std.specs.Ordering.{eq_by_cmp, is_eq, ordering_then}
use Rattle.std.proofs.lemmas.List.Sorted.{IsPermutation-sym, IsPermutation-trans}
use Rattle.update_model.specs.declared.value.Value.{Value}
use Rattle.table_model.specs.declared.shown_row.ShownRow.{ShownRow}
use Rattle.update_model.specs.Node.{NodeData}
use Rattle.table_model.specs.Tables.{AreRowsIn, listed_in, name_cmp}
use Rattle.table_model.specs.Visible.{Rules}
use Rattle.table_model.proofs.Rising.{distinct_kept, name_cmp_total, rising_from_sort}
use Rattle.confluence_laws.proofs.SameTables.{one_list, permuted_on}
use Rattle.query.specs.declared.item.Key.{Key}
use Rattle.query.specs.Queries.{QueryData}
use Rattle.query_answer.specs.Answers.{AnswerData, AreShown, IsAnswer, IsAnswerOver, limited, picked}
use Rattle.query_answer.specs.Order.{keys_cmp, row_cmp}
use Rattle.query_answer.specs.Values.{AreRising, IsRising, is_asked, rows_in}
use Rattle.query_answer.proofs.Looking.{Rises, rises}
use Rattle.query_answer.proofs.Orders.{row_total}
use Rattle.query_answer.proofs.Showing.{shown_rising}

-- names that differ tell rows apart
not_tied : (o : Ordering) → is_eq (ordering_then o Less) ≡ false
not_tied Less = refl
not_tied Equal = refl
not_tied Greater = refl

module _ (tables : List (List ShownRow)) (keys : List Key) where
  all_apart : (row : ShownRow) (rows : List ShownRow) → AllByRecursion (λ other. name_cmp row.name other.name ≡ Less) rows
      → AllByRecursion (λ other. eq_by_cmp (row_cmp tables keys) row other ≡ false) (map (λ x. x) rows)
  all_apart row [] h = tt
  all_apart row (other ∷ rows) h =
      (ap (λ o. is_eq (ordering_then (keys_cmp tables keys row other) o)) h.0 ∙ not_tied (keys_cmp tables keys row other), all_apart row rows h.1)

  apart : (rows : List ShownRow) → Rises rows → IsDistinct (eq_by_cmp (row_cmp tables keys)) (map (λ x. x) rows)
  unfolding IsDistinct
  apart [] h = tt
  apart (row ∷ rows) h = (all_apart row rows h.0, apart rows h.1)

  -- each row is below those after it
  abbrev Climbs : List ShownRow → Type 0
  Climbs [] = Unit {0}
  Climbs (row ∷ rows) = AllByRecursion (λ other. row_cmp tables keys row other ≡ Less) rows × Climbs rows

  below : (row : ShownRow) (rows : List ShownRow) → AllByRecursion (λ other. row_cmp tables keys row other ≡ Less) (map (λ x. x) rows) → AllByRecursion (λ other. row_cmp tables keys row other ≡ Less) rows
  below row [] h = tt
  below row (other ∷ rows) h = (h.0, below row rows h.1)

  climbs : (rows : List ShownRow) → IsStrictlySortedBy (row_cmp tables keys) (map (λ x. x) rows) → Climbs rows
  unfolding IsStrictlySortedBy
  climbs [] h = tt
  climbs (row ∷ rows) h = (below row rows h.0, climbs rows h.1)

  in_order : (asked : ShownRow → Bool) (rows sorted : List ShownRow) → Rises rows → IsPermutation sorted (filter asked rows) → IsSorted (row_cmp tables keys) sorted → Climbs sorted
  in_order asked rows sorted rise moved up =
      climbs sorted (rising_from_sort (λ (x : ShownRow). x) (row_cmp tables keys) (row_total tables keys) (filter asked rows) sorted (IsPermutation-sym sorted (filter asked rows) moved)
      (distinct_kept (λ (x : ShownRow). x) (eq_by_cmp (row_cmp tables keys)) asked rows (apart rows rise)) up)

  pub one_order : (asked : ShownRow → Bool) (rows some others : List ShownRow) → Rises rows → IsPermutation some (filter asked rows) → IsPermutation others (filter asked rows)
      → IsSorted (row_cmp tables keys) some → IsSorted (row_cmp tables keys) others → some ≡ others
  one_order asked rows some others rise a b up over =
      let back = IsPermutation-sym others (filter asked rows) b in
      let there : IsPermutation some others = IsPermutation-trans some (filter asked rows) others a back in
      one_list (λ (x : ShownRow). x) (row_cmp tables keys) (row_total tables keys) some others (in_order asked rows some rise a up) (in_order asked rows others rise b over)
      (permuted_on some others there) (permuted_on others some (IsPermutation-sym some others there))

pub one_answer : (relation : ℕ → List Value → Bool) (tables : List (List ShownRow)) (query : QueryData) (answer other : AnswerData) → AreRising tables
    → IsAnswer relation tables query answer → IsAnswer relation tables query other → answer ≡ other
one_answer relation tables query answer other rising a b =
    let rows = rows_in tables query.table in
    let sorted = one_order tables query.keys (is_asked relation tables query.condition) rows a.rows b.rows (rises rows (rising query.table)) a.exact b.exact a.ordered b.ordered in
    let columns : answer.columns ≡ other.columns = a.columns ∙ sym b.columns in
    let values : answer.rows ≡ other.rows = a.values ∙ ap (λ (xs : List ShownRow). map (picked tables query.columns) (limited query.limit xs)) sorted ∙ sym b.values in
    ap₂ (λ (cs : List (List ℕ)) (rs : List (List Value)). record { columns = cs; rows = rs }) columns values

-- ---- tables of updates

-- rows whose names rise are one list where they are the same rows
same_rows : (all some others : List ShownRow) → IsRising some → IsRising others → IsPermutation some all → IsPermutation others all → some ≡ others
same_rows all some others a b p q =
    let there : IsPermutation some others = IsPermutation-trans some all others p (IsPermutation-sym others all q) in
    one_list (λ (row : ShownRow). row.name) name_cmp name_cmp_total some others (rises some a) (rises others b) (permuted_on some others there)
    (permuted_on others some (IsPermutation-sym some others there))

same_items : {X : Type 0} (P : ℕ → X → Type 0) → ((n : ℕ) (a b : X) → P n a → P n b → a ≡ b) → (xs ys : List X) → length xs ≡ length ys
    → ((n : ℕ) (x : X) → slice_get xs n ≡ Some x → P n x) → ((n : ℕ) (y : X) → slice_get ys n ≡ Some y → P n y) → xs ≡ ys
same_items P one [] [] len f g = refl
same_items P one [] (y ∷ ys) len f g = absurd (omega arith)
same_items P one (x ∷ xs) [] len f g = absurd (omega arith)
same_items {X} P one (x ∷ xs) (y ∷ ys) len f g =
    let rest : length xs ≡ length ys = omega arith in
    ap₂ (λ (z : X) (zs : List X). z ∷ zs) (one 0 x y (f 0 x refl) (g 0 y refl))
    (same_items (λ n a. P (suc n) a) (λ n a b. one (suc n) a b) xs ys rest (λ n a e. f (suc n) a e) (λ n a e. g (suc n) a e))

shown_once : (rules : Rules) (nodes : List NodeData) (count : ℕ) (some others : List (List ShownRow)) → AreShown rules nodes count some → AreShown rules nodes count others → some ≡ others
shown_once rules nodes count some others a b =
    same_items (AreRowsIn rules nodes) (λ n x y p q. same_rows (listed_in rules nodes n) x y p.rising q.rising p.exact q.exact) some others (a.number ∙ sym b.number) a.rows b.rows

pub one_answer_over : (rules : Rules) (nodes : List NodeData) (query : QueryData) (answer other : AnswerData) → IsAnswerOver rules nodes query answer → IsAnswerOver rules nodes query other
    → answer ≡ other
one_answer_over rules nodes query answer other a b =
    let count = length rules.tables in
    let same = shown_once rules nodes count b.tables a.tables b.shown a.shown in
    one_answer rules.ask a.tables query answer other (shown_rising rules nodes count a.tables a.shown) a.is
    (subst (λ (tables : List (List ShownRow)). IsAnswer rules.ask tables query other) same b.is)
