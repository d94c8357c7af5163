-- Rows in order with the values of their keys are the rows of an answer.
use Rattle.std.proofs.Common.{◌≡◌, ◌∙◌, ℕ, ◌+◌, ◌<◌, Bool, false, List, [], ◌∷◌, ◌++◌, length, get_or, map, filter, Option, Some, None, refl, sym, ap, ap₂, subst, arith}
use Rattle.std.specs.Prelude.{All}
use Rattle.std.specs.declared.cmp.Ordering.{Ordering}
use Rattle.std.specs.declared.cmp.Ordering.TheVariants.{Less, Equal, Greater}
use Rattle.std.specs.List.{AllByRecursion, IsDistinct}
use Rattle.std.specs.List.Sorted.{IsPermutation, IsSorted}
use Rattle.std.specs.Ordering.{eq_by_cmp, is_eq, is_lt, ordering_then}
use Rattle.std.proofs.lemmas.List.{get_or-map, length-map, map-append, take-map}
use Rattle.std.proofs.lemmas.List.Elements.{All-from_recursion, filter-append}
use Rattle.std.proofs.lemmas.List.Sorted.{All-permutation, IsPermutation-map, IsPermutation-sym}
use Rattle.table_model.specs.declared.shown_row.ShownRow.{ShownRow}
use Rattle.table_model.specs.Tables.{HasDistinctNames, name_cmp}
use Rattle.table_model.proofs.Rising.{distinct_kept}
use Rattle.query.specs.declared.item.Key.{Key}
use Rattle.query_answer.specs.declared.line.Line.{Line}
use Rattle.query_answer.specs.Answers.{LineData, data_cmp, keyed, keys_of, limited, line_data}
use Rattle.query_answer.specs.Fronts.{AreApart, asked_lines, first_lines}
use Rattle.query_answer.specs.InOrder.{in_order}
use Rattle.query_answer.specs.Rows.{shown_row}
use Rattle.query_answer.specs.Order.{found_cmp, row_cmp}
use Rattle.query_answer.proofs.Fronts.{in_order_permutes, in_order_sorted}
use Rattle.query_answer.proofs.Orders.{data_total, found_as_keys}

-- the row of a line, and of what it says
abbrev pub row_of : Line → ShownRow
row_of line = shown_row line.row

abbrev pub row_in : LineData → ShownRow
row_in line = line.0

-- two orders of which the second tells apart
told_apart : (a b : Ordering) → is_eq b ≡ false → is_eq (ordering_then a b) ≡ false
told_apart Less b e = refl
told_apart Equal b e = e
told_apart Greater b e = refl

module _ (tables : List (List ShownRow)) (keys : List Key) where
  -- the values are those of the keys
  abbrev IsKeyed : LineData → Type 0
  IsKeyed line = line.1 ≡ keys_of tables keys (row_in line)

  all_keyed : (rows : List ShownRow) → AllByRecursion IsKeyed (map (keyed tables keys) rows)
  all_keyed [] = tt
  all_keyed (row ∷ rows) = (refl, all_keyed rows)

  rows_back : (rows : List ShownRow) → map row_in (map (keyed tables keys) rows) ≡ rows
  rows_back [] = refl
  rows_back (row ∷ rows) = ap (λ (xs : List ShownRow). row ∷ xs) (rows_back rows)

  same_order : (a b : LineData) → IsKeyed a → IsKeyed b → data_cmp keys a b ≡ row_cmp tables keys (row_in a) (row_in b)
  same_order a b left right =
      ap (λ o. ordering_then o (name_cmp (row_in a).name (row_in b).name))
      (ap₂ (found_cmp 0 keys) left right ∙ found_as_keys tables keys (row_in a) (row_in b))

  pub asked_both : (asked : ShownRow → Bool) (xs ys : List ShownRow) → asked_lines tables keys asked (xs ++ ys) ≡ asked_lines tables keys asked xs ++ asked_lines tables keys asked ys
  asked_both asked xs ys = ap (map (keyed tables keys)) (filter-append asked xs ys) ∙ map-append (keyed tables keys) (filter asked xs) (filter asked ys)

  -- rows whose names differ do not tie
  apart_keyed : (rows : List ShownRow) → HasDistinctNames rows → AreApart keys (map (keyed tables keys) rows)
  unfolding IsDistinct
  apart_keyed [] h = tt
  apart_keyed (row ∷ rows) h = (each rows h.0, apart_keyed rows h.1)
    where
      each : (xs : List ShownRow) → AllByRecursion (λ other. eq_by_cmp name_cmp row.name other ≡ false) (map (λ x. x.name) xs)
          → AllByRecursion (λ line. eq_by_cmp (data_cmp keys) (keyed tables keys row) line ≡ false) (map (keyed tables keys) xs)
      each [] h = tt
      each (x ∷ xs) h = (told_apart (found_cmp 0 keys (keys_of tables keys row) (keys_of tables keys x)) (name_cmp row.name x.name) h.0, each xs h.1)

  pub asked_apart : (asked : ShownRow → Bool) (rows : List ShownRow) → HasDistinctNames rows → AreApart keys (asked_lines tables keys asked rows)
  asked_apart asked rows h = apart_keyed (filter asked rows) (distinct_kept (λ (row : ShownRow). row.name) (eq_by_cmp name_cmp) asked rows h)

  -- ---- the rows of an answer

  -- rows in order
  abbrev pub sorted_rows : List ShownRow → List ShownRow
  sorted_rows rows = map row_in (in_order (data_cmp keys) (map (keyed tables keys) rows))

  pub rows_exact : (rows : List ShownRow) → IsPermutation (sorted_rows rows) rows
  rows_exact rows =
      let all = map (keyed tables keys) rows in
      subst (IsPermutation (sorted_rows rows)) (rows_back rows) (IsPermutation-map row_in (in_order (data_cmp keys) all) all (in_order_permutes (data_cmp keys) (data_total keys) all))

  pub rows_ordered : (rows : List ShownRow) → IsSorted (row_cmp tables keys) (sorted_rows rows)
  rows_ordered rows =
      let all = map (keyed tables keys) rows in
      let sorted = in_order (data_cmp keys) all in
      let moved : IsPermutation all sorted = IsPermutation-sym sorted all (in_order_permutes (data_cmp keys) (data_total keys) all) in
      let each : All IsKeyed sorted = All-permutation IsKeyed all sorted moved (All-from_recursion IsKeyed all (all_keyed rows)) in
      λ k d low high. step sorted (in_order_sorted (data_cmp keys) (data_total keys) all) each k d high sorted refl
    where
      step : (sorted : List LineData) → IsSorted (data_cmp keys) sorted → All IsKeyed sorted → (k : ℕ) (d : ShownRow) → k + 1 < length (map row_in sorted) → (xs : List LineData) → sorted ≡ xs
          → is_lt (row_cmp tables keys (get_or (map row_in sorted) (k + 1) d) (get_or (map row_in sorted) k d)) ≡ false
      step sorted up all k d high [] is = let n : length (map row_in sorted) ≡ 0 = ap (λ (xs : List LineData). length (map row_in xs)) is in absurd (omega arith)
      step sorted up all k d high (first ∷ xs) is =
          let n : length (map row_in sorted) ≡ length sorted = length-map sorted row_in in
          let low : k < length sorted = omega arith in
          let next : k + 1 < length sorted = omega arith in
          let a = get_or sorted k first in
          let b = get_or sorted (k + 1) first in
          let left : get_or (map row_in sorted) k d ≡ row_in a = get_or-map row_in sorted k first d low in
          let right : get_or (map row_in sorted) (k + 1) d ≡ row_in b = get_or-map row_in sorted (k + 1) first d next in
          ap₂ (λ (x y : ShownRow). is_lt (row_cmp tables keys x y)) right left
          ∙ ap is_lt (sym (same_order b a (all (k + 1) first next) (all k first low)))
          ∙ up k first (omega arith) next

  -- what the first lines say of their rows
  pub first_rows : {X : Type 0} (f : ShownRow → X) (limit : Option ℕ) (rows : List ShownRow) (lines : List Line) → map line_data lines ≡ first_lines tables keys limit rows
      → map (λ line. f (row_of line)) lines ≡ map f (limited limit (sorted_rows rows))
  first_rows {X} f limit rows lines is =
      mapped lines ∙ ap (λ (xs : List LineData). map (λ line. f (row_in line)) xs) is ∙ turned (limited limit sorted) ∙ ap (map f) (sym (few limit sorted))
    where
      sorted : List LineData
      sorted = in_order (data_cmp keys) (map (keyed tables keys) rows)

      mapped : (xs : List Line) → map (λ line. f (row_of line)) xs ≡ map (λ line. f (row_in line)) (map line_data xs)
      mapped [] = refl
      mapped (x ∷ xs) = ap (λ (ys : List X). f (row_of x) ∷ ys) (mapped xs)

      turned : (xs : List LineData) → map (λ line. f (row_in line)) xs ≡ map f (map row_in xs)
      turned [] = refl
      turned (x ∷ xs) = ap (λ (ys : List X). f (row_in x) ∷ ys) (turned xs)

      few : (limit : Option ℕ) (xs : List LineData) → limited limit (map row_in xs) ≡ map row_in (limited limit xs)
      few None xs = refl
      few (Some n) xs = take-map row_in n xs
