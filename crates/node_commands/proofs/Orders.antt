-- One set has the same tables in every closed order.
use Rattle.std.proofs.Common.{◌≡◌, inl, inr, ℕ, ◌+◌, Bool, true, false, cond, List, [], ◌∷◌, ◌++◌, length, map, filter, refl, sym, ap, subst, ◌∙◌, Contains, arith}
use Rattle.std.specs.Cmp.{IsTotalOrder}
use Rattle.std.specs.declared.cmp.Ordering.{Ordering}
use Rattle.std.specs.declared.cmp.Ordering.TheVariants.{Less, Greater}
use Rattle.std.specs.List.Sorted.{IsStrictlySortedBy, IsPermutation}
use Rattle.std.proofs.lemmas.Cmp.{nat_cmp_total, then_total, on_total}
use Rattle.std.proofs.lemmas.List.Elements.{All-contains, All-from_recursion, Contains-append_cases, Contains-append_left, Contains-append_right}
use Rattle.std.proofs.lemmas.List.Sorted.{Contains-permutation, IsPermutation-cons, IsPermutation-refl, IsPermutation-remove, IsPermutation-sym, IsPermutation-trans, length_permutation}
use Rattle.std.specs.List.{remove}
use Rattle.update_model.specs.declared.row_name.RowName.{RowName}
use Rattle.update_model.specs.Entry.{id_cmp}
use Rattle.update_model.specs.Node.{NodeData}
use Rattle.update_model.proofs.Ids.{id_cmp_total}
use Rattle.table_model.specs.declared.shown_row.ShownRow.{ShownRow}
use Rattle.table_model.specs.declared.void_line.VoidLine.{VoidLine}
use Rattle.table_model.specs.Nodes.{IsClosed, IsSameSet}
use Rattle.table_model.specs.Tables.{name_cmp, listed, listed_in, void_line, void_lines, AreRowsIn, AreVoidsIn, AreTablesOf}
use Rattle.table_model.specs.Verdicts.{is_valid, Judged, judged, effects, effects_of, effects_in, joined, in_table}
use Rattle.table_model.specs.Visible.{Effects, Rules, TableRow, table_of, is_visible, shown}
use Rattle.table_model.proofs.Alike.{Alike, Alike-filter, Alike-map, filter-each, same_length, weight, weight-append}
use Rattle.table_model.proofs.Order.{same_judged}
use Rattle.table_model.proofs.SameEffects.{AlikeEffects, same_effects, same_visible, same_shown_values}
use Rattle.confluence_laws.proofs.Union.{same_judgements, same_tables}
use Rattle.table_model.proofs.Members.{contains_first, contains_later, contains_cases, contains_mapped}

-- ---- what is made of each element in turn

module _ {X Y : Type 0} (F : List X → List Y) (f : X → List Y) (none : F [] ≡ []) (more : (x : X) (xs : List X) → F (x ∷ xs) ≡ f x ++ F xs) where
  made_of : (xs : List X) (y : Y) → Contains (F xs) y → (x : X) × Contains xs x × Contains (f x) y
  made_of [] y c = let low = (subst (λ (l : List Y). Contains l y) none c).1 in absurd (omega arith)
  made_of (x ∷ xs) y c = elim (Contains-append_cases (f x) (F xs) y (subst (λ (l : List Y). Contains l y) (more x xs) c)) [
    | inl here ↦ (x, contains_first x xs, here)
    | inr later ↦ let found = made_of xs y later in (found.0, contains_later x found.0 xs found.1, found.2)
  ]

  makes : (xs : List X) (x : X) (y : Y) → Contains xs x → Contains (f x) y → Contains (F xs) y
  makes [] x y c d = let low = c.1 in absurd (omega arith)
  makes (z ∷ zs) x y c d = subst (λ (l : List Y). Contains l y) (sym (more z zs)) (elim (contains_cases z x zs c) [
    | inl same ↦ Contains-append_left (f z) (F zs) y (subst (λ (w : X). Contains (f w) y) (sym same) d)
    | inr later ↦ Contains-append_right (f z) (F zs) y (makes zs x y later d)
  ])

  made_in : (xs ys : List X) → ((x : X) → Contains xs x → Contains ys x) → (y : Y) → Contains (F xs) y → Contains (F ys) y
  made_in xs ys within y c = let found = made_of xs y c in makes ys found.0 y (within found.0 found.1) found.2

  weight_made : (w : Y → ℕ) (xs : List X) → weight w (F xs) ≡ weight (λ x. weight w (f x)) xs
  weight_made w [] = ap (weight w) none
  weight_made w (x ∷ xs) = ap (weight w) (more x xs) ∙ weight-append w (f x) (F xs) ∙ ap (λ n. weight w (f x) + n) (weight_made w xs)

  alike_made : (xs ys : List X) → Alike xs ys → Alike (F xs) (F ys)
  alike_made xs ys a = record { weighs = λ w. weight_made w xs ∙ a.weighs (λ x. weight w (f x)) ∙ sym (weight_made w ys) }

-- what a valid node inserted
abbrev inserted_by : Judged → List TableRow
inserted_by j = cond (is_valid j.verdict) (effects_of j.node).inserted []

inserted_more : (j : Judged) (js : List Judged) → (effects (j ∷ js)).inserted ≡ inserted_by j ++ (effects js).inserted
unfolding effects
inserted_more j js =
    elim (is_valid j.verdict) as (λ b. (cond b (joined (effects_of j.node) (effects js)) (effects js)).inserted ≡ cond b (effects_of j.node).inserted [] ++ (effects js).inserted) [ true ↦ refl | false ↦ refl ]

inserted_none : (effects []).inserted ≡ []
unfolding effects
inserted_none = refl

-- the listed rows of rows that were inserted
abbrev rows_of : Rules → Effects → ℕ → List TableRow → List ShownRow
rows_of rules did number rows = map listed (filter (in_table number) (map (shown rules did) (filter (λ row. is_visible rules did row.name) rows)))

rows_more : (rules : Rules) (did : Effects) (number : ℕ) (row : TableRow) (rows : List TableRow) → rows_of rules did number (row ∷ rows) ≡ rows_of rules did number (row ∷ []) ++ rows_of rules did number rows
rows_more rules did number row rows = by (is_visible rules did row.name) (in_table number (shown rules did row)) refl refl
  where
    by : (b c : Bool) → is_visible rules did row.name ≡ b → in_table number (shown rules did row) ≡ c → rows_of rules did number (row ∷ rows) ≡ rows_of rules did number (row ∷ []) ++ rows_of rules did number rows
    by false c e g = rw e refl
    by true true e g = rw (e, g) refl
    by true false e g = rw (e, g) refl

-- ---- a list without repetition that has as many elements as another, all of them in it, is that list in some order

module _ {X K : Type 0} (key : X → K) (R : K → K → Ordering) (total : IsTotalOrder R) where
  not_itself : (k : K) → R k k ≡ Less → ⊥
  not_itself k e = let turned = total.antisymm k k in let at : Less ≡ Greater = rw e at turned in absurd cc

  above : (x : X) (xs : List X) → IsStrictlySortedBy R (map key (x ∷ xs)) → (y : X) → Contains xs y → R (key x) (key y) ≡ Less
  unfolding IsStrictlySortedBy
  above x xs s y c = All-contains (λ k. R (key x) k ≡ Less) (map key xs) (key y) (All-from_recursion (λ k. R (key x) k ≡ Less) (map key xs) s.0) (contains_mapped key y xs c)

  later : (x : X) (xs : List X) → IsStrictlySortedBy R (map key (x ∷ xs)) → IsStrictlySortedBy R (map key xs)
  unfolding IsStrictlySortedBy
  later x xs s = s.1

  filled : (xs ys : List X) → IsStrictlySortedBy R (map key xs) → ((x : X) → Contains xs x → Contains ys x) → length xs ≡ length ys → IsPermutation xs ys
  filled [] [] rises within size = IsPermutation-refl []
  filled [] (y ∷ ys) rises within size = absurd (omega (arith, size))
  filled (x ∷ xs) ys rises within size =
      let at = within x (contains_first x xs) in
      let without = remove ys at.0 in
      let moved : IsPermutation ys (x ∷ without) = IsPermutation-remove ys at.0 x at.1 (sym at.2) in
      let sizes = length_permutation ys (x ∷ without) moved in
      let rest : IsPermutation xs without = filled xs without (later x xs rises) (λ y c. elim (contains_cases x y without (Contains-permutation ys (x ∷ without) y moved (within y (contains_later x y xs c)))) [
        | inl same ↦ absurd (not_itself (key x) (subst (λ (z : X). R (key x) (key z) ≡ Less) (sym same) (above x xs rises y c)))
        | inr found ↦ found
      ]) (omega (arith, size, sizes)) in
      IsPermutation-trans (x ∷ xs) (x ∷ without) ys (IsPermutation-cons x xs without rest) (IsPermutation-sym ys (x ∷ without) moved)

-- ---- closed lists of one set

name_cmp_total : IsTotalOrder name_cmp
name_cmp_total = then_total (on_total (λ (name : RowName). name.update) id_cmp_total) (on_total (λ (name : RowName). name.index) nat_cmp_total)

module _ (rules : Rules) (xs ys : List NodeData) (c : IsClosed xs) (d : IsClosed ys) (same : IsSameSet xs ys) where
  judged_in : (j : Judged) → Contains (judged rules xs) j → Contains (judged rules ys) j
  judged_in j h = Contains-permutation (judged rules xs) (judged rules ys) j (same_judged rules xs ys c d same) h

  listed_there : (number : ℕ) (row : ShownRow) → Contains (listed_in rules xs number) row → Contains (listed_in rules ys number) row
  listed_there number row h =
      let g = effects_in rules xs in
      let k = effects_in rules ys in
      let a : AlikeEffects g k = same_effects (same_judgements rules xs ys c d same) in
      let visible : filter (λ r. is_visible rules g r.name) g.inserted ≡ filter (λ r. is_visible rules k r.name) g.inserted = filter-each _ _ g.inserted (λ r. same_visible rules a r.name) in
      let is : listed_in rules xs number ≡ rows_of rules k number g.inserted =
      (λ i. map listed (filter (in_table number) (map {A = TableRow} {B = TableRow} (λ r. record r { values = same_shown_values rules a (table_of rules r.table).columns r.values i }) (visible i)))) in
      made_in (rows_of rules k number) (λ r. rows_of rules k number (r ∷ [])) refl (rows_more rules k number) g.inserted k.inserted
      (made_in (λ js. (effects js).inserted) inserted_by inserted_none inserted_more (judged rules xs) (judged rules ys) judged_in) row (subst (λ (l : List ShownRow). Contains l row) is h)

  pub rows_there : (number : ℕ) (rows : List ShownRow) → AreRowsIn rules xs number rows → AreRowsIn rules ys number rows
  rows_there number rows are =
      let size = length_permutation rows (listed_in rules xs number) are.exact in
      let sizes : length (listed_in rules xs number) ≡ length (listed_in rules ys number) = same_length (Alike-map listed (Alike-filter (in_table number) (same_tables rules xs ys c d same))) in
      record {
        rising = are.rising;
        exact = filled (λ (row : ShownRow). row.name) name_cmp name_cmp_total rows (listed_in rules ys number) are.rising
            (λ row h. listed_there number row (Contains-permutation rows (listed_in rules xs number) row are.exact h)) (sym size ∙ sizes);
      }

  voids_there : (lines : List VoidLine) → AreVoidsIn rules xs lines → AreVoidsIn rules ys lines
  voids_there lines are =
      let one = void_lines (judged rules xs) in
      let two = void_lines (judged rules ys) in
      let size = length_permutation lines one are.exact in
      let of : Judged → List VoidLine = λ j. void_line j.node.id j.verdict in
      let sizes : length one ≡ length two = same_length (alike_made void_lines of refl (λ j js. refl) (judged rules xs) (judged rules ys) (same_judgements rules xs ys c d same)) in
      record {
        rising = are.rising;
        exact = filled (λ (line : VoidLine). line.id) id_cmp id_cmp_total lines two are.rising
            (λ line h. made_in void_lines of refl (λ j js. refl) (judged rules xs) (judged rules ys) judged_in line (Contains-permutation lines one line are.exact h)) (sym size ∙ sizes);
      }

  -- the tables of one order are those of the other
  pub tables_there : (tables : List (List ShownRow)) (voids : List VoidLine) → AreTablesOf rules xs tables voids → AreTablesOf rules ys tables voids
  tables_there tables voids are = record { number = are.number; rows = λ number rows at. rows_there number rows (are.rows number rows at); voids = voids_there voids are.voids }
