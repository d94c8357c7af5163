-- Sorted lists whose keys differ rise, and the keys of tables differ.
use Rattle.std.proofs.Common.{◌≡◌, ℕ, ◌+◌, ◌==◌, ◌<◌, Bool, true, false, ◌&&◌, cond, nat_lt, List, [], ◌∷◌, ◌++◌, length, get_or, map, filter, reverse, refl, sym, ap, ◌∙◌, subst, arith}
use Rattle.std.specs.List.{list_any, AllByRecursion, IsDistinct}
use Rattle.std.specs.Cmp.{IsTotalOrder}
use Rattle.std.specs.declared.cmp.Ordering.{Ordering}
use Rattle.std.specs.declared.cmp.Ordering.TheVariants.{Less, Equal, Greater}
use Rattle.std.specs.Ordering.{eq_by_cmp, is_eq, is_lt, nat_cmp, ordering_reverse, ordering_then}
use Rattle.std.specs.List.Sorted.{IsPermutation, IsSortedBy, IsStrictlySortedBy}
use Rattle.std.proofs.lemmas.Bool.{ltb-true, ne_eqb, or_parts}
use Rattle.std.proofs.lemmas.Cmp.{eq_by_cmp_equiv, nat_cmp_total, then_total, on_total}
use Rattle.std.proofs.lemmas.List.{get_or-map, length-map}
use Rattle.std.proofs.lemmas.List.Sorted.{IsPermutation-map, IsPermutation-reverse, IsPermutation-sym, IsPermutation-trans}
use Rattle.std.proofs.lemmas.Map.Keys.{IsDistinct-IsPermutation, apart_from_distinct, sorted_from_all_adjacent}
use Rattle.update_model.specs.declared.row_name.RowName.{RowName}
use Rattle.update_model.specs.declared.update_id.UpdateId.{UpdateId}
use Rattle.update_model.specs.Entry.{id_cmp, same_id}
use Rattle.update_model.specs.Node.{NodeData}
use Rattle.update_model.proofs.Ids.{id_cmp_total}
use Rattle.table_model.specs.declared.shown_row.ShownRow.{ShownRow}
use Rattle.table_model.specs.declared.verdict.Verdict.{Verdict}
use Rattle.table_model.specs.declared.verdict.Verdict.TheVariants as verdict
use Rattle.table_model.specs.declared.void_line.VoidLine.{VoidLine}
use Rattle.table_model.specs.Invariants.{shown_in}
use Rattle.table_model.specs.Nodes.{holds, IsClosed}
use Rattle.table_model.specs.Tables.{HasDistinctIds, HasDistinctNames, HasDistinctRows, listed, name_cmp, void_line, void_lines}
use Rattle.table_model.specs.Verdicts.{effects_in, in_table, judge_next, judged}
use Rattle.table_model.specs.Visible.{Rules, TableRow, Effects, same_row, is_visible, shown}
use Rattle.table_model.proofs.Founded.{Founded, founded_closed}

-- ---- a sort

above : (o : Ordering) → is_lt o ≡ false → is_eq (ordering_reverse o) ≡ false → ordering_reverse o ≡ Less
above Less a b = absurd cc
above Equal a b = absurd cc
above Greater a b = refl

pub rising_from_sort : {X K : Type 0} (key : X → K) (R : K → K → Ordering) (total : IsTotalOrder R) (xs ys : List X) → IsPermutation xs ys → IsDistinct (eq_by_cmp R) (map key xs)
    → IsSortedBy (λ x y. is_lt (R (key x) (key y))) ys → IsStrictlySortedBy R (map key ys)
unfolding IsStrictlySortedBy
rising_from_sort key R total xs [] moved apart sorted = tt
rising_from_sort key R total xs (y ∷ ys) moved apart sorted =
    let ks = map key (y ∷ ys) in
    let d = key y in
    let distinct : IsDistinct (eq_by_cmp R) ks = IsDistinct-IsPermutation (eq_by_cmp R) ((eq_by_cmp_equiv total).symm) (map key xs) ks (IsPermutation-map key xs (y ∷ ys) moved) apart in
    sorted_from_all_adjacent total ks d
    (λ k h.
    let n : length ks ≡ length (y ∷ ys) = length-map (y ∷ ys) key in
    let low : k + 1 < length (y ∷ ys) = omega arith in
    let a = get_or-map key (y ∷ ys) k y d (omega arith) in
    let b = get_or-map key (y ∷ ys) (k + 1) y d low in
    let not_less : is_lt (R (get_or ks (k + 1) d) (get_or ks k d)) ≡ false = (λ i. is_lt (R (b i) (a i))) ∙ sorted k y (omega arith) low in
    let not_equal : is_eq (R (get_or ks k d) (get_or ks (k + 1) d)) ≡ false = apart_from_distinct (eq_by_cmp R) ks k (k + 1) d distinct (omega arith) h in
    let back = total.antisymm (get_or ks k d) (get_or ks (k + 1) d) in
    back ∙ above (R (get_or ks (k + 1) d) (get_or ks k d)) not_less (sym (ap is_eq back) ∙ not_equal))

pub name_cmp_total : IsTotalOrder name_cmp
name_cmp_total = then_total (on_total (λ (name : RowName). name.update) id_cmp_total) (on_total (λ (name : RowName). name.index) nat_cmp_total)

-- ---- names that the order does not tell apart are one

then_equal : (a b : Ordering) → is_eq (ordering_then a b) ≡ (is_eq a && is_eq b)
then_equal Less b = refl
then_equal Equal b = refl
then_equal Greater b = refl

number_equal : (m n : ℕ) → is_eq (nat_cmp m n) ≡ (m == n)
number_equal m n = step (nat_lt m n) refl
  where
    inner : (c : Bool) → is_eq (cond c Equal Greater) ≡ c
    inner true = refl
    inner false = refl

    step : (b : Bool) → nat_lt m n ≡ b → is_eq (cond b Less (cond (m == n) Equal Greater)) ≡ (m == n)
    step true e = sym (ne_eqb m n (λ same. let low = ltb-true m n e in omega arith))
    step false e = inner (m == n)

pub same_name : (a b : RowName) → eq_by_cmp name_cmp a b ≡ same_row a b
same_name a b = then_equal (id_cmp a.update b.update) (nat_cmp a.index b.index) ∙ ap (λ (c : Bool). same_id a.update b.update && c) (number_equal a.index b.index)

-- ---- rows of closed lists

-- a name that no row has
none_named : (name : RowName) (rows : List TableRow) → list_any (λ e. same_row e.name name) rows ≡ false → AllByRecursion (λ n. eq_by_cmp name_cmp name n ≡ false) (map (λ row. row.name) rows)
none_named name [] h = tt
none_named name (row ∷ rows) h =
    let parts = or_parts (same_row row.name name) (list_any (λ e. same_row e.name name) rows) h in
    ((eq_by_cmp_equiv name_cmp_total).symm name row.name ∙ same_name row.name name ∙ parts.0, none_named name rows parts.1)

founded_distinct : (rules : Rules) (rows : List TableRow) → Founded rules rows → HasDistinctRows rows
unfolding IsDistinct
founded_distinct rules [] f = tt
founded_distinct rules (row ∷ rows) f = (none_named row.name rows f.0.new, founded_distinct rules rows f.1)

-- those of some are told apart where those of all are
module _ {X K : Type 0} (key : X → K) (e : K → K → Bool) (p : X → Bool) where
  each_cond : (k : K) (x : X) (xs : List X) (b : Bool) → e k (key x) ≡ false → AllByRecursion (λ y. e k y ≡ false) (map key xs) → AllByRecursion (λ y. e k y ≡ false) (map key (cond b (x ∷ xs) xs))
  each_cond k x xs true h rest = (h, rest)
  each_cond k x xs false h rest = rest

  each_kept : (k : K) (xs : List X) → AllByRecursion (λ y. e k y ≡ false) (map key xs) → AllByRecursion (λ y. e k y ≡ false) (map key (filter p xs))
  each_kept k [] h = tt
  each_kept k (x ∷ xs) h = each_cond k x (filter p xs) (p x) h.0 (each_kept k xs h.1)

  distinct_cond : (x : X) (xs : List X) (b : Bool) → AllByRecursion (λ y. e (key x) y ≡ false) (map key xs) → IsDistinct e (map key xs) → IsDistinct e (map key (cond b (x ∷ xs) xs))
  unfolding IsDistinct
  distinct_cond x xs true h rest = (h, rest)
  distinct_cond x xs false h rest = rest

  pub distinct_kept : (xs : List X) → IsDistinct e (map key xs) → IsDistinct e (map key (filter p xs))
  unfolding IsDistinct
  distinct_kept [] h = tt
  distinct_kept (x ∷ xs) h = distinct_cond x (filter p xs) (p x) (each_kept (key x) xs h.0) (distinct_kept xs h.1)

names_shown : (rules : Rules) (did : Effects) (rows : List TableRow) → map (λ row. row.name) (map (shown rules did) rows) ≡ map (λ row. row.name) rows
names_shown rules did [] = refl
names_shown rules did (row ∷ rows) = ap (λ l. row.name ∷ l) (names_shown rules did rows)

names_listed : (rows : List TableRow) → map (λ row. row.name) (map listed rows) ≡ map (λ row. row.name) rows
names_listed [] = refl
names_listed (row ∷ rows) = ap (λ l. row.name ∷ l) (names_listed rows)

-- the rows that a closed list shows have names of their own
pub shown_distinct : (rules : Rules) (nodes : List NodeData) → IsClosed nodes → HasDistinctRows (shown_in rules nodes)
shown_distinct rules nodes c =
    let did = effects_in rules nodes in
    let visible = filter (λ row. is_visible rules did row.name) did.inserted in
    subst (IsDistinct (eq_by_cmp name_cmp)) (sym (names_shown rules did visible))
    (distinct_kept (λ (row : TableRow). row.name) (eq_by_cmp name_cmp) (λ row. is_visible rules did row.name) did.inserted (founded_distinct rules did.inserted (founded_closed rules nodes c).founded))

-- and so have those of a table
pub listed_distinct : (rows : List TableRow) (number : ℕ) (shown : List ShownRow) → HasDistinctRows rows → shown ≡ map listed (filter (in_table number) rows) → HasDistinctNames shown
listed_distinct rows number shown h is =
    subst (λ l. HasDistinctNames l) (sym is) (subst (IsDistinct (eq_by_cmp name_cmp)) (sym (names_listed (filter (in_table number) rows)))
    (distinct_kept (λ (row : TableRow). row.name) (eq_by_cmp name_cmp) (in_table number) rows h))

-- ---- lines

one_lined : (id other : UpdateId) (v : Verdict) (lines : List VoidLine) → same_id id other ≡ false → AllByRecursion (λ k. eq_by_cmp id_cmp id k ≡ false) (map (λ line. line.id) lines)
    → AllByRecursion (λ k. eq_by_cmp id_cmp id k ≡ false) (map (λ line. line.id) (void_line other v ++ lines))
one_lined id other verdict.Valid lines e rest = rest
one_lined id other (verdict.Void reason operation) lines e rest = (e, rest)

-- no line of older nodes has a new id
none_lined : (rules : Rules) (id : UpdateId) (nodes : List NodeData) → holds nodes id ≡ false → AllByRecursion (λ k. eq_by_cmp id_cmp id k ≡ false) (map (λ line. line.id) (void_lines (judged rules nodes)))
unfolding judged judge_next
none_lined rules id [] h = tt
none_lined rules id (node ∷ nodes) h =
    let parts = or_parts (same_id id node.id) (holds nodes id) h in
    one_lined id node.id (judge_next rules (judged rules nodes) node).verdict (void_lines (judged rules nodes)) parts.0 (none_lined rules id nodes parts.1)

one_distinct : (id : UpdateId) (v : Verdict) (lines : List VoidLine) → AllByRecursion (λ k. eq_by_cmp id_cmp id k ≡ false) (map (λ line. line.id) lines) → HasDistinctIds lines → HasDistinctIds (void_line id v ++ lines)
unfolding IsDistinct
one_distinct id verdict.Valid lines h rest = rest
one_distinct id (verdict.Void reason operation) lines h rest = (h, rest)

pub lines_distinct : (rules : Rules) (nodes : List NodeData) → IsClosed nodes → HasDistinctIds (void_lines (judged rules nodes))
unfolding judged judge_next IsDistinct
lines_distinct rules [] c = tt
lines_distinct rules (node ∷ nodes) c =
    one_distinct node.id (judge_next rules (judged rules nodes) node).verdict (void_lines (judged rules nodes)) (none_lined rules node.id nodes c.0.new) (lines_distinct rules nodes c.1)

-- lines in the order of arrival
pub arrived_distinct : (lines all : List VoidLine) → reverse lines ≡ all → HasDistinctIds all → HasDistinctIds lines
arrived_distinct lines all is h =
    IsDistinct-IsPermutation (eq_by_cmp id_cmp) ((eq_by_cmp_equiv id_cmp_total).symm) (map (λ (l : VoidLine). l.id) all) (map (λ (l : VoidLine). l.id) lines)
    (IsPermutation-map (λ (l : VoidLine). l.id) all lines (subst (λ (l : List VoidLine). IsPermutation l lines) is (IsPermutation-sym lines (reverse lines) (IsPermutation-reverse lines)))) h

pub arrived_exact : (sorted lines all : List VoidLine) → IsPermutation sorted lines → reverse lines ≡ all → IsPermutation sorted all
arrived_exact sorted lines all moved is = subst (λ (l : List VoidLine). IsPermutation sorted l) is (IsPermutation-trans sorted lines (reverse lines) moved (IsPermutation-reverse lines))
