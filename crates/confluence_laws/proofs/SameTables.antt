-- Tables in rising order are one list, whatever the order of the updates.
use Rattle.std.proofs.Common.{◌≡◌, ℕ, suc, Bool, true, false, cond, List, [], ◌∷◌, length, map, filter, refl, sym, ap₂, ◌∙◌, subst, arith, Some, slice_get, ◌⊎◌, inl, inr}
use Rattle.std.specs.List.{AllByRecursion}
use Rattle.std.specs.Cmp.{IsTotalOrder}
use Rattle.std.specs.declared.cmp.Ordering.{Ordering}
use Rattle.std.specs.declared.cmp.Ordering.TheVariants.{Less, Greater}
use Rattle.std.specs.List.Sorted.{IsStrictlySortedBy, IsPermutation}
use Rattle.std.proofs.lemmas.Bool.{both_ways}
use Rattle.std.proofs.lemmas.Cmp.{nat_cmp_total, then_total, on_total}
use Rattle.std.proofs.lemmas.List.Elements.{All-from_recursion, recursion_from_All}
use Rattle.std.proofs.lemmas.List.Sorted.{All-permutation, IsPermutation-sym}
use Rattle.update_model.specs.declared.row_name.RowName.{RowName}
use Rattle.update_model.specs.Entry.{id_cmp}
use Rattle.update_model.specs.Node.{NodeData}
use Rattle.update_model.proofs.Ids.{id_cmp_total}
use Rattle.table_model.specs.declared.shown_row.ShownRow.{ShownRow}
use Rattle.table_model.specs.declared.void_line.VoidLine.{VoidLine}
use Rattle.table_model.specs.Nodes.{IsClosed, IsSameSet}
use Rattle.table_model.specs.Visible.{Rules, TableRow, table_of, is_visible, shown}
use Rattle.table_model.specs.Verdicts.{is_valid, Judged, judged, effects, effects_of, effects_in, joined, in_table, judge_next, verdict_on}
use Rattle.table_model.specs.Tables.{name_cmp, listed, listed_in, void_line, void_lines, AreRowsIn, AreVoidsIn, AreTablesOf}
use Rattle.table_model.proofs.Alike.{filter-each}
use Rattle.table_model.proofs.SameEffects.{AlikeEffects, same_effects, same_visible, same_shown_values}
use Rattle.table_model.proofs.Order.{same_judged}
use Rattle.table_model.proofs.Standing.{each-map}
use Rattle.table_model.proofs.Each.{each-append, each-left, each-right}
use Rattle.confluence_laws.proofs.Union.{same_judgements}

-- whatever holds of each of the first holds of each of the second
pub record PassesOn {X : Type 0} (xs ys : List X) : Type 1 where
  pub on : (P : X → Type 0) → AllByRecursion P xs → AllByRecursion P ys

PassesOn-trans : {X : Type 0} {xs ys zs : List X} → PassesOn xs ys → PassesOn ys zs → PassesOn xs zs
PassesOn-trans a b = record { on = λ P h. b.on P (a.on P h) }

pub permuted_on : {X : Type 0} (xs ys : List X) → IsPermutation xs ys → PassesOn xs ys
permuted_on xs ys p = record { on = λ P h. recursion_from_All P ys (All-permutation P xs ys p (All-from_recursion P xs h)) }

-- ---- rising lists of the same elements

module _ {X K : Type 0} (key : X → K) (R : K → K → Ordering) (total : IsTotalOrder R) where
  abbrev Rises : List X → Type 0
  Rises [] = Unit {0}
  Rises (x ∷ xs) = AllByRecursion (λ y. R (key x) (key y) ≡ Less) xs × Rises xs

  above : (k : K) (xs : List X) → AllByRecursion (λ y. R k y ≡ Less) (map key xs) → AllByRecursion (λ y. R k (key y) ≡ Less) xs
  above k [] h = tt
  above k (x ∷ xs) h = (h.0, above k xs h.1)

  rises : (xs : List X) → IsStrictlySortedBy R (map key xs) → Rises xs
  unfolding IsStrictlySortedBy
  rises [] s = tt
  rises (x ∷ xs) s = (above (key x) xs s.0, rises xs s.1)

  not_both : (a b : K) → R a b ≡ Less → R b a ≡ Less → ⊥
  not_both a b e f = let turned = total.antisymm a b in let at : R a b ≡ Greater = rw f at turned in absurd cc

  not_itself : (a : K) → R a a ≡ Less → ⊥
  not_itself a e = not_both a a e e

  -- an element is the first of a list, or above it
  abbrev FromOn : X → X → Type 0
  FromOn x y = (y ≡ x) ⊎ (R (key x) (key y) ≡ Less)

  from_first : (x : X) (xs : List X) → Rises (x ∷ xs) → AllByRecursion (FromOn x) (x ∷ xs)
  from_first x xs r = (inl refl, each-map (λ y. R (key x) (key y) ≡ Less) (FromOn x) (λ y h. inr h) xs r.0)

  same_first : (x y : X) (xs ys : List X) → Rises (x ∷ xs) → Rises (y ∷ ys) → PassesOn (x ∷ xs) (y ∷ ys) → PassesOn (y ∷ ys) (x ∷ xs) → x ≡ y
  same_first x y xs ys r s a b =
      elim ((b.on (FromOn y) (from_first y ys s)).0) [
        | inl same ↦ same
        | inr over ↦ elim ((a.on (FromOn x) (from_first x xs r)).0) [
          | inl same ↦ sym same
          | inr under ↦ absurd (not_both (key x) (key y) under over)
        ]
      ]

  only_above : (P : X → Type 0) (x : X) (ys : List X) → AllByRecursion (λ y. R (key x) (key y) ≡ Less) ys → AllByRecursion (λ y. (y ≡ x) ⊎ P y) ys → AllByRecursion P ys
  only_above P x [] over h = tt
  only_above P x (y ∷ ys) over h = (
    (elim h.0 [
      | inl same ↦ absurd (not_itself (key x) (subst (λ (z : X). R (key x) (key z) ≡ Less) same over.0))
      | inr p ↦ p
    ]),
    only_above P x ys over.1 h.1,
  )

  rest_on : (x : X) (xs ys : List X) → AllByRecursion (λ y. R (key x) (key y) ≡ Less) ys → PassesOn (x ∷ xs) (x ∷ ys) → PassesOn xs ys
  rest_on x xs ys over a = record {
    on = λ P h. only_above P x ys over (a.on (λ y. (y ≡ x) ⊎ P y) (inl refl, each-map P (λ y. (y ≡ x) ⊎ P y) (λ y p. inr p) xs h)).1;
  }

  pub one_list : (xs ys : List X) → Rises xs → Rises ys → PassesOn xs ys → PassesOn ys xs → xs ≡ ys
  one_list [] [] r s a b = refl
  one_list [] (y ∷ ys) r s a b = absurd (a.on (λ z. ⊥) tt).0
  one_list (x ∷ xs) [] r s a b = absurd (b.on (λ z. ⊥) tt).0
  one_list (x ∷ xs) (y ∷ ys) r s a b =
      let first : x ≡ y = same_first x y xs ys r s a b in
      let t : Rises (x ∷ ys) = subst (λ (z : X). Rises (z ∷ ys)) (sym first) s in
      let c : PassesOn (x ∷ xs) (x ∷ ys) = subst (λ (z : X). PassesOn (x ∷ xs) (z ∷ ys)) (sym first) a in
      let d : PassesOn (x ∷ ys) (x ∷ xs) = subst (λ (z : X). PassesOn (z ∷ ys) (x ∷ xs)) (sym first) b in
      (λ i. first i ∷ one_list xs ys r.1 t.1 (rest_on x xs ys t.0 c) (rest_on x ys xs r.0 d) i)

-- ---- what each listed row is

-- of a list that is filtered and mapped twice
each_listed : {X Y Z : Type 0} (P : Z → Type 0) (v : X → Bool) (s : X → Y) (q : Y → Bool) (f : Y → Z) (xs : List X)
    → AllByRecursion (λ x. v x ≡ true → q (s x) ≡ true → P (f (s x))) xs → AllByRecursion P (map f (filter q (map s (filter v xs))))
each_listed P v s q f [] h = tt
each_listed P v s q f (x ∷ xs) h =
    let rest = each_listed P v s q f xs h.1 in
    let step : (b c : Bool) → v x ≡ b → q (s x) ≡ c → AllByRecursion P (map f (filter q (map s (cond b (x ∷ filter v xs) (filter v xs))))) =
    elim [
      | true ↦ elim [
        | true ↦ λ e g. subst (λ (d : Bool). AllByRecursion P (map f (cond d (s x ∷ filter q (map s (filter v xs))) (filter q (map s (filter v xs)))))) (sym g) (h.0 e g, rest)
        | false ↦ λ e g. subst (λ (d : Bool). AllByRecursion P (map f (cond d (s x ∷ filter q (map s (filter v xs))) (filter q (map s (filter v xs)))))) (sym g) rest
      ]
      | false ↦ λ c e g. rest
    ] in
    step (v x) (q (s x)) refl refl

listed_each : {X Y Z : Type 0} (P : Z → Type 0) (v : X → Bool) (s : X → Y) (q : Y → Bool) (f : Y → Z) (xs : List X)
    → AllByRecursion P (map f (filter q (map s (filter v xs)))) → AllByRecursion (λ x. v x ≡ true → q (s x) ≡ true → P (f (s x))) xs
listed_each P v s q f [] h = tt
listed_each P v s q f (x ∷ xs) h =
    let step : (b c : Bool) → v x ≡ b → q (s x) ≡ c → AllByRecursion P (map f (filter q (map s (cond b (x ∷ filter v xs) (filter v xs)))))
    → (v x ≡ true → q (s x) ≡ true → P (f (s x))) × AllByRecursion P (map f (filter q (map s (filter v xs)))) =
    elim [
      | true ↦ elim [
        | true ↦ λ e g k.
            let both = subst (λ (d : Bool). AllByRecursion P (map f (cond d (s x ∷ filter q (map s (filter v xs))) (filter q (map s (filter v xs)))))) g k in ((λ m n. both.0), both.1)
        | false ↦ λ e g k.
            ((λ m n. absurd (both_ways _ g n)), subst (λ (d : Bool). AllByRecursion P (map f (cond d (s x ∷ filter q (map s (filter v xs))) (filter q (map s (filter v xs)))))) g k)
      ]
      | false ↦ λ c e g k. ((λ m n. absurd (both_ways _ e m)), k)
    ] in
    let r = step (v x) (q (s x)) refl refl h in
    (r.0, listed_each P v s q f xs r.1)

-- of what the valid ones inserted
abbrev EachInserted : (TableRow → Type 0) → Judged → Type 0
EachInserted P j = is_valid j.verdict ≡ true → AllByRecursion P (effects_of j.node).inserted

each_inserted : (P : TableRow → Type 0) (js : List Judged) → AllByRecursion (EachInserted P) js → AllByRecursion P (effects js).inserted
unfolding verdict_on effects judge_next judged
each_inserted P [] h = tt
each_inserted P (j ∷ js) h =
    let rest = each_inserted P js h.1 in
    let step : (b : Bool) → is_valid j.verdict ≡ b → AllByRecursion P (cond b (joined (effects_of j.node) (effects js)) (effects js)).inserted =
    elim [ true ↦ λ e. each-append P (effects_of j.node).inserted (effects js).inserted (h.0 e) rest | false ↦ λ e. rest ] in
    step (is_valid j.verdict) refl

inserted_each : (P : TableRow → Type 0) (js : List Judged) → AllByRecursion P (effects js).inserted → AllByRecursion (EachInserted P) js
unfolding verdict_on effects judge_next judged
inserted_each P [] h = tt
inserted_each P (j ∷ js) h =
    let step : (b : Bool) → is_valid j.verdict ≡ b → AllByRecursion P (cond b (joined (effects_of j.node) (effects js)) (effects js)).inserted → EachInserted P j × AllByRecursion P (effects js).inserted =
    elim [
      | true ↦ λ e k. ((λ v. each-left P (effects_of j.node).inserted (effects js).inserted k), each-right P (effects_of j.node).inserted (effects js).inserted k)
      | false ↦ λ e k. ((λ v. absurd (both_ways _ e v)), k)
    ] in
    let r = step (is_valid j.verdict) refl h in
    (r.0, inserted_each P js r.1)

inserted_on : (js ks : List Judged) → PassesOn js ks → PassesOn (effects js).inserted (effects ks).inserted
unfolding verdict_on effects judge_next judged
inserted_on js ks a = record { on = λ P h. each_inserted P ks (a.on (EachInserted P) (inserted_each P js h)) }

each_void : (P : VoidLine → Type 0) (js : List Judged) → AllByRecursion (λ j. AllByRecursion P (void_line j.node.id j.verdict)) js → AllByRecursion P (void_lines js)
each_void P [] h = tt
each_void P (j ∷ js) h = each-append P (void_line j.node.id j.verdict) (void_lines js) h.0 (each_void P js h.1)

void_each : (P : VoidLine → Type 0) (js : List Judged) → AllByRecursion P (void_lines js) → AllByRecursion (λ j. AllByRecursion P (void_line j.node.id j.verdict)) js
void_each P [] h = tt
void_each P (j ∷ js) h = (each-left P (void_line j.node.id j.verdict) (void_lines js) h, void_each P js (each-right P (void_line j.node.id j.verdict) (void_lines js) h))

void_on : (js ks : List Judged) → PassesOn js ks → PassesOn (void_lines js) (void_lines ks)
void_on js ks a = record { on = λ P h. each_void P ks (a.on (λ j. AllByRecursion P (void_line j.node.id j.verdict)) (void_each P js h)) }

-- what one list of a set shows, another does
module _ (rules : Rules) (xs ys : List NodeData) (c : IsClosed xs) (d : IsClosed ys) (same : IsSameSet xs ys) where
  judged_on : PassesOn (judged rules xs) (judged rules ys)
  unfolding verdict_on effects judge_next judged
  judged_on = permuted_on (judged rules xs) (judged rules ys) (same_judged rules xs ys c d same)

  listed_on : (number : ℕ) → PassesOn (listed_in rules xs number) (listed_in rules ys number)
  unfolding verdict_on effects judge_next judged
  listed_on number =
      let g = effects_in rules xs in
      let h = effects_in rules ys in
      let a : AlikeEffects g h = same_effects (same_judgements rules xs ys c d same) in
      let visible : filter (λ row. is_visible rules g row.name) g.inserted ≡ filter (λ row. is_visible rules h row.name) g.inserted =
      filter-each _ _ g.inserted (λ row. same_visible rules a row.name) in
      let is : listed_in rules xs number ≡ map listed (filter (in_table number) (map (shown rules h) (filter (λ row. is_visible rules h row.name) g.inserted))) =
      (λ i. map listed (filter (in_table number) (map {A = TableRow} {B = TableRow} (λ row. record row { values = same_shown_values rules a (table_of rules row.table).columns row.values i }) (visible i)))) in
      record {
        on = λ P k.
            each_listed P (λ row. is_visible rules h row.name) (shown rules h) (in_table number) listed h.inserted
            ((inserted_on (judged rules xs) (judged rules ys) judged_on).on _
            (listed_each P (λ row. is_visible rules h row.name) (shown rules h) (in_table number) listed g.inserted (subst (λ (l : List ShownRow). AllByRecursion P l) is k)));
      }

  voids_on : PassesOn (void_lines (judged rules xs)) (void_lines (judged rules ys))
  unfolding verdict_on effects judge_next judged
  voids_on = void_on (judged rules xs) (judged rules ys) judged_on

flipped : (xs ys : List NodeData) → IsSameSet xs ys → IsSameSet ys xs
flipped xs ys same id = sym (same id)

name_cmp_total : IsTotalOrder name_cmp
name_cmp_total = then_total (on_total (λ (name : RowName). name.update) id_cmp_total) (on_total (λ (name : RowName). name.index) nat_cmp_total)

-- two lists of the rows of a table of one set are one
pub same_rows_in : (rules : Rules) (xs ys : List NodeData) → IsClosed xs → IsClosed ys → IsSameSet xs ys → (number : ℕ) (rows others : List ShownRow)
    → AreRowsIn rules xs number rows → AreRowsIn rules ys number others → rows ≡ others
same_rows_in rules xs ys c d same number rows others a b =
    let one = listed_in rules xs number in
    let two = listed_in rules ys number in
    one_list (λ (row : ShownRow). row.name) name_cmp name_cmp_total rows others
    (rises (λ (row : ShownRow). row.name) name_cmp name_cmp_total rows a.rising) (rises (λ (row : ShownRow). row.name) name_cmp name_cmp_total others b.rising)
    (PassesOn-trans (permuted_on rows one a.exact) (PassesOn-trans (listed_on rules xs ys c d same number) (permuted_on two others (IsPermutation-sym others two b.exact))))
    (PassesOn-trans (permuted_on others two b.exact) (PassesOn-trans (listed_on rules ys xs d c (flipped xs ys same) number) (permuted_on one rows (IsPermutation-sym rows one a.exact))))

pub same_voids_in : (rules : Rules) (xs ys : List NodeData) → IsClosed xs → IsClosed ys → IsSameSet xs ys → (lines others : List VoidLine)
    → AreVoidsIn rules xs lines → AreVoidsIn rules ys others → lines ≡ others
unfolding verdict_on effects judge_next judged
same_voids_in rules xs ys c d same lines others a b =
    let one = void_lines (judged rules xs) in
    let two = void_lines (judged rules ys) in
    one_list (λ (line : VoidLine). line.id) id_cmp id_cmp_total lines others
    (rises (λ (line : VoidLine). line.id) id_cmp id_cmp_total lines a.rising) (rises (λ (line : VoidLine). line.id) id_cmp id_cmp_total others b.rising)
    (PassesOn-trans (permuted_on lines one a.exact) (PassesOn-trans (voids_on rules xs ys c d same) (permuted_on two others (IsPermutation-sym others two b.exact))))
    (PassesOn-trans (permuted_on others two b.exact) (PassesOn-trans (voids_on rules ys xs d c (flipped xs ys same)) (permuted_on one lines (IsPermutation-sym lines one a.exact))))

-- lists of equal length with equal elements at each place are one
same_at_each : {X : Type 0} (xs ys : List X) → length xs ≡ length ys → ((i : ℕ) (x y : X) → slice_get xs i ≡ Some x → slice_get ys i ≡ Some y → x ≡ y) → xs ≡ ys
same_at_each [] [] l h = refl
same_at_each [] (y ∷ ys) l h = absurd (omega arith)
same_at_each (x ∷ xs) [] l h = absurd (omega arith)
same_at_each (x ∷ xs) (y ∷ ys) l h =
    let shorter : length xs ≡ length ys = omega arith in
    ap₂ (λ z zs. z ∷ zs) (h 0 x y refl refl) (same_at_each xs ys shorter (λ i a b e f. h (suc i) a b e f))

-- the tables of a closed list are a function of its set
pub same_listed : (rules : Rules) (xs ys : List NodeData) → IsClosed xs → IsClosed ys → IsSameSet xs ys → (tables others : List (List ShownRow)) (voids lines : List VoidLine)
    → AreTablesOf rules xs tables voids → AreTablesOf rules ys others lines → (tables ≡ others) × (voids ≡ lines)
same_listed rules xs ys c d same tables others voids lines a b = (
  same_at_each tables others (a.number ∙ sym b.number) (λ i rows more e f. same_rows_in rules xs ys c d same i rows more (a.rows i rows e) (b.rows i more f)),
  same_voids_in rules xs ys c d same voids lines a.voids b.voids,
)
