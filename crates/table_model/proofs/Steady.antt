-- What is visible after a set of updates and after a smaller one, in tables whose rows are hidden for no lesser one; and that of
-- candidates with equal values one is visible.
use Rattle.std.proofs.Common.{◌≡◌, ℕ, ◌==◌, zero, suc, Bool, true, false, not, ◌&&◌, ◌||◌, List, [], ◌∷◌, filter, cond, Contains, refl, sym, ap, ◌∙◌, subst, inl, inr, Option, Some, is_none}
use Rattle.std.specs.List.{list_any, list_all, AllByRecursion}
use Rattle.std.specs.declared.cmp.Ordering.{Ordering}
use Rattle.std.specs.declared.cmp.Ordering.TheVariants.{Less, Equal, Greater}
use Rattle.std.specs.Ordering.{is_lt}
use Rattle.std.proofs.lemmas.Cmp.{tied_itself}
use Rattle.std.proofs.lemmas.List.Elements.{All-contains, All-from_recursion}
use Rattle.std.proofs.lemmas.Bool.{or_from, and_parts, or_cases, or_right, or_left, and_from, both_ways, eqb-true, eq-eqb, false_from_ne_true, not_from_false, not-true}
use Rattle.update_model.specs.declared.row_name.RowName.{RowName}
use Rattle.update_model.specs.declared.value.Value.{Value}
use Rattle.row_check.specs.declared.cmp.Cmp.TheVariants as cmp
use Rattle.row_check.specs.Comparisons.{compares}
use Rattle.row_check.specs.Meaning.{value_at}
use Rattle.table_model.specs.Verdicts.{in_table, stands_among}
use Rattle.table_model.specs.Visible.{Rules, TableRow, Effects, name_cmp, same_row, table_of, kept_of, refs, is_cascade, cascade_refs, is_candidate, goes_before, is_least_in, is_least, is_visible, is_deleted}
use Rattle.table_model.proofs.EqualValues.{equal_on, plain_least}
use Rattle.table_model.proofs.KeptTables.{steady_to}
use Rattle.table_model.proofs.Founded.{Sub, IsFounded, Founded}
use Rattle.table_model.proofs.Order.{any_weaker}
use Rattle.table_model.proofs.Rising.{name_cmp_total}
use Rattle.table_model.proofs.Standing.{row_from_same, same_row-refl, each-map, any_each, all_both, all_filtered}
use Rattle.table_model.proofs.Settled.{IsOne, are_resting, any_gives, visible_parts, visible_from}
use Rattle.table_model.proofs.Resting.{targets_refs}

-- now and then: what was done then was done now
module _ (rules : Rules) (now then : Effects) (more : Sub then.inserted now.inserted) (gone : Sub then.deleted now.deleted)
    (ones_now : AllByRecursion (IsOne now.inserted) now.inserted) (rest_now : are_resting rules now.inserted ≡ true)
    (ones_then : AllByRecursion (IsOne then.inserted) then.inserted) (rest_then : are_resting rules then.inserted ≡ true) where
  -- a row of then is one of now
  one_now : (e : TableRow) → IsOne then.inserted e → IsOne now.inserted e → is_visible rules now e.name ≡ true → (is_candidate rules now (is_visible rules now) e ≡ true)
  one_now e s t v = (visible_parts rules now ones_now rest_now e t v).0

  steady_each : (rows : List TableRow) → Founded rules rows → AllByRecursion (IsOne then.inserted) rows → AllByRecursion (IsOne now.inserted) rows
      → AllByRecursion (λ e. (depth : ℕ) → steady_to rules depth e.table ≡ true → is_visible rules now e.name ≡ true → is_visible rules then e.name ≡ true) rows
  unfolding steady_to
  steady_each [] fs s t = tt
  steady_each (e ∷ older) fs s t =
      let it : IsFounded rules older e = fs.0 in
      let before = steady_each older fs.1 s.1 t.1 in
      let first : (depth : ℕ) → steady_to rules depth e.table ≡ true → is_visible rules now e.name ≡ true → is_visible rules then e.name ≡ true = elim [
        | zero ↦ λ h v. absurd (cc)
        | suc depth ↦ λ h v.
            let parts = and_parts (is_none (kept_of rules e.table)) _ h in
            let candidate = and_parts (list_all (λ r. is_visible rules now r.name) (cascade_refs rules e)) _ (one_now e s.0 t.0 v) in
            let stays : is_deleted then e.name ≡ false = false_from_ne_true _ (λ d. both_ways _ (not-true _ candidate.1) (gone.more (same_row e.name) d)) in
            let led : list_all (λ r. is_visible rules then r.name) (cascade_refs rules e) ≡ true =
            all_both (stands_among older) (λ r. ((r.target == e.table) || steady_to rules depth r.target) && is_visible rules now r.name) (λ r. is_visible rules then r.name)
            (λ r there both.
            let two = and_parts ((r.target == e.table) || steady_to rules depth r.target) _ both in
            any_each (λ x. (d : ℕ) → steady_to rules d x.table ≡ true → is_visible rules now x.name ≡ true → is_visible rules then x.name ≡ true) (λ x. same_row x.name r.name && (x.table == r.target)) _
            (λ x px hx.
            let pair = and_parts (same_row x.name r.name) _ hx in
            let same : x.name ≡ r.name = row_from_same x.name r.name pair.0 in
            let table : x.table ≡ r.target = eqb-true x.table r.target pair.1 in
            let seen : is_visible rules now x.name ≡ true = subst (λ (n : RowName). is_visible rules now n ≡ true) (sym same) two.1 in
            let lasts : is_visible rules then x.name ≡ true = elim (or_cases (r.target == e.table) _ two.0) [
              | inl own ↦ px (suc depth) (subst (λ (n : ℕ). steady_to rules (suc depth) n ≡ true) (sym (table ∙ eqb-true r.target e.table own)) h) seen
              | inr far ↦ px depth (subst (λ (n : ℕ). steady_to rules depth n ≡ true) (sym table) far) seen
            ] in
            subst (λ (n : RowName). is_visible rules then n ≡ true) same lasts)
            older before there)
            (cascade_refs rules e)
            (all_filtered (λ r. is_cascade r.action) (stands_among older) (refs rules e) it.referred)
            (all_both (λ r. (r.target == e.table) || steady_to rules depth r.target) (λ r. is_visible rules now r.name) (λ r. ((r.target == e.table) || steady_to rules depth r.target) && is_visible rules now r.name)
            (λ r a b. and_from _ _ a b) (cascade_refs rules e)
            (targets_refs (λ n. (n == e.table) || steady_to rules depth n) (table_of rules e.table).columns e.values parts.1) candidate.0) in
            visible_from rules then ones_then rest_then e s.0 (and_from _ _ led (not_from_false _ stays)) (plain_least rules then (is_visible rules then) e parts.0)
      ] in
      (first, before)

  -- each row of then is one of now
  is_one_now : (e : TableRow) → IsOne then.inserted e → IsOne now.inserted e
  is_one_now e s = record {
    here = λ p h. more.more p (s.here p h);
    only = λ p h. any_gives (p e ≡ true) (IsOne now.inserted) (λ x. same_row x.name e.name && p x)
        (λ x one k.
        let two = and_parts (same_row x.name e.name) _ k in
        let same : x.name ≡ e.name = row_from_same x.name e.name two.0 in
        let step : (b : Bool) → p e ≡ b → p e ≡ true = elim [
          | true ↦ λ yes. yes
          | false ↦ λ no_e. absurd (both_ways _ (ap not two.1)
              (one.only (λ y. not (p y)) (more.more (λ y. same_row y.name x.name && not (p y)) (s.here (λ y. same_row y.name x.name && not (p y))
              (and_from _ _ (subst (λ (n : RowName). same_row e.name n ≡ true) (sym same) (same_row-refl e.name)) (not_from_false _ no_e))))))
        ] in
        step (p e) refl)
        now.inserted ones_now h;
  }

  pub steady_row : Founded rules then.inserted → (row : TableRow) → Contains then.inserted row → (depth : ℕ) → steady_to rules depth row.table ≡ true → is_visible rules now row.name ≡ true → is_visible rules then row.name ≡ true
  steady_row founded row there =
      let P : TableRow → Type 0 = λ e. (depth : ℕ) → steady_to rules depth e.table ≡ true → is_visible rules now e.name ≡ true → is_visible rules then e.name ≡ true in
      All-contains P then.inserted row (All-from_recursion P then.inserted
      (steady_each then.inserted founded ones_then (each-map (IsOne then.inserted) (IsOne now.inserted) (λ e s. is_one_now e s) then.inserted ones_then))) there

-- ---- of candidates with equal values, one is visible

-- an element that passes a test, and none that does goes before it
pub record IsFirst {X : Type 0} (before : X → X → Bool) (p : X → Bool) (P : X → Type 0) (xs : List X) : Type 0 where
  pub it : X
  pub passes : p it ≡ true
  pub known : P it
  pub first : list_any (λ x. before x it && p x) xs ≡ false

module _ {X : Type 0} (before : X → X → Bool) (p : X → Bool) (P : X → Type 0) (itself : (x : X) → before x x ≡ false) (onward : (x y z : X) → before x y ≡ true → before y z ≡ true → before x z ≡ true) where
  -- of two, what goes before neither the first nor what the first is
  first_with : (x : X) (xs : List X) → P x → p x ≡ true → (f : IsFirst before p P xs) → IsFirst before p P (x ∷ xs)
  first_with x xs px pass f =
      let step : (b : Bool) → before x f.it ≡ b → IsFirst before p P (x ∷ xs) = elim [
        | true ↦ λ e. record {
          it = x;
          passes = pass;
          known = px;
          first = false_from_ne_true _ (λ h. elim (or_cases (before x x && p x) _ h) [
            | inl own ↦ both_ways _ (itself x) (and_parts (before x x) _ own).0
            | inr other ↦ both_ways _ f.first (any_weaker (λ y. before y x && p y) (λ y. before y f.it && p y)
                (λ y k. let two = and_parts (before y x) _ k in and_from _ _ (onward y x f.it two.0 e) two.1) xs other)
          ]);
        }
        | false ↦ λ e. record {
          it = f.it;
          passes = f.passes;
          known = f.known;
          first = false_from_ne_true _ (λ h. elim (or_cases (before x f.it && p x) _ h) [
            | inl own ↦ both_ways _ e (and_parts (before x f.it) _ own).0
            | inr other ↦ both_ways _ f.first other
          ]);
        }
      ] in
      step (before x f.it) refl

  first_one : (x : X) (xs : List X) → P x → p x ≡ true → list_any p xs ≡ false → IsFirst before p P (x ∷ xs)
  first_one x xs px pass none = record {
    it = x;
    passes = pass;
    known = px;
    first = false_from_ne_true _ (λ h. elim (or_cases (before x x && p x) _ h) [
      | inl own ↦ both_ways _ (itself x) (and_parts (before x x) _ own).0
      | inr other ↦ both_ways _ none (any_weaker (λ y. before y x && p y) p (λ y k. (and_parts (before y x) _ k).1) xs other)
    ]);
  }

  first_past : (x : X) (xs : List X) → p x ≡ false → IsFirst before p P xs → IsFirst before p P (x ∷ xs)
  first_past x xs fails f = record {
    it = f.it;
    passes = f.passes;
    known = f.known;
    first = false_from_ne_true _ (λ h. elim (or_cases (before x f.it && p x) _ h) [
      | inl own ↦ both_ways _ fails (and_parts (before x f.it) _ own).1
      | inr other ↦ both_ways _ f.first other
    ]);
  }

  pub first_of : (xs : List X) → AllByRecursion P xs → list_any p xs ≡ true → IsFirst before p P xs
  first_of [] s h = absurd (cc)
  first_of (x ∷ xs) s h =
      let step : (b c : Bool) → p x ≡ b → list_any p xs ≡ c → IsFirst before p P (x ∷ xs) = elim [
        | true ↦ elim [
          | true ↦ λ e g. first_with x xs s.0 e (first_of xs s.1 g)
          | false ↦ λ e g. first_one x xs s.0 e g
        ]
        | false ↦ elim [
          | true ↦ λ e g. first_past x xs e (first_of xs s.1 g)
          | false ↦ λ e g. absurd (both_ways _ (or_from _ _ e g) h)
        ]
      ] in
      step (p x) (list_any p xs) refl refl

-- ---- the least of candidates

from_less : (o : Ordering) → is_lt o ≡ true → o ≡ Less
from_less Less h = refl
from_less Equal h = absurd cc
from_less Greater h = absurd cc

less_itself : (x : TableRow) → is_lt (name_cmp x.name x.name) ≡ false
less_itself x = ap is_lt (tied_itself name_cmp_total x.name)

less_onward : (x y z : TableRow) → is_lt (name_cmp x.name y.name) ≡ true → is_lt (name_cmp y.name z.name) ≡ true → is_lt (name_cmp x.name z.name) ≡ true
less_onward x y z a b = ap is_lt (name_cmp_total.trans x.name y.name z.name (from_less _ a) (from_less _ b))

any_filter : {X : Type 0} (p q : X → Bool) (xs : List X) → list_any (λ x. q x && p x) xs ≡ true → list_any p (filter q xs) ≡ true
any_filter p q [] h = absurd cc
any_filter p q (x ∷ xs) h =
    let step : (b : Bool) → q x ≡ b → ((b && p x) || list_any (λ x. q x && p x) xs) ≡ true → list_any p (cond b (x ∷ filter q xs) (filter q xs)) ≡ true = elim [
      | true ↦ λ e k. elim (or_cases (p x) _ k) [ inl here ↦ or_left _ _ here | inr there ↦ or_right (p x) _ (any_filter p q xs there) ]
      | false ↦ λ e k. any_filter p q xs k
    ] in
    step (q x) refl h

module _ (rules : Rules) (did : Effects) (ones : AllByRecursion (IsOne did.inserted) did.inserted) (rest : are_resting rules did.inserted ≡ true) where
  -- where some candidate of a table that keeps the least has a value, a visible row of it has
  pub one_stands : (t column : ℕ) (v : Value) → kept_of rules t ≡ Some column
      → list_any (λ x. (in_table t x && compares cmp.Eq v (value_at x.values column)) && is_candidate rules did (is_visible rules did) x) did.inserted ≡ true
      → list_any (λ x. in_table t x && compares cmp.Eq v (value_at x.values column)) (filter (λ row. is_visible rules did row.name) did.inserted) ≡ true
  one_stands t column v is some =
      let has = λ (x : TableRow). in_table t x && compares cmp.Eq v (value_at x.values column) in
      let test = λ (x : TableRow). has x && is_candidate rules did (is_visible rules did) x in
      let f = first_of (λ x y. is_lt (name_cmp x.name y.name)) test (IsOne did.inserted) less_itself less_onward did.inserted ones some in
      let parts = and_parts (has f.it) _ f.passes in
      let two = and_parts (f.it.table == t) _ parts.0 in
      let at : f.it.table ≡ t = eqb-true f.it.table t two.0 in
      let none : list_any (λ other. goes_before column f.it other && is_candidate rules did (is_visible rules did) other) did.inserted ≡ false =
      false_from_ne_true _ (λ h. both_ways _ f.first (any_weaker (λ other. goes_before column f.it other && is_candidate rules did (is_visible rules did) other) (λ other. is_lt (name_cmp other.name f.it.name) && test other)
      (λ other k.
      let a = and_parts (goes_before column f.it other) _ k in
      let b = and_parts ((other.table == f.it.table) && compares cmp.Eq (value_at f.it.values column) (value_at other.values column)) _ a.0 in
      let c = and_parts (other.table == f.it.table) _ b.0 in
      and_from _ _ b.1 (and_from _ _ (and_from _ _ (eq-eqb other.table t (eqb-true other.table f.it.table c.0 ∙ at)) (equal_on v (value_at f.it.values column) (value_at other.values column) two.1 c.1)) a.1))
      did.inserted h)) in
      let least : is_least rules did (is_visible rules did) f.it ≡ true =
      subst (λ (o : Option ℕ). is_least_in rules did (is_visible rules did) f.it o ≡ true) (sym (ap (kept_of rules) at ∙ is)) (not_from_false _ none) in
      let seen = visible_from rules did ones rest f.it f.known parts.1 least in
      any_filter has (λ row. is_visible rules did row.name) did.inserted (f.known.here (λ row. is_visible rules did row.name && has row) (and_from _ _ seen parts.0))
