-- What is known of a row of a closed list, and which rows are visible.
use Rattle.std.proofs.Common.{◌≡◌, ◌==◌, Bool, true, false, cond, ◌&&◌, List, [], ◌∷◌, filter, refl, sym, subst, inl, inr}
use Rattle.std.specs.List.{list_any, list_all, AllByRecursion}
use Rattle.std.proofs.lemmas.Bool.{and_parts, or_cases, or_right, or_left, and_from, both_ways, eqb-true, eq-eqb}
use Rattle.update_model.specs.declared.row_name.RowName.{RowName}
use Rattle.update_model.specs.Entry.{same_id}
use Rattle.update_model.proofs.Ids.{id_from_same, same_id-refl}
use Rattle.row_check.specs.Meaning.{value_at}
use Rattle.table_model.specs.Visible.{Rules, TableRow, same_row, table_of, refs}
use Rattle.table_model.specs.Verdicts.{stands_among, matches_among, matches_hold}
use Rattle.schema.specs.Checks.{checks_hold}
use Rattle.schema.specs.Columns.{all_fit}
use Rattle.table_model.proofs.Order.{any_weaker}
use Rattle.table_model.proofs.Founded.{match_more, all_weaker, IsFounded, Founded}

pub row_from_same : (a b : RowName) → same_row a b ≡ true → a ≡ b
row_from_same a b h =
    let parts = and_parts (same_id a.update b.update) (a.index == b.index) h in
    λ i. record { update = id_from_same a.update b.update parts.0 i; index = eqb-true a.index b.index parts.1 i }

pub same_row-refl : (a : RowName) → same_row a a ≡ true
same_row-refl a = and_from _ _ (same_id-refl a.update) (eq-eqb a.index a.index refl)

-- a row of a list of well-founded rows: it is there, no other has its name, and it passed its tests
pub record Stands (rules : Rules) (rows : List TableRow) (row : TableRow) : Type 0 where
  pub here : (p : TableRow → Bool) → p row ≡ true → list_any p rows ≡ true
  pub only : (p : TableRow → Bool) → list_any (λ e. same_row e.name row.name && p e) rows ≡ true → p row ≡ true
  pub fit : all_fit (table_of rules row.table).columns row.values ≡ true
  pub checked : checks_hold rules.ask row.values (table_of rules row.table).checks ≡ true
  pub referred : list_all (stands_among rows) (refs rules row) ≡ true
  pub matched : matches_hold rows row.values (table_of rules row.table).matches ≡ true

pub each-map : {X : Type 0} (P Q : X → Type 0) → ((x : X) → P x → Q x) → (xs : List X) → AllByRecursion P xs → AllByRecursion Q xs
each-map P Q f [] e = tt
each-map P Q f (x ∷ xs) e = (f x e.0, each-map P Q f xs e.1)

pub each_stands : (rules : Rules) (rows : List TableRow) → Founded rules rows → AllByRecursion (Stands rules rows) rows
each_stands rules [] f = tt
each_stands rules (row ∷ older) f =
    let it : IsFounded rules older row = f.0 in
    let more : (p : TableRow → Bool) → list_any p older ≡ true → list_any p (row ∷ older) ≡ true = λ p h. or_right (p row) _ h in
    let referred : (e : TableRow) → list_all (stands_among older) (refs rules e) ≡ true → list_all (stands_among (row ∷ older)) (refs rules e) ≡ true =
    λ e h. all_weaker (stands_among older) (stands_among (row ∷ older)) (λ r t. more (λ x. same_row x.name r.name && (x.table == r.target)) t) (refs rules e) h in
    let matched : (e : TableRow) → list_all (λ m. matches_among older e.values m (value_at e.values m.reference)) (table_of rules e.table).matches ≡ true
    → list_all (λ m. matches_among (row ∷ older) e.values m (value_at e.values m.reference)) (table_of rules e.table).matches ≡ true =
    λ e h. all_weaker (λ m. matches_among older e.values m (value_at e.values m.reference)) _ (λ m t. match_more {b = older} {c = row ∷ older} (record { more = more }) e.values m (value_at e.values m.reference) t) (table_of rules e.table).matches h in (
      record {
        here = λ p h. or_left _ _ h;
        only = λ p h. elim (or_cases (same_row row.name row.name && p row) _ h) [
          | inl own ↦ (and_parts _ _ own).1
          | inr other ↦ absurd (both_ways _ it.new (any_weaker (λ e. same_row e.name row.name && p e) (λ e. same_row e.name row.name) (λ e g. (and_parts _ _ g).0) older other))
        ];
        fit = it.fits;
        checked = it.checked;
        referred = referred row it.referred;
        matched = matched row it.matched;
      },
      each-map (Stands rules older) (Stands rules (row ∷ older)) (λ e s. record {
        here = λ p h. more p (s.here p h);
        only = λ p h. elim (or_cases (same_row row.name e.name && p row) _ h) [
          | inl own ↦ absurd (both_ways _ it.new (s.here (λ x. same_row x.name row.name)
              (let same : row.name ≡ e.name = row_from_same row.name e.name (and_parts (same_row row.name e.name) (p row) own).0 in
              subst (λ (n : RowName). same_row e.name n ≡ true) (sym same) (same_row-refl e.name))))
          | inr other ↦ s.only p other
        ];
        fit = s.fit;
        checked = s.checked;
        referred = referred e s.referred;
        matched = matched e s.matched;
      }) older (each_stands rules older f.1),
    )

pub any_each : {X : Type 0} (P : X → Type 0) (p : X → Bool) (b : Bool) → ((x : X) → P x → p x ≡ true → b ≡ true) → (xs : List X) → AllByRecursion P xs → list_any p xs ≡ true → b ≡ true
any_each P p b h [] s e = absurd (cc)
any_each P p b h (x ∷ xs) s e = elim (or_cases (p x) _ e) [ inl here ↦ h x s.0 here | inr there ↦ any_each P p b h xs s.1 there ]

pub all_both : {X : Type 0} (p q r : X → Bool) → ((x : X) → p x ≡ true → q x ≡ true → r x ≡ true) → (xs : List X) → list_all p xs ≡ true → list_all q xs ≡ true → list_all r xs ≡ true
all_both p q r h [] a b = refl
all_both p q r h (x ∷ xs) a b =
    let c = and_parts (p x) _ a in let d = and_parts (q x) _ b in and_from _ _ (h x c.0 d.0) (all_both p q r h xs c.1 d.1)

pub all_filtered : {X : Type 0} (p q : X → Bool) (xs : List X) → list_all q xs ≡ true → list_all q (filter p xs) ≡ true
all_filtered p q [] h = refl
all_filtered p q (x ∷ xs) h =
    let parts = and_parts (q x) _ h in
    elim (p x) as (λ b. list_all q (cond b (x ∷ filter p xs) (filter p xs)) ≡ true) [ true ↦ and_from _ _ parts.0 (all_filtered p q xs parts.1) | false ↦ all_filtered p q xs parts.1 ]

pub bool_same : (a b : Bool) → (a ≡ true → b ≡ true) → (b ≡ true → a ≡ true) → a ≡ b
bool_same true true f h = refl
bool_same true false f h = sym (f refl)
bool_same false true f h = h refl
bool_same false false f h = refl
