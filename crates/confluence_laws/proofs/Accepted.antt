-- Accepted invariants hold in every closed list.
use Rattle.std.proofs.Common.{◌≡◌, ℕ, ◌+◌, ◌≤◌, nat_le, count_by, is_none, arith, ◌==◌, zero, suc, Bool, true, false, cond, not, ◌&&◌, ◌||◌, List, [], ◌∷◌, ◌++◌, length, map, filter, refl, sym, ap, ap₂, ◌∙◌, subst, Option, Some, None, slice_get, inl, inr}
use Rattle.std.specs.Prelude.{IsTrue, MatchOption}
use Rattle.std.specs.List.{list_any, list_all, AllByRecursion}
use Rattle.std.proofs.lemmas.Bool.{and_parts, or_cases, or_right, or_left, and_from, false_from_ne_true, both_ways, eqb-true, not-true, not_from_false, or_parts, eq-eqb, le-leb}
use Rattle.update_model.specs.declared.row_name.RowName.{RowName}
use Rattle.update_model.specs.declared.value.Value.{Value}
use Rattle.update_model.specs.declared.value.Value.TheVariants as value
use Rattle.update_model.specs.Node.{NodeData}
use Rattle.row_check.specs.declared.cmp.Cmp.TheVariants as cmp
use Rattle.row_check.specs.Comparisons.{compares}
use Rattle.row_check.specs.Meaning.{value_at}
use Rattle.row_check.specs.Trees.{Tree, holds_tree}
use Rattle.schema.specs.declared.action.Action.{Action}
use Rattle.schema.specs.declared.action.Action.TheVariants as action
use Rattle.schema.specs.declared.column.Column.{Column}
use Rattle.schema.specs.declared.column.ColumnKind.{ColumnKind}
use Rattle.schema.specs.declared.column.ColumnKind.TheVariants as kind
use Rattle.schema.specs.Checks.{CheckData}
use Rattle.schema.specs.declared.rules.MatchRule.{MatchRule}
use Rattle.schema.specs.declared.rules.UniqueRule.{UniqueRule}
use Rattle.schema.specs.Columns.{is_reference, target_of, reference_at, is_restrict, are_comparable}
use Rattle.schema.specs.Sound.{IsSoundCheck, IsSoundUnique}
use Rattle.table_model.specs.Nodes.{IsClosed}
use Rattle.table_model.specs.Visible.{Rules, TableRow, Effects, RowRef, same_row, table_of, ref_to, ref_in, refs_in, refs, is_cascade, cascade_refs, name_cmp, kept_of, is_candidate, goes_before, is_least_in, is_visible, is_deleted, shown_value, shown_values, shown, shown_rows}
use Rattle.table_model.specs.Verdicts.{stands_among, matches_among, in_table, effects_in, effects, judge_next, judged, verdict_on}
use Rattle.table_model.specs.Invariants.{Claim, Unique, UniqueKept, AtMost, Refers, Check, Match, names_shown, claim_holds, shown_in}
use Rattle.confluence_laws.specs.Confluence.{permanent_to, is_permanent, accepts}
use Rattle.table_model.proofs.Founded.{IsFounded, Founded, erasable, IsWellFounded, founded_closed}
use Rattle.table_model.proofs.EqualValues.{equal_both, plain_least}
use Rattle.table_model.proofs.KeptTables.{keeps_soundly}
use Rattle.table_model.proofs.Alike.{weight, one_if, count-weight}
use Rattle.table_model.proofs.Standing.{row_from_same, Stands, each-map, each_stands, any_each, all_both, all_filtered}
use Rattle.table_model.proofs.Settled.{IsOne, are_resting, each_both, visible_parts, visible_from, targets_visible}
use Rattle.table_model.proofs.Resting.{all_true, ones_from, resting, targets_refs}
use Rattle.table_model.proofs.Rising.{name_cmp_total, same_name}
use Rattle.std.specs.declared.cmp.Ordering.{Ordering}
use Rattle.std.specs.declared.cmp.Ordering.TheVariants.{Less, Equal, Greater}
use Rattle.std.specs.Ordering.{is_eq, is_lt, ordering_reverse}
use Rattle.confluence_laws.proofs.Plain.{is_plain, compared_left, compared_right, plain_shown, same_holds}
use Rattle.schema.specs.Numbers.{table_number}
use Rattle.schema.proofs.Soundness.{ComparesPlain, IsSound, each_at, kind_of_target}

-- a test of each shown row
pub all_shown : (rules : Rules) (g : Effects) (q : TableRow → Bool) → (rows : List TableRow) → AllByRecursion (Stands rules g.inserted) rows
    → ((e : TableRow) → Stands rules g.inserted e → is_visible rules g e.name ≡ true → q (shown rules g e) ≡ true)
    → list_all q (map (shown rules g) (filter (λ row. is_visible rules g row.name) rows)) ≡ true
all_shown rules g q [] s h = refl
all_shown rules g q (e ∷ rows) s h =
    let step : (b : Bool) → is_visible rules g e.name ≡ b → list_all q (map (shown rules g) (cond b (e ∷ filter (λ row. is_visible rules g row.name) rows) (filter (λ row. is_visible rules g row.name) rows))) ≡ true =
    elim [
      | true ↦ λ v. and_from _ _ (h e s.0 v) (all_shown rules g q rows s.1 h)
      | false ↦ λ v. all_shown rules g q rows s.1 h
    ] in
    step (is_visible rules g e.name) refl

-- a visible row with this test is among the shown ones
any_shown : (rules : Rules) (g : Effects) (P : TableRow → Type 0) (p q : TableRow → Bool) → ((e : TableRow) → P e → p e ≡ true → (is_visible rules g e.name ≡ true) × (q (shown rules g e) ≡ true))
    → (rows : List TableRow) → AllByRecursion P rows
    → list_any p rows ≡ true → list_any q (map (shown rules g) (filter (λ row. is_visible rules g row.name) rows)) ≡ true
any_shown rules g P p q h [] s e = absurd (cc)
any_shown rules g P p q h (x ∷ rows) s e =
    let rest = any_shown rules g P p q h rows s.1 in
    let step : (b : Bool) → is_visible rules g x.name ≡ b → list_any q (map (shown rules g) (cond b (x ∷ filter (λ row. is_visible rules g row.name) rows) (filter (λ row. is_visible rules g row.name) rows))) ≡ true =
    elim [
      | true ↦ λ v. elim (or_cases (p x) _ e) [ inl here ↦ or_left _ _ (h x s.0 here).1 | inr there ↦ or_right _ _ (rest there) ]
      | false ↦ λ v. elim (or_cases (p x) _ e) [ inl here ↦ absurd (both_ways _ v (h x s.0 here).0) | inr there ↦ rest there ]
    ] in
    step (is_visible rules g x.name) refl

all_at : {X : Type 0} (p : X → Bool) (xs : List X) (i : ℕ) (x : X) → list_all p xs ≡ true → slice_get xs i ≡ Some x → p x ≡ true
all_at p [] i x h e = absurd (cc)
all_at p (y ∷ ys) zero x h e = let same : y ≡ x = cc in subst (λ z. p z ≡ true) same (and_parts (p y) _ h).0
all_at p (y ∷ ys) (suc i) x h e = all_at p ys i x (and_parts (p y) _ h).1 e

-- where a row is of another table, nothing is asked of it
elsewhere : (t n : ℕ) (b : Bool) → (n ≡ t → b ≡ true) → (not (n == t) || b) ≡ true
elsewhere t n b h =
    let step : (c : Bool) → (n == t) ≡ c → (not c || b) ≡ true = elim [ true ↦ λ e. h (eqb-true n t e) | false ↦ λ e. refl ] in
    step (n == t) refl

all_kept : {X : Type 0} (p q : X → Bool) (xs : List X) → list_all q (filter p xs) ≡ true → list_all (λ x. not (p x) || q x) xs ≡ true
all_kept p q [] h = refl
all_kept p q (x ∷ xs) h =
    let step : (b : Bool) → list_all q (cond b (x ∷ filter p xs) (filter p xs)) ≡ true → ((not b || q x) && list_all (λ x. not (p x) || q x) xs) ≡ true =
    elim [ true ↦ λ e. let parts = and_parts (q x) _ e in and_from _ _ parts.0 (all_kept p q xs parts.1) | false ↦ λ e. all_kept p q xs e ] in
    step (p x) h

all_left : {X : Type 0} (q : X → Bool) (xs ys : List X) → list_all q (xs ++ ys) ≡ true → list_all q xs ≡ true
all_left q [] ys h = refl
all_left q (x ∷ xs) ys h = let parts = and_parts (q x) _ h in and_from _ _ parts.0 (all_left q xs ys parts.1)

all_right : {X : Type 0} (q : X → Bool) (xs ys : List X) → list_all q (xs ++ ys) ≡ true → list_all q ys ≡ true
all_right q [] ys h = h
all_right q (x ∷ xs) ys h = all_right q xs ys (and_parts (q x) _ h).1

-- a reference column with a row name is one of the references
ref_at : (q : RowRef → Bool) (columns : List Column) (values : List Value) (c target : ℕ) (act : Action) (name : RowName)
    → reference_at columns c ≡ Some (target, act) → value_at values c ≡ value.Row name
    → list_all q (refs_in columns values) ≡ true → q (record { target = target; action = act; name = name }) ≡ true
ref_at q [] values c target act name e v h = absurd (cc)
ref_at q (column ∷ columns) [] c target act name e v h = absurd (cc)
ref_at q (column ∷ columns) (x ∷ values) zero target act name e v h =
    let here : x ≡ value.Row name = v in
    let to : target_of column.kind ≡ Some (target, act) = e in
    (and_parts _ _ (ap (λ o. list_all q (ref_to name o)) (sym to) ∙ ap (λ y. list_all q (ref_in column.kind y)) (sym here) ∙ all_left q (ref_in column.kind x) (refs_in columns values) h)).0
ref_at q (column ∷ columns) (x ∷ values) (suc c) target act name e v h = ref_at q columns values c target act name e v (all_right q (ref_in column.kind x) (refs_in columns values) h)

-- what a reference column shows
pub shown_at : (rules : Rules) (g : Effects) (columns : List Column) (values : List Value) (c target : ℕ) (act : Action) → reference_at columns c ≡ Some (target, act)
    → value_at (shown_values rules g columns values) c ≡ shown_value rules g (kind.Reference target act) (value_at values c)
shown_at rules g [] values c target act e = absurd (cc)
shown_at rules g (column ∷ columns) [] c target act e = refl
shown_at rules g (column ∷ columns) (x ∷ values) zero target act e = ap (λ (k : ColumnKind). shown_value rules g k x) (kind_of_target column.kind target act e)
shown_at rules g (column ∷ columns) (x ∷ values) (suc c) target act e = shown_at rules g columns values c target act e

-- of two names that are not one, one is less
by_names : (a b : RowName) → same_row a b ≡ false → (is_lt (name_cmp a b) ≡ true → ⊥) → (is_lt (name_cmp b a) ≡ true → ⊥) → ⊥
by_names a b apart f h =
    let step : (o : Ordering) → name_cmp a b ≡ o → ⊥ = elim [
      | Less ↦ λ e. f (ap is_lt e)
      | Equal ↦ λ e. both_ways _ apart (sym (same_name a b) ∙ ap is_eq e)
      | Greater ↦ λ e. h (ap is_lt (name_cmp_total.antisymm b a ∙ ap ordering_reverse e))
    ] in
    step (name_cmp a b) refl

none_each : {X : Type 0} (p : X → Bool) (xs : List X) → list_any p xs ≡ false → AllByRecursion (λ x. p x ≡ false) xs
none_each p [] h = tt
none_each p (x ∷ xs) h = let parts = or_parts (p x) (list_any p xs) h in (parts.0, none_each p xs parts.1)

none_weighs : (P : TableRow → Type 0) (p : TableRow → Bool) (rules : Rules) (g : Effects) → ((x : TableRow) → P x → is_visible rules g x.name ≡ true → p (shown rules g x) ≡ true → ⊥)
    → (rows : List TableRow) → AllByRecursion P rows → weight (λ b. one_if (p b)) (map (shown rules g) (filter (λ row. is_visible rules g row.name) rows)) ≡ 0
none_weighs P p rules g never [] s = refl
none_weighs P p rules g never (x ∷ rows) s =
    let rest = none_weighs P p rules g never rows s.1 in
    let inner : (c : Bool) → p (shown rules g x) ≡ c → is_visible rules g x.name ≡ true → one_if c + weight (λ b. one_if (p b)) (map (shown rules g) (filter (λ row. is_visible rules g row.name) rows)) ≡ 0 = elim [
      | true ↦ λ e v. absurd (never x s.0 v e)
      | false ↦ λ e v. let r = rest in omega arith
    ] in
    let step : (b : Bool) → is_visible rules g x.name ≡ b → weight (λ b. one_if (p b)) (map (shown rules g) (cond b (x ∷ filter (λ row. is_visible rules g row.name) rows) (filter (λ row. is_visible rules g row.name) rows))) ≡ 0 = elim [
      | true ↦ λ v. inner (p (shown rules g x)) refl v
      | false ↦ λ v. rest
    ] in
    step (is_visible rules g x.name) refl

plain_column : (columns : List Column) (number : ℕ) → MatchOption (slice_get columns number) ⊥ (λ column. IsTrue (not (is_reference column.kind) && not column.null)) → is_plain columns number ≡ true
plain_column [] number h = absurd h
plain_column (c ∷ columns) zero h = (and_parts (not (is_reference c.kind)) _ h).0
plain_column (c ∷ columns) (suc number) h = plain_column columns number h

-- the column of which a table keeps the least row has values of its own
pub kept_plain : (columns : List Column) (uniques : List UniqueRule) (column : ℕ) → (rule : UniqueRule) × (uniques ≡ rule ∷ []) × (rule.column ≡ column) → AllByRecursion (IsSoundUnique columns) uniques
    → is_plain columns column ≡ true
kept_plain columns uniques column u sound =
    let first : IsSoundUnique columns u.0 = (subst (AllByRecursion (IsSoundUnique columns)) u.1 sound).0 in
    subst (λ (n : ℕ). is_plain columns n ≡ true) u.2 (plain_column columns u.0.column first)

module _ (rules : Rules) (sound : IsSound rules.tables) (g : Effects) (f : IsWellFounded rules g) where
  pub check_holds : (t place : ℕ) (rule : CheckData) → slice_get (table_of rules t).checks place ≡ Some rule → claim_holds rules (shown_rows rules g) (Check t rule.tree) ≡ true
  check_holds t place rule at =
      all_shown rules g (λ row. not (in_table t row) || holds_tree rules.ask row.values rule.tree) g.inserted (each_stands rules g.inserted f.founded)
      (λ e s v. elsewhere t e.table _ (λ same.
      let here = subst (λ (n : ℕ). slice_get (table_of rules n).checks place ≡ Some rule) (sym same) at in
      same_holds (table_of rules e.table).columns (shown_values rules g (table_of rules e.table).columns e.values) e.values
      (λ number plain. plain_shown rules g (table_of rules e.table).columns e.values number plain) rules.ask rule.tree
      (each_at (IsSoundCheck (table_of rules e.table).columns) (table_of rules e.table).checks place rule (sound e.table).checks here)
      ∙ all_at (λ check. holds_tree rules.ask e.values check.tree) (table_of rules e.table).checks place rule s.checked here))

  each : AllByRecursion (Stands rules g.inserted) g.inserted
  each = each_stands rules g.inserted f.founded

  ones : AllByRecursion (IsOne g.inserted) g.inserted
  ones = ones_from rules g.inserted f.founded

  rest : are_resting rules g.inserted ≡ true
  rest = resting rules sound g.inserted f.founded

  one : (e : TableRow) → Stands rules g.inserted e → IsOne g.inserted e
  one e s = record { here = s.here; only = s.only }

  -- a row with this name in the target table, where the name is visible, is shown
  pub named_shown : (target : ℕ) (name : RowName) → list_any (λ row. same_row row.name name && (row.table == target)) g.inserted ≡ true → is_visible rules g name ≡ true
      → names_shown (shown_rows rules g) target (value.Row name) ≡ true
  named_shown target name there v =
      any_shown rules g (λ e. Unit {0}) (λ row. same_row row.name name && (row.table == target)) (λ row. same_row row.name name && (row.table == target))
      (λ e u h. (subst (λ (n : RowName). is_visible rules g n ≡ true) (sym (row_from_same e.name name (and_parts _ _ h).0)) v, h))
      g.inserted (each-map (Stands rules g.inserted) (λ e. Unit {0}) (λ e s. tt) g.inserted each) there

  -- what a reference names, its shown value names among the shown rows
  pub refers_holds : (t c target : ℕ) (act : Action) → reference_at (table_of rules t).columns c ≡ Some (target, act)
      → ((e : TableRow) → Stands rules g.inserted e → is_visible rules g e.name ≡ true → (name : RowName) → e.table ≡ t → value_at e.values c ≡ value.Row name
      → names_shown (shown_rows rules g) target (shown_value rules g (kind.Reference target act) (value.Row name)) ≡ true)
      → claim_holds rules (shown_rows rules g) (Refers t c target act) ≡ true
  refers_holds t c target act at h =
      all_shown rules g (λ row. not (in_table t row) || names_shown (shown_rows rules g) target (value_at row.values c)) g.inserted each
      (λ e s v. elsewhere t e.table _ (λ same.
      let here = subst (λ (n : ℕ). reference_at (table_of rules n).columns c ≡ Some (target, act)) (sym same) at in
      let plain : (x : Value) → value_at e.values c ≡ x → names_shown (shown_rows rules g) target (shown_value rules g (kind.Reference target act) x) ≡ true =
      elim [
        | value.Null ↦ λ k. refl
        | value.Int n ↦ λ k. refl
        | value.Text bytes ↦ λ k. refl
        | value.Flag flag ↦ λ k. refl
        | value.Own index ↦ λ k. refl
        | value.Row name ↦ λ k. h e s v name same k
      ] in
      ap (names_shown (shown_rows rules g) target) (shown_at rules g (table_of rules e.table).columns e.values c target act here) ∙ plain (value_at e.values c) refl))

  -- the row that a reference names stands in the target table
  pub named_stands : (e : TableRow) → Stands rules g.inserted e → (c target : ℕ) (act : Action) (name : RowName)
      → reference_at (table_of rules e.table).columns c ≡ Some (target, act) → value_at e.values c ≡ value.Row name
      → list_any (λ row. same_row row.name name && (row.table == target)) g.inserted ≡ true
  named_stands e s c target act name at v = ref_at (stands_among g.inserted) (table_of rules e.table).columns e.values c target act name at v s.referred

  pub cascade_visible : (e : TableRow) → Stands rules g.inserted e → (c target : ℕ) (name : RowName)
      → reference_at (table_of rules e.table).columns c ≡ Some (target, action.Cascade) → value_at e.values c ≡ value.Row name
      → is_visible rules g e.name ≡ true → is_visible rules g name ≡ true
  cascade_visible e s c target name at v seen =
      ref_at (λ r. not (is_cascade r.action) || is_visible rules g r.name) (table_of rules e.table).columns e.values c target action.Cascade name at v
      (all_kept (λ r. is_cascade r.action) (λ r. is_visible rules g r.name) (refs rules e) (targets_visible rules g ones rest e (one e s) seen))

  pub cascade_holds : (t c target : ℕ) → reference_at (table_of rules t).columns c ≡ Some (target, action.Cascade) → claim_holds rules (shown_rows rules g) (Refers t c target action.Cascade) ≡ true
  cascade_holds t c target at =
      refers_holds t c target action.Cascade at (λ e s v name same k.
      let here = subst (λ (n : ℕ). reference_at (table_of rules n).columns c ≡ Some (target, action.Cascade)) (sym same) at in
      named_shown target name (named_stands e s c target action.Cascade name here k) (cascade_visible e s c target name here k v))

  pub set_null_holds : (t c target : ℕ) → reference_at (table_of rules t).columns c ≡ Some (target, action.SetNull) → claim_holds rules (shown_rows rules g) (Refers t c target action.SetNull) ≡ true
  set_null_holds t c target at =
      refers_holds t c target action.SetNull at (λ e s v name same k.
      let here = subst (λ (n : ℕ). reference_at (table_of rules n).columns c ≡ Some (target, action.SetNull)) (sym same) at in
      let step : (b : Bool) → is_visible rules g name ≡ b → names_shown (shown_rows rules g) target (cond (not b) value.Null (value.Row name)) ≡ true =
      elim [ true ↦ λ seen. named_shown target name (named_stands e s c target action.SetNull name here k) seen | false ↦ λ seen. refl ] in
      step (is_visible rules g name) refl)

  at_name : (p : RowName → Bool) (names : List RowName) (name : RowName) → list_all p names ≡ true → list_any (same_row name) names ≡ true → p name ≡ true
  at_name p [] name h e = absurd (cc)
  at_name p (x ∷ names) name h e =
      let parts = and_parts (p x) _ h in
      elim (or_cases (same_row name x) _ e) [
        | inl here ↦ subst (λ (n : RowName). p n ≡ true) (sym (row_from_same name x here)) parts.0
        | inr there ↦ at_name p names name parts.1 there
      ]

  -- rows of permanent tables stay
  permanent_each : (rows : List TableRow) → Founded rules rows → AllByRecursion (Stands rules g.inserted) rows
      → AllByRecursion (λ e. (depth : ℕ) → permanent_to rules depth e.table ≡ true → is_visible rules g e.name ≡ true) rows
  unfolding permanent_to
  permanent_each [] fs s = tt
  permanent_each (e ∷ older) fs s =
      let it : IsFounded rules older e = fs.0 in
      let st : Stands rules g.inserted e = s.0 in
      let before = permanent_each older fs.1 s.1 in
      let first : (depth : ℕ) → permanent_to rules depth e.table ≡ true → is_visible rules g e.name ≡ true =
      elim [
        | zero ↦ λ h. absurd (cc)
        | suc depth ↦ λ h.
            let parts = and_parts (not (table_of rules e.table).deletable && is_none (kept_of rules e.table)) _ h in
            let two = and_parts (not (table_of rules e.table).deletable) _ parts.0 in
            let stays : is_deleted g e.name ≡ false = false_from_ne_true _ (λ gone. both_ways _
            (not-true _ two.0)
            (st.only (λ row. (table_of rules row.table).deletable) (at_name (erasable rules g.inserted) g.deleted e.name f.erased gone))) in
            let goes : list_all (λ r. is_visible rules g r.name) (cascade_refs rules e) ≡ true =
            all_both (stands_among older) (λ r. (r.target == e.table) || permanent_to rules depth r.target) (λ r. is_visible rules g r.name)
            (λ r there perm. any_each (λ x. (d : ℕ) → permanent_to rules d x.table ≡ true → is_visible rules g x.name ≡ true) (λ x. same_row x.name r.name && (x.table == r.target)) _
            (λ x px hx.
            let pair = and_parts (same_row x.name r.name) _ hx in
            let table : x.table ≡ r.target = eqb-true x.table r.target pair.1 in
            let seen : is_visible rules g x.name ≡ true =
            elim (or_cases (r.target == e.table) _ perm) [
              | inl own ↦ px (suc depth) (subst (λ (n : ℕ). permanent_to rules (suc depth) n ≡ true) (sym (table ∙ eqb-true r.target e.table own)) h)
              | inr far ↦ px depth (subst (λ (n : ℕ). permanent_to rules depth n ≡ true) (sym table) far)
            ] in
            subst (λ (n : RowName). is_visible rules g n ≡ true) {x = x.name} (row_from_same x.name r.name pair.0) seen)
            older before there)
            (cascade_refs rules e)
            (all_filtered (λ r. is_cascade r.action) (stands_among older) (refs rules e) it.referred)
            (targets_refs (λ n. (n == e.table) || permanent_to rules depth n) (table_of rules e.table).columns e.values parts.1) in
            visible_from rules g ones rest e (one e st) (and_from _ _ goes (not_from_false _ stays)) (plain_least rules g (is_visible rules g) e two.1)
      ] in
      (first, before)

  permanent_visible : (target : ℕ) (name : RowName) → is_permanent rules target ≡ true → list_any (λ row. same_row row.name name && (row.table == target)) g.inserted ≡ true → is_visible rules g name ≡ true
  unfolding permanent_to
  permanent_visible target name h there =
      any_each (λ x. (d : ℕ) → permanent_to rules d x.table ≡ true → is_visible rules g x.name ≡ true) (λ row. same_row row.name name && (row.table == target)) _
      (λ x px hx. let two = and_parts (same_row x.name name) _ hx in
      subst (λ (n : RowName). is_visible rules g n ≡ true) (row_from_same x.name name two.0)
      (px (length rules.tables) (subst (λ (n : ℕ). is_permanent rules n ≡ true) (sym (eqb-true x.table target two.1)) h)))
      g.inserted (permanent_each g.inserted f.founded each) there

  -- the row that a MATCH compares with is shown, and so are the columns that it compares
  match_shown : (e : TableRow) → Stands rules g.inserted e → (m : MatchRule) (target : ℕ) (act : Action) (name : RowName)
      → reference_at (table_of rules e.table).columns m.reference ≡ Some (target, act) → value_at e.values m.reference ≡ value.Row name
      → is_plain (table_of rules e.table).columns m.column ≡ true → is_plain (table_of rules target).columns m.target_column ≡ true
      → matches_among g.inserted e.values m (value.Row name) ≡ true → is_visible rules g name ≡ true
      → matches_among (shown_rows rules g) (shown rules g e).values m (value.Row name) ≡ true
  match_shown e s m target act name at k own far passed seen =
      any_shown rules g (Stands rules g.inserted)
      (λ x. same_row x.name name && compares m.cmp (value_at e.values m.column) (value_at x.values m.target_column))
      (λ x. same_row x.name name && compares m.cmp (value_at (shown rules g e).values m.column) (value_at x.values m.target_column))
      (λ x sx hx.
      let two = and_parts (same_row x.name name) _ hx in
      let same : x.name ≡ name = row_from_same x.name name two.0 in
      let table : x.table ≡ target = eqb-true x.table target (sx.only (λ row. row.table == target)
      (subst (λ (n : RowName). list_any (λ row. same_row row.name n && (row.table == target)) g.inserted ≡ true) (sym same) (named_stands e s m.reference target act name at k))) in
      let plain : is_plain (table_of rules x.table).columns m.target_column ≡ true = subst (λ (n : ℕ). is_plain (table_of rules n).columns m.target_column ≡ true) (sym table) far in (
        subst (λ (n : RowName). is_visible rules g n ≡ true) (sym same) seen,
        and_from _ _ two.0
            (ap₂ (compares m.cmp) (plain_shown rules g (table_of rules e.table).columns e.values m.column own) (plain_shown rules g (table_of rules x.table).columns x.values m.target_column plain) ∙ two.1),
      ))
      g.inserted each passed

  match_null : (rows : List TableRow) (values : List Value) (m : MatchRule) (x : Value) → ((name : RowName) → x ≡ value.Row name → matches_among rows values m x ≡ true) → matches_among rows values m x ≡ true
  match_null rows values m (value.Row name) h = h name refl
  match_null rows values m value.Null h = refl
  match_null rows values m (value.Int n) h = refl
  match_null rows values m (value.Text bytes) h = refl
  match_null rows values m (value.Flag flag) h = refl
  match_null rows values m (value.Own index) h = refl

  -- a shown reference is the one that was inserted, and its row is visible
  set_null_was : (target : ℕ) (x : Value) (name : RowName) → shown_value rules g (kind.Reference target action.SetNull) x ≡ value.Row name → (x ≡ value.Row name) × (is_visible rules g name ≡ true)
  set_null_was target (value.Row old) name h =
      let step : (b : Bool) → is_visible rules g old ≡ b → cond (not b) value.Null (value.Row old) ≡ value.Row name → (value.Row old ≡ value.Row name) × (is_visible rules g name ≡ true) =
      elim [
        | true ↦ λ v k. let same : old ≡ name = cc in (k, subst (λ (n : RowName). is_visible rules g n ≡ true) same v)
        | false ↦ λ v k. absurd (cc)
      ] in
      step (is_visible rules g old) refl h
  set_null_was target value.Null name h = absurd (cc)
  set_null_was target (value.Int n) name h = absurd (cc)
  set_null_was target (value.Text bytes) name h = absurd (cc)
  set_null_was target (value.Flag flag) name h = absurd (cc)
  set_null_was target (value.Own index) name h = absurd (cc)

  cascade_was : (target : ℕ) (x : Value) (name : RowName) → shown_value rules g (kind.Reference target action.Cascade) x ≡ value.Row name → x ≡ value.Row name
  cascade_was target (value.Row old) name h = h
  cascade_was target value.Null name h = h
  cascade_was target (value.Int n) name h = h
  cascade_was target (value.Text bytes) name h = h
  cascade_was target (value.Flag flag) name h = h
  cascade_was target (value.Own index) name h = h

  match_row : (e : TableRow) → Stands rules g.inserted e → is_visible rules g e.name ≡ true → (m : MatchRule)
      → is_plain (table_of rules e.table).columns m.column ≡ true → matches_among g.inserted e.values m (value_at e.values m.reference) ≡ true
      → (target : ℕ) (act : Action) → reference_at (table_of rules e.table).columns m.reference ≡ Some (target, act) → not (is_restrict act) ≡ true
      → is_plain (table_of rules target).columns m.target_column ≡ true
      → matches_among (shown_rows rules g) (shown rules g e).values m (value_at (shown rules g e).values m.reference) ≡ true
  match_row e s v m own passed target action.Cascade at loose far =
      let shows = shown_at rules g (table_of rules e.table).columns e.values m.reference target action.Cascade at in
      match_null (shown_rows rules g) (shown rules g e).values m _ (λ name k.
      let was : value_at e.values m.reference ≡ value.Row name = cascade_was target (value_at e.values m.reference) name (sym shows ∙ k) in
      ap (matches_among (shown_rows rules g) (shown rules g e).values m) k
      ∙ match_shown e s m target action.Cascade name at was own far (ap (matches_among g.inserted e.values m) (sym was) ∙ passed) (cascade_visible e s m.reference target name at was v))
  match_row e s v m own passed target action.SetNull at loose far =
      let shows = shown_at rules g (table_of rules e.table).columns e.values m.reference target action.SetNull at in
      match_null (shown_rows rules g) (shown rules g e).values m _ (λ name k.
      let was = set_null_was target (value_at e.values m.reference) name (sym shows ∙ k) in
      ap (matches_among (shown_rows rules g) (shown rules g e).values m) k
      ∙ match_shown e s m target action.SetNull name at was.0 own far (ap (matches_among g.inserted e.values m) (sym was.0) ∙ passed) was.1)
  match_row e s v m own passed target action.Restrict at loose far = absurd (cc)

  pub match_holds : (t place : ℕ) (m : MatchRule) → slice_get (table_of rules t).matches place ≡ Some m → claim_holds rules (shown_rows rules g) (Match t m) ≡ true
  match_holds t place m at =
      all_shown rules g (λ row. not (in_table t row) || matches_among (shown_rows rules g) row.values m (value_at row.values m.reference)) g.inserted each
      (λ e s v. elsewhere t e.table _ (λ same.
      let here : slice_get (table_of rules e.table).matches place ≡ Some m = subst (λ (n : ℕ). slice_get (table_of rules n).matches place ≡ Some m) (sym same) at in
      let columns = (table_of rules e.table).columns in
      let passed : matches_among g.inserted e.values m (value_at e.values m.reference) ≡ true =
      all_at (λ x. matches_among g.inserted e.values x (value_at e.values x.reference)) (table_of rules e.table).matches place m s.matched here in
      let compared = each_at (ComparesPlain rules.tables (table_of rules e.table)) (table_of rules e.table).matches place m (sound e.table).matches here in
      let step : (o : Option (ℕ × Action)) → reference_at columns m.reference ≡ o
      → MatchOption o ⊥ (λ r. IsTrue (not (is_restrict r.1)) × IsTrue (are_comparable (slice_get columns m.column) (slice_get (table_number rules.tables r.0).columns m.target_column)))
      → matches_among (shown_rows rules g) (shown rules g e).values m (value_at (shown rules g e).values m.reference) ≡ true =
      elim [
        | None ↦ λ r h. absurd h
        | Some r ↦ λ k h.
            match_row e s v m (compared_left columns m.column (slice_get (table_of rules r.0).columns m.target_column) h.1) passed r.0 r.1 k h.0
            (compared_right (table_of rules r.0).columns m.target_column (slice_get columns m.column) h.1)
      ] in
      step (reference_at columns m.reference) refl compared))

  pub restrict_holds : (t c target : ℕ) → reference_at (table_of rules t).columns c ≡ Some (target, action.Restrict)
      → is_permanent rules target ≡ true → claim_holds rules (shown_rows rules g) (Refers t c target action.Restrict) ≡ true
  restrict_holds t c target at perm =
      refers_holds t c target action.Restrict at (λ e s v name same k.
      let here = subst (λ (n : ℕ). reference_at (table_of rules n).columns c ≡ Some (target, action.Restrict)) (sym same) at in
      let there = named_stands e s c target action.Restrict name here k in
      named_shown target name there (permanent_visible target name perm there))

  -- of two visible rows of a table that keeps the least, with equal values, neither goes before the other
  apart : (t column : ℕ) → kept_of rules t ≡ Some column → (a b : TableRow) → IsOne g.inserted a → IsOne g.inserted b → a.table ≡ t → b.table ≡ t
      → compares cmp.Eq (value_at a.values column) (value_at b.values column) ≡ true → is_visible rules g a.name ≡ true → is_visible rules g b.name ≡ true
      → is_lt (name_cmp b.name a.name) ≡ true → ⊥
  apart t column is a b one_a one_b at_a at_b equal va vb less =
      let seen = is_visible rules g in
      let ca = visible_parts rules g ones rest a one_a va in
      let cb = visible_parts rules g ones rest b one_b vb in
      let least : is_least_in rules g seen a (Some column) ≡ true =
      subst (λ (o : Option ℕ). is_least_in rules g seen a o ≡ true) (ap (kept_of rules) at_a ∙ is) ca.1 in
      let goes : (goes_before column a b && is_candidate rules g seen b) ≡ true =
      and_from _ _ (and_from _ _ (and_from _ _ (eq-eqb b.table a.table (at_b ∙ sym at_a)) equal) less) cb.0 in
      both_ways _ (not-true _ least) (one_b.here (λ other. goes_before column a other && is_candidate rules g seen other) goes)

  -- at most one visible row of such a table has a value
  kept_once : (t column : ℕ) (v : Value) → kept_of rules t ≡ Some column → is_plain (table_of rules t).columns column ≡ true → (rows : List TableRow) → Founded rules rows → AllByRecursion (IsOne g.inserted) rows
      → weight (λ b. one_if (in_table t b && compares cmp.Eq v (value_at b.values column))) (map (shown rules g) (filter (λ row. is_visible rules g row.name) rows)) ≤ 1
  kept_once t column v is plain [] fs s = omega arith
  kept_once t column v is plain (e ∷ older) fs s =
      let w = λ (b : TableRow). one_if (in_table t b && compares cmp.Eq v (value_at b.values column)) in
      let others = map (shown rules g) (filter (λ row. is_visible rules g row.name) older) in
      let before : weight w others ≤ 1 = kept_once t column v is plain older fs.1 s.1 in
      let same_value : (x : TableRow) → x.table ≡ t → value_at (shown rules g x).values column ≡ value_at x.values column = λ x at.
      plain_shown rules g (table_of rules x.table).columns x.values column (subst (λ (n : ℕ). is_plain (table_of rules n).columns column ≡ true) (sym at) plain) in
      let alone : is_visible rules g e.name ≡ true → (in_table t (shown rules g e) && compares cmp.Eq v (value_at (shown rules g e).values column)) ≡ true → weight w others ≡ 0 = λ ve he.
      let two = and_parts (e.table == t) _ he in
      let at_e = eqb-true e.table t two.0 in
      let eq_e : compares cmp.Eq v (value_at e.values column) ≡ true = ap (compares cmp.Eq v) (sym (same_value e at_e)) ∙ two.1 in
      none_weighs (λ x. (same_row x.name e.name ≡ false) × IsOne g.inserted x) (λ b. in_table t b && compares cmp.Eq v (value_at b.values column)) rules g
      (λ x px vx hx.
      let three = and_parts (x.table == t) _ hx in
      let at_x = eqb-true x.table t three.0 in
      let eq_x : compares cmp.Eq v (value_at x.values column) ≡ true = ap (compares cmp.Eq v) (sym (same_value x at_x)) ∙ three.1 in
      by_names x.name e.name px.0
      (apart t column is e x s.0 px.1 at_e at_x (equal_both v (value_at e.values column) (value_at x.values column) eq_e eq_x) ve vx)
      (apart t column is x e px.1 s.0 at_x at_e (equal_both v (value_at x.values column) (value_at e.values column) eq_x eq_e) vx ve))
      older (each_both (λ x. same_row x.name e.name ≡ false) (IsOne g.inserted) _ (λ x p q. (p, q)) older (none_each (λ x. same_row x.name e.name) older fs.0.new) s.1) in
      let inner : (c : Bool) → (in_table t (shown rules g e) && compares cmp.Eq v (value_at (shown rules g e).values column)) ≡ c → is_visible rules g e.name ≡ true → one_if c + weight w others ≤ 1 = elim [
        | true ↦ λ h ve. let z = alone ve h in omega arith
        | false ↦ λ h ve. omega arith
      ] in
      let step : (b : Bool) → is_visible rules g e.name ≡ b → weight w (map (shown rules g) (cond b (e ∷ filter (λ row. is_visible rules g row.name) older) (filter (λ row. is_visible rules g row.name) older))) ≤ 1 = elim [
        | true ↦ λ ve. inner (in_table t (shown rules g e) && compares cmp.Eq v (value_at (shown rules g e).values column)) refl ve
        | false ↦ λ ve. before
      ] in
      step (is_visible rules g e.name) refl

  pub unique_kept_holds : (t column : ℕ) → kept_of rules t ≡ Some column → claim_holds rules (shown_rows rules g) (UniqueKept t column) ≡ true
  unique_kept_holds t column is =
      let plain = kept_plain (table_of rules t).columns (table_of rules t).uniques column (keeps_soundly rules sound t column is).unique (sound t).uniques in
      all_true (λ (a : TableRow). not (in_table t a) || nat_le (count_by (λ b. in_table t b && compares cmp.Eq (value_at a.values column) (value_at b.values column)) (shown_rows rules g)) 1)
      (λ a. or_right (not (in_table t a)) _ (le-leb _ 1
      (let few = kept_once t column (value_at a.values column) is plain g.inserted f.founded ones in
      let same = count-weight (λ (b : TableRow). in_table t b && compares cmp.Eq (value_at a.values column) (value_at b.values column)) (shown_rows rules g) in omega arith)))
      (shown_rows rules g)

-- the schema has an invariant that says this
abbrev pub IsDeclared : Rules → Claim → Type 0
IsDeclared rules (Unique t c) = (place : ℕ) × (rule : UniqueRule) × (slice_get (table_of rules t).uniques place ≡ Some rule) × (rule.column ≡ c)
IsDeclared rules (UniqueKept t c) = kept_of rules t ≡ Some c
IsDeclared rules (AtMost t k) = ((table_of rules t).at_most ≡ k) × (k ≡ 0 → ⊥)
IsDeclared rules (Refers t c target act) = reference_at (table_of rules t).columns c ≡ Some (target, act)
IsDeclared rules (Check t x) = (place : ℕ) × (rule : CheckData) × (slice_get (table_of rules t).checks place ≡ Some rule) × (rule.tree ≡ x)
IsDeclared rules (Match t m) = (place : ℕ) × (slice_get (table_of rules t).matches place ≡ Some m)

-- accepted invariants hold in every closed list
pub accepted_stands : (rules : Rules) → IsSound rules.tables → (nodes : List NodeData) → IsClosed nodes → (claim : Claim) → IsDeclared rules claim → accepts rules claim ≡ true
    → claim_holds rules (shown_in rules nodes) claim ≡ true
unfolding verdict_on effects judge_next judged
accepted_stands rules sound nodes c (Unique t col) d h = absurd (cc)
accepted_stands rules sound nodes c (UniqueKept t col) d h = unique_kept_holds rules sound (effects_in rules nodes) (founded_closed rules nodes c) t col d
accepted_stands rules sound nodes c (AtMost t k) d h = absurd (cc)
accepted_stands rules sound nodes c (Refers t col target action.Restrict) d h = restrict_holds rules sound (effects_in rules nodes) (founded_closed rules nodes c) t col target d h
accepted_stands rules sound nodes c (Refers t col target action.Cascade) d h = cascade_holds rules sound (effects_in rules nodes) (founded_closed rules nodes c) t col target d
accepted_stands rules sound nodes c (Refers t col target action.SetNull) d h = set_null_holds rules sound (effects_in rules nodes) (founded_closed rules nodes c) t col target d
accepted_stands rules sound nodes c (Check t x) d h =
    subst (λ (y : Tree). claim_holds rules (shown_in rules nodes) (Check t y) ≡ true) d.3 (check_holds rules sound (effects_in rules nodes) (founded_closed rules nodes c) t d.0 d.1 d.2)
accepted_stands rules sound nodes c (Match t m) d h = match_holds rules sound (effects_in rules nodes) (founded_closed rules nodes c) t d.0 m d.1
