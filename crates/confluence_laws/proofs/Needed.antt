-- Needed rows pass their tests.
use Rattle.std.proofs.Common.{◌≡◌, ℕ, ◌+◌, ◌==◌, ◌<◌, ◌≤◌, zero, suc, Bool, true, false, cond, not, ◌&&◌, ◌||◌, List, [], ◌∷◌, ◌++◌, length, map, refl, sym, ap, ap₂, ◌∙◌, subst, Option, Some, None, is_some, arith, nat_le, nat_lt, count_by, slice_get}
use Rattle.std.specs.List.{list_any, list_all, AllByRecursion}
use Rattle.std.proofs.lemmas.Bool.{and_parts, and_from, both_ways, false_from_ne_true, not_from_false, or_left, or_right, eq-eqb, ne_eqb, ltb-true, leb-false, lt-leb, eqb-true, le-leb}
use Rattle.update_model.specs.declared.row_name.RowName.{RowName}
use Rattle.update_model.specs.declared.update_id.UpdateId.{UpdateId}
use Rattle.update_model.specs.declared.value.Value.{Value}
use Rattle.update_model.specs.declared.value.Value.TheVariants as value
use Rattle.row_check.specs.declared.cmp.Cmp.TheVariants as cmp
use Rattle.row_check.specs.Comparisons.{compares}
use Rattle.row_check.specs.Meaning.{value_at}
use Rattle.row_check.specs.Trees.{holds_tree}
use Rattle.schema.specs.declared.action.Action.{Action}
use Rattle.schema.specs.declared.column.Column.{Column}
use Rattle.schema.specs.declared.column.ColumnKind.{ColumnKind}
use Rattle.schema.specs.declared.column.ColumnKind.TheVariants as kind
use Rattle.schema.specs.Checks.{CheckData, checks_hold}
use Rattle.schema.specs.declared.rules.MatchRule.{MatchRule}
use Rattle.schema.specs.declared.rules.UniqueRule.{UniqueRule}
use Rattle.schema.specs.declared.table_def.TableDef.{TableDef}
use Rattle.schema.specs.Columns.{is_reference, target_of, is_restrict, fits_kind, fits, all_fit}
use Rattle.schema.specs.Sound.{IsSoundCheck}
use Rattle.table_model.proofs.Order.{any_weaker}
use Rattle.table_model.specs.Visible.{Rules, TableRow, RowRef, kept_of, same_row, table_of, ref_to, ref_in, refs_in}
use Rattle.table_model.specs.Verdicts.{named, stands_among, matches_among, matches_hold, first_reason, in_table, keeps_least, is_new_in, unique_holds, at_most_holds, limits_hold}
use Rattle.confluence_laws.specs.Examples.{Item, numbered, row_numbered, has_table, name_in, fill, filled, item_of, needed_by, needed_tables, for_each, need, base_of}
use Rattle.table_model.proofs.Alike.{weight, one_if, count-weight}
use Rattle.table_model.proofs.Standing.{same_row-refl}
use Rattle.confluence_laws.proofs.Plain.{is_plain, same_holds}
use Rattle.schema.proofs.Soundness.{kind_of_target}
use Rattle.confluence_laws.proofs.Plans.{row_of, rows_of, Passes, AllPass}
use Rattle.confluence_laws.proofs.Sides.{none_counted}

own_fits : (k : ColumnKind) (index : ℕ) → target_of k ≡ None → fits_kind k (value.Own index) ≡ true → ⊥
own_fits (kind.Int lo hi) index t h = cc
own_fits (kind.Text lo hi) index t h = cc
own_fits kind.Flag index t h = cc
own_fits (kind.Reference target act) index t h = cc

fits_named : (id : UpdateId) (c : Column) (v : Value) → target_of c.kind ≡ None → fits c v ≡ true → named id v ≡ v
fits_named id c value.Null t h = refl
fits_named id c (value.Int n) t h = refl
fits_named id c (value.Text bytes) t h = refl
fits_named id c (value.Flag flag) t h = refl
fits_named id c (value.Row name) t h = refl
fits_named id c (value.Own index) t h = absurd (own_fits c.kind index t h)

-- a sample has a value for each column, which fits where it is no reference
abbrev pub sample_fits : List Column → List Value → Bool
sample_fits [] [] = true
sample_fits [] (v ∷ vs) = false
sample_fits (c ∷ cs) [] = false
sample_fits (c ∷ cs) (v ∷ vs) = (is_some (target_of c.kind) || fits c v) && sample_fits cs vs

pub filled_named_at : (id : UpdateId) (items : List Item) (c : Column) (o : Option (ℕ × Action)) → target_of c.kind ≡ o → (v : Value) → (is_some o || fits c v) ≡ true
    → named id (fill items c.null o v) ≡ fill items c.null o v
filled_named_at id items c None t v h = fits_named id c v t h
filled_named_at id items c (Some r) t v h =
    elim c.null as (λ b. named id (cond b value.Null (value.Row (name_in items r.0))) ≡ cond b value.Null (value.Row (name_in items r.0))) [ true ↦ refl | false ↦ refl ]

pub filled_named : (id : UpdateId) (items : List Item) (cs : List Column) (vs : List Value) → sample_fits cs vs ≡ true → map (named id) (filled items cs vs) ≡ filled items cs vs
filled_named id items [] vs h = refl
filled_named id items (c ∷ cs) [] h = refl
filled_named id items (c ∷ cs) (v ∷ vs) h =
    let parts = and_parts (is_some (target_of c.kind) || fits c v) _ h in
    ap₂ (λ x xs. x ∷ xs) (filled_named_at id items c (target_of c.kind) refl v parts.0) (filled_named id items cs vs parts.1)

pub name_fits : (k : ColumnKind) (r : ℕ × Action) (name : RowName) → target_of k ≡ Some r → fits_kind k (value.Row name) ≡ true
name_fits k r name t = ap (λ (x : ColumnKind). fits_kind x (value.Row name)) (kind_of_target k r.0 r.1 t)

pub fill_fits : (items : List Item) (c : Column) (o : Option (ℕ × Action)) → target_of c.kind ≡ o → (v : Value) → (is_some o || fits c v) ≡ true → fits c (fill items c.null o v) ≡ true
fill_fits items c None t v h = h
fill_fits items c (Some r) t v h =
    let step : (b : Bool) → c.null ≡ b → fits c (cond b value.Null (value.Row (name_in items r.0))) ≡ true =
    elim [ true ↦ λ e. e | false ↦ λ e. name_fits c.kind r (name_in items r.0) t ] in
    step c.null refl

pub filled_fits : (items : List Item) (cs : List Column) (vs : List Value) → sample_fits cs vs ≡ true → all_fit cs (filled items cs vs) ≡ true
filled_fits items [] [] h = refl
filled_fits items [] (v ∷ vs) h = absurd (cc)
filled_fits items (c ∷ cs) [] h = absurd (cc)
filled_fits items (c ∷ cs) (v ∷ vs) h =
    let parts = and_parts (is_some (target_of c.kind) || fits c v) _ h in
    and_from _ _ (fill_fits items c (target_of c.kind) refl v parts.0) (filled_fits items cs vs parts.1)

pub fill_plain : (items : List Item) (null : Bool) (k : ColumnKind) (v : Value) → not (is_reference k) ≡ true → fill items null (target_of k) v ≡ v
fill_plain items null (kind.Int lo hi) v h = refl
fill_plain items null (kind.Text lo hi) v h = refl
fill_plain items null kind.Flag v h = refl
fill_plain items null (kind.Reference target act) v h = absurd (cc)

pub filled_plain : (items : List Item) (cs : List Column) (vs : List Value) (c : ℕ) → is_plain cs c ≡ true → value_at (filled items cs vs) c ≡ value_at vs c
filled_plain items [] vs c h = absurd (cc)
filled_plain items (col ∷ cs) [] c h = refl
filled_plain items (col ∷ cs) (v ∷ vs) zero h = fill_plain items col.null col.kind v h
filled_plain items (col ∷ cs) (v ∷ vs) (suc c) h = filled_plain items cs vs c h

-- the row of a table that the chain has stands among its rows
pub name_stands : (items : List Item) (t : ℕ) → has_table items t ≡ true → list_any (λ row. same_row row.name (name_in items t) && (row.table == t)) (rows_of items) ≡ true
name_stands [] t h = absurd (cc)
name_stands (i ∷ items) t h =
    let step : (b : Bool) → (i.table == t) ≡ b → (b || has_table items t) ≡ true
    → list_any (λ row. same_row row.name (cond b (row_numbered (suc (length items))) (name_in items t)) && (row.table == t)) (rows_of (i ∷ items)) ≡ true =
    elim [
      | true ↦ λ e k. or_left _ _ (and_from _ _ (same_row-refl (row_numbered (suc (length items)))) e)
      | false ↦ λ e k. or_right _ _ (name_stands items t k)
    ] in
    step (i.table == t) refl h

pub no_ref : (k : ColumnKind) (v : Value) → target_of k ≡ None → ref_in k v ≡ []
no_ref k value.Null t = refl
no_ref k (value.Int n) t = refl
no_ref k (value.Text bytes) t = refl
no_ref k (value.Flag flag) t = refl
no_ref k (value.Own index) t = refl
no_ref k (value.Row name) t = ap (ref_to name) t

fill_refs : (items : List Item) (null : Bool) (k : ColumnKind) (o : Option (ℕ × Action)) → target_of k ≡ o → (v : Value) (rest : List RowRef) → list_all (has_table items) (needed_by null o) ≡ true
    → list_all (stands_among (rows_of items)) rest ≡ true → list_all (stands_among (rows_of items)) (ref_in k (fill items null o v) ++ rest) ≡ true
fill_refs items null k None t v rest h r = ap (λ (l : List RowRef). list_all (stands_among (rows_of items)) (l ++ rest)) (no_ref k v t) ∙ r
fill_refs items true k (Some target) t v rest h r = r
fill_refs items false k (Some target) t v rest h r =
    ap (λ (o : Option (ℕ × Action)). list_all (stands_among (rows_of items)) (ref_to (name_in items target.0) o ++ rest)) t
    ∙ and_from _ _ (name_stands items target.0 (and_parts (has_table items target.0) _ h).0) r

pub all_parts : {X : Type 0} (q : X → Bool) (xs ys : List X) → list_all q (xs ++ ys) ≡ true → (list_all q xs ≡ true) × (list_all q ys ≡ true)
all_parts q [] ys h = (refl, h)
all_parts q (x ∷ xs) ys h = let parts = and_parts (q x) _ h in let rest = all_parts q xs ys parts.1 in (and_from _ _ parts.0 rest.0, rest.1)

pub filled_refs : (items : List Item) (cs : List Column) (vs : List Value) → list_all (has_table items) (needed_tables cs) ≡ true → list_all (stands_among (rows_of items)) (refs_in cs (filled items cs vs)) ≡ true
filled_refs items [] vs h = refl
filled_refs items (c ∷ cs) [] h = refl
filled_refs items (c ∷ cs) (v ∷ vs) h =
    let parts = all_parts (has_table items) (needed_by c.null (target_of c.kind)) (needed_tables cs) h in
    fill_refs items c.null c.kind (target_of c.kind) refl v (refs_in cs (filled items cs vs)) parts.0 (filled_refs items cs vs parts.1)

-- each table has one row at most
abbrev pub AtMostOnce : List TableRow → Type 0
AtMostOnce rows = (t : ℕ) → weight (λ x. one_if (in_table t x)) rows ≤ 1

weight-below : (p q : TableRow → Bool) → ((x : TableRow) → one_if (p x) ≤ one_if (q x)) → (rows : List TableRow) → weight (λ x. one_if (p x)) rows ≤ weight (λ x. one_if (q x)) rows
weight-below p q h [] = omega arith
weight-below p q h (r ∷ rows) = let rest = weight-below p q h rows in let here = h r in omega arith

both_below : (a b : Bool) → one_if (a && b) ≤ one_if a
both_below true true = omega arith
both_below true false = omega arith
both_below false b = omega arith

pub once_unique : (rows : List TableRow) (t : ℕ) → weight (λ x. one_if (in_table t x)) rows ≤ 1 → (c : ℕ) (some : List TableRow)
    → list_all (λ a. not (in_table t a) || nat_le (count_by (λ b. in_table t b && compares cmp.Eq (value_at a.values c) (value_at b.values c)) rows) 1) some ≡ true
once_unique rows t o c [] = refl
once_unique rows t o c (a ∷ some) =
    let p : TableRow → Bool = λ b. in_table t b && compares cmp.Eq (value_at a.values c) (value_at b.values c) in
    let few = weight-below p (in_table t) (λ x. both_below (in_table t x) (compares cmp.Eq (value_at a.values c) (value_at x.values c))) rows in
    and_from _ _ (or_right (not (in_table t a)) _ (ap (λ n. nat_le n 1) (sym (count-weight p rows)) ∙ le-leb (weight (λ x. one_if (p x)) rows) 1 (omega arith))) (once_unique rows t o c some)

pub once_at_most : (rows : List TableRow) (t : ℕ) → weight (λ x. one_if (in_table t x)) rows ≤ 1 → (k : ℕ) → at_most_holds rows t k ≡ true
once_at_most rows t o zero = refl
once_at_most rows t o (suc k) =
    or_right (suc k == 0) _ (ap (λ n. nat_le n (suc k)) (sym (count-weight (in_table t) rows)) ∙ le-leb (weight (λ x. one_if (in_table t x)) rows) (suc k) (omega arith))

pub uniques_hold : (rows : List TableRow) (t : ℕ) → weight (λ x. one_if (in_table t x)) rows ≤ 1 → (cs : List UniqueRule) → list_all (λ rule. unique_holds rows t rule.column) cs ≡ true
uniques_hold rows t o [] = refl
uniques_hold rows t o (c ∷ cs) = and_from _ _ (once_unique rows t o c.column rows) (uniques_hold rows t o cs)

-- a UNIQUE that holds holds, with KEEP LEAST or without
pub or_uniques : (o : Option ℕ) (rows : List TableRow) (t : ℕ) (cs : List UniqueRule) → list_all (λ rule. unique_holds rows t rule.column) cs ≡ true
    → list_all (λ rule. keeps_least o rule.column || unique_holds rows t rule.column) cs ≡ true
or_uniques o rows t [] h = refl
or_uniques o rows t (c ∷ cs) h = let parts = and_parts (unique_holds rows t c.column) _ h in and_from _ _ (or_right (keeps_least o c.column) _ parts.0) (or_uniques o rows t cs parts.1)

none_weighed : (p : TableRow → Bool) (rows : List TableRow) → weight (λ x. one_if (p x)) rows ≡ 0 → list_any p rows ≡ false
none_weighed p [] h = refl
none_weighed p (r ∷ rows) h =
    let step : (b : Bool) → one_if b + weight (λ x. one_if (p x)) rows ≡ 0 → (b || list_any p rows) ≡ false = elim [
      | true ↦ λ e. absurd (omega arith)
      | false ↦ λ e. none_weighed p rows (omega arith)
    ] in
    step (p r) h

pub alone_new : (o : Option ℕ) (row : TableRow) (rows : List TableRow) → list_any (in_table row.table) rows ≡ false → is_new_in o rows row ≡ true
alone_new None row rows h = refl
alone_new (Some column) row rows h =
    not_from_false _ (false_from_ne_true _ (λ e. both_ways _ h (any_weaker (λ other. in_table row.table other && compares cmp.Eq (value_at row.values column) (value_at other.values column)) (in_table row.table)
    (λ other k. (and_parts (in_table row.table other) _ k).0) rows e)))

-- then no limit is broken
pub once_limits : (rows : List TableRow) → AtMostOnce rows → (t : ℕ) (tables : List TableDef) → limits_hold rows t tables ≡ true
once_limits rows o t [] = refl
once_limits rows o t (table ∷ tables) =
    and_from _ _ (and_from _ _ (or_uniques table.kept rows t table.uniques (uniques_hold rows t (o t) table.uniques)) (once_at_most rows t (o t) table.at_most)) (once_limits rows o (t + 1) tables)

-- a row that is alone in its table has a new value
pub once_new : (rules : Rules) (row : TableRow) (rows : List TableRow) → AtMostOnce (row ∷ rows) → is_new_in (kept_of rules row.table) rows row ≡ true
once_new rules row rows o =
    let one : one_if (row.table == row.table) ≡ 1 = ap one_if (eq-eqb row.table row.table refl) in
    let bound = o row.table in
    let alone : list_any (in_table row.table) rows ≡ false = none_weighed (in_table row.table) rows (omega arith) in
    alone_new (kept_of rules row.table) row rows alone

-- A MATCH compares plain columns, along a reference that is null in needed rows, or to a known table whose sample passes.
pub record IsMatched (rules : Rules) (t : ℕ) (m : MatchRule) : Type 0 where
  pub column : Column
  pub target : ℕ × Action
  pub plain : is_plain (table_of rules t).columns m.column ≡ true
  pub at : slice_get (table_of rules t).columns m.reference ≡ Some column
  pub to : target_of column.kind ≡ Some target
  pub far : is_plain (table_of rules target.0).columns m.target_column ≡ true
  pub known : nat_le (length rules.tables) target.0 ≡ false
  pub loose : not (is_restrict target.1) ≡ true
  pub apart : column.null ≡ false → (target.0 == t) ≡ false
  pub passes : (target.0 == t) ≡ false → compares m.cmp (value_at (table_of rules t).sample m.column) (value_at (table_of rules target.0).sample m.target_column) ≡ true

-- what the reading of the samples makes sure of
pub record IsSampled (rules : Rules) (t : ℕ) : Type 0 where
  pub fit : sample_fits (table_of rules t).columns (table_of rules t).sample ≡ true
  pub checked : checks_hold rules.ask (table_of rules t).sample (table_of rules t).checks ≡ true
  pub matched : AllByRecursion (IsMatched rules t) (table_of rules t).matches
  pub lower : list_all (λ u. nat_lt u t) (needed_tables (table_of rules t).columns) ≡ true
  pub plain : AllByRecursion (IsSoundCheck (table_of rules t).columns) (table_of rules t).checks

abbrev pub AreSampled : Rules → Type 0
AreSampled rules = (t : ℕ) → nat_le (length rules.tables) t ≡ false → IsSampled rules t

module _ (rules : Rules) (samples : AreSampled rules) where
  -- each item is the needed row of its table, made once, after those that it needs
  pub record IsItem (older : List Item) (i : Item) : Type 0 where
    pub is : i ≡ item_of rules older i.table
    pub new : has_table older i.table ≡ false
    pub known : nat_le (length rules.tables) i.table ≡ false
    pub needs : list_all (has_table older) (needed_tables (table_of rules i.table).columns) ≡ true

  abbrev pub Made : List Item → Type 0
  Made [] = Unit {0}
  Made (i ∷ older) = IsItem older i × Made older

  pub table_counted : (items : List Item) (t : ℕ) → has_table items t ≡ list_any (in_table t) (rows_of items)
  table_counted [] t = refl
  table_counted (i ∷ items) t = ap (λ b. (i.table == t) || b) (table_counted items t)

  pub made_once : (items : List Item) → Made items → AtMostOnce (rows_of items)
  made_once [] m t = omega arith
  made_once (i ∷ items) m t =
      let rest = made_once items m.1 t in
      let step : (b : Bool) → (i.table == t) ≡ b → one_if b + weight (λ x. one_if (in_table t x)) (rows_of items) ≤ 1 =
      elim [
        | true ↦ λ e.
            let same : i.table ≡ t = eqb-true i.table t e in
            let none : weight (λ x. one_if (in_table t x)) (rows_of items) ≡ 0 =
            none_counted (in_table t) (rows_of items) (sym (table_counted items t) ∙ subst (λ (n : ℕ). has_table items n ≡ false) same m.0.new) in
            omega arith
        | false ↦ λ e. omega arith
      ] in
      step (i.table == t) refl

  -- what holds of each needed row of a table holds of the one that has the name
  pub named_has : (items : List Item) (u : ℕ) (q : TableRow → Bool) → Made items → has_table items u ≡ true → ((older : List Item) (id : ℕ) → q (row_of id (item_of rules older u)) ≡ true)
      → list_any (λ row. same_row row.name (name_in items u) && q row) (rows_of items) ≡ true
  named_has [] u q m h all = absurd (cc)
  named_has (i ∷ items) u q m h all =
      let id = suc (length items) in
      let step : (b : Bool) → (i.table == u) ≡ b → (b || has_table items u) ≡ true
      → list_any (λ row. same_row row.name (cond b (row_numbered (suc (length items))) (name_in items u)) && q row) (rows_of (i ∷ items)) ≡ true =
      elim [
        | true ↦ λ e k.
            let same : i ≡ item_of rules items u = m.0.is ∙ ap (item_of rules items) (eqb-true i.table u e) in
            or_left _ _ (and_from _ _ (same_row-refl (row_numbered (suc (length items)))) (ap (λ (x : Item). q (row_of id x)) same ∙ all items id))
        | false ↦ λ e k. or_right _ _ (named_has items u q m.1 k all)
      ] in
      step (i.table == u) refl h

  fill_at : (items : List Item) (cs : List Column) (vs : List Value) (c : ℕ) (col : Column) → sample_fits cs vs ≡ true → slice_get cs c ≡ Some col
      → (v : Value) × (value_at (filled items cs vs) c ≡ fill items col.null (target_of col.kind) v)
  fill_at items [] vs c col f h = absurd (cc)
  fill_at items (k ∷ cs) [] c col f h = absurd (cc)
  fill_at items (k ∷ cs) (v ∷ vs) zero col f h = let same : k ≡ col = cc in (v, ap (λ (x : Column). fill items x.null (target_of x.kind) v) same)
  fill_at items (k ∷ cs) (v ∷ vs) (suc c) col f h = fill_at items cs vs c col (and_parts _ _ f).1 h

  target_made : (items : List Item) (cs : List Column) (c : ℕ) (col : Column) → slice_get cs c ≡ Some col → list_all (has_table items) (needed_tables cs) ≡ true
      → list_all (has_table items) (needed_by col.null (target_of col.kind)) ≡ true
  target_made items [] c col h n = absurd (cc)
  target_made items (k ∷ cs) zero col h n =
      let same : k ≡ col = cc in
      subst (λ (x : Column). list_all (has_table items) (needed_by x.null (target_of x.kind)) ≡ true) same (all_parts (has_table items) (needed_by k.null (target_of k.kind)) (needed_tables cs) n).0
  target_made items (k ∷ cs) (suc c) col h n = target_made items cs c col h (all_parts (has_table items) (needed_by k.null (target_of k.kind)) (needed_tables cs) n).1

  pub match_filled : (items : List Item) (t : ℕ) (m : MatchRule) (values : List Value) (v : Value) → Made items → (is : IsMatched rules t m) → value_at values m.column ≡ value_at (table_of rules t).sample m.column
      → (null : Bool) → is.column.null ≡ null → list_all (has_table items) (needed_by null (Some is.target)) ≡ true → matches_among (rows_of items) values m (fill items null (Some is.target) v) ≡ true
  match_filled items t m values v made is own true e n = refl
  match_filled items t m values v made is own false e n =
      let u = is.target.0 in
      named_has items u (λ row. compares m.cmp (value_at values m.column) (value_at row.values m.target_column)) made (and_parts (has_table items u) _ n).0
      (λ older id.
      let fit = (samples u is.known).fit in
      ap₂ (compares m.cmp) own
      (ap (λ (l : List Value). value_at l m.target_column) (filled_named (numbered id) older (table_of rules u).columns (table_of rules u).sample fit)
      ∙ filled_plain older (table_of rules u).columns (table_of rules u).sample m.target_column is.far)
      ∙ is.passes (is.apart e))

  pub all_checked : (items : List Item) (cols : List Column) (vs : List Value) (xs : List CheckData) → AllByRecursion (IsSoundCheck cols) xs → checks_hold rules.ask vs xs ≡ true → checks_hold rules.ask (filled items cols vs) xs ≡ true
  all_checked items cols vs [] p h = refl
  all_checked items cols vs (x ∷ xs) p h =
      let b = and_parts (holds_tree rules.ask vs x.tree) _ h in
      and_from _ _ (same_holds cols (filled items cols vs) vs (λ number plain. filled_plain items cols vs number plain) rules.ask x.tree p.0 ∙ b.0) (all_checked items cols vs xs p.1 b.1)

  all_matched : (items : List Item) (t : ℕ) → Made items → IsSampled rules t → list_all (has_table items) (needed_tables (table_of rules t).columns) ≡ true → (ms : List MatchRule) → AllByRecursion (IsMatched rules t) ms
      → matches_hold (rows_of items) (filled items (table_of rules t).columns (table_of rules t).sample) ms ≡ true
  all_matched items t made s n [] h = refl
  all_matched items t made s n (m ∷ ms) h =
      let cols = (table_of rules t).columns in
      let sample = (table_of rules t).sample in
      let values = filled items cols sample in
      let is : IsMatched rules t m = h.0 in
      let f = fill_at items cols sample m.reference is.column s.fit is.at in
      let needs : list_all (has_table items) (needed_by is.column.null (Some is.target)) ≡ true =
      ap (λ (o : Option (ℕ × Action)). list_all (has_table items) (needed_by is.column.null o)) (sym is.to) ∙ target_made items cols m.reference is.column is.at n in
      let here : matches_among (rows_of items) values m (value_at values m.reference) ≡ true =
      ap (matches_among (rows_of items) values m) (f.1 ∙ ap (λ (o : Option (ℕ × Action)). fill items is.column.null o f.0) is.to)
      ∙ match_filled items t m values f.0 made is (filled_plain items cols sample m.column is.plain) is.column.null refl needs in
      and_from _ _ here (all_matched items t made s n ms h.1)

  -- the needed row of a table passes the tests of an insert after what it needs
  pub item_passes : (items : List Item) (t id : ℕ) → Made items → nat_le (length rules.tables) t ≡ false → list_all (has_table items) (needed_tables (table_of rules t).columns) ≡ true
      → AtMostOnce (row_of id (item_of rules items t) ∷ rows_of items) → Passes rules id (item_of rules items t) (rows_of items)
  item_passes items t id made known needs once =
      let s = samples t known in
      let cols = (table_of rules t).columns in
      let sample = (table_of rules t).sample in
      let own = named (numbered id) in
      let same = filled_named (numbered id) items cols sample s.fit in
      let values = filled items cols sample in
      let fit : all_fit cols (map own values) ≡ true = ap (all_fit cols) same ∙ filled_fits items cols sample s.fit in
      let checked : checks_hold rules.ask (map own values) (table_of rules t).checks ≡ true =
      ap (λ (l : List Value). checks_hold rules.ask l (table_of rules t).checks) same ∙ all_checked items cols sample (table_of rules t).checks s.plain s.checked in
      let referred : list_all (stands_among (rows_of items)) (refs_in cols (map own values)) ≡ true =
      ap (λ (l : List Value). list_all (stands_among (rows_of items)) (refs_in cols l)) same ∙ filled_refs items cols sample needs in
      let matched : matches_hold (rows_of items) (map own values) (table_of rules t).matches ≡ true =
      ap (λ (l : List Value). matches_hold (rows_of items) l (table_of rules t).matches) same ∙ all_matched items t made s needs (table_of rules t).matches s.matched in
      record {
        inserted = λ i. first_reason ((1, known i) ∷ (2, not (fit i)) ∷ (3, not (checked i)) ∷ (4, not (referred i)) ∷ (5, not (matched i)) ∷ []);
        limits = once_limits (row_of id (item_of rules items t) ∷ rows_of items) once 0 rules.tables;
        fresh = once_new rules (row_of id (item_of rules items t)) (rows_of items) once;
      }

  pub made_passes : (items : List Item) → Made items → AllPass rules items
  made_passes [] m = tt
  made_passes (i ∷ items) m = (
    subst (λ (x : Item). Passes rules (suc (length items)) x (rows_of items)) (sym m.0.is)
        (item_passes items i.table (suc (length items)) m.1 m.0.known m.0.needs
        (subst (λ (x : Item). AtMostOnce (row_of (suc (length items)) x ∷ rows_of items)) m.0.is (made_once (i ∷ items) m))),
    made_passes items m.1,
  )

  -- what more items have: all that the fewer had, and nothing new from this table on
  pub record Grows (items new : List Item) (bound : ℕ) : Type 0 where
    pub made : Made new
    pub keeps : (u : ℕ) → has_table items u ≡ true → has_table new u ≡ true
    pub above : (u : ℕ) → bound ≤ u → has_table new u ≡ has_table items u

  pub known_lower : (t u : ℕ) → nat_le (length rules.tables) t ≡ false → nat_lt u t ≡ true → nat_le (length rules.tables) u ≡ false
  known_lower t u h l = lt-leb (length rules.tables) u (omega (arith, leb-false (length rules.tables) t h, ltb-true u t l))

  pub all_made : (f : List Item → ℕ → List Item) (t : ℕ) → nat_le (length rules.tables) t ≡ false
      → ((items : List Item) (u : ℕ) → Made items → nat_le (length rules.tables) u ≡ false → u < t → Grows items (f items u) (suc u) × (has_table (f items u) u ≡ true))
      → (ts : List ℕ) (items : List Item) → Made items → list_all (λ u. nat_lt u t) ts ≡ true → Grows items (for_each f ts items) t × (list_all (has_table (for_each f ts items)) ts ≡ true)
  all_made f t known step [] items m l = (record { made = m; keeps = λ u h. h; above = λ u h. refl }, refl)
  all_made f t known step (u ∷ ts) items m l =
      let parts = and_parts (nat_lt u t) _ l in
      let below : u < t = ltb-true u t parts.0 in
      let one = step items u m (known_lower t u known parts.0) below in
      let rest = all_made f t known step ts (f items u) one.0.made parts.1 in (
        record {
          made = rest.0.made;
          keeps = λ w h. rest.0.keeps w (one.0.keeps w h);
          above = λ w h. rest.0.above w h ∙ one.0.above w (omega arith);
        },
        and_from _ _ (rest.0.keeps u one.1) rest.1,
      )

  pub need_made : (depth : ℕ) (items : List Item) (t : ℕ) → Made items → nat_le (length rules.tables) t ≡ false → t < depth
      → Grows items (need rules depth items t) (suc t) × (has_table (need rules depth items t) t ≡ true)
  unfolding need
  need_made zero items t m known l = absurd (omega arith)
  need_made (suc depth) items t m known l =
      let ts = needed_tables (table_of rules t).columns in
      let below = for_each (need rules depth) ts items in
      let lower = (samples t known).lower in
      let first = all_made (need rules depth) t known (λ some u sm sk sl. need_made depth some u sm sk (omega arith)) ts items m lower in
      let choice : (b : Bool) → has_table items t ≡ b
      → Grows items (cond b items (item_of rules below t ∷ below)) (suc t) × (has_table (cond b items (item_of rules below t ∷ below)) t ≡ true) =
      elim [
        | true ↦ λ e. (record { made = m; keeps = λ u h. h; above = λ u h. refl }, e)
        | false ↦ λ e. (
          record {
            made = (record { is = refl; new = first.0.above t (omega arith) ∙ e; known = known; needs = first.1 }, first.0.made);
            keeps = λ u h. or_right _ _ (first.0.keeps u h);
            above = λ u h. (λ i. ne_eqb t u (λ same. omega arith) i || has_table below u) ∙ first.0.above u (omega arith);
          },
          or_left _ _ (eq-eqb t t refl),
        )
      ] in
      choice (has_table items t) refl

  -- the base of an example: what the rows of a table need
  pub base_made : (t : ℕ) → nat_le (length rules.tables) t ≡ false → Grows [] (base_of rules t) t × (list_all (has_table (base_of rules t)) (needed_tables (table_of rules t).columns) ≡ true)
  unfolding need
  base_made t known =
      all_made (need rules t) t known (λ items u m k l. need_made t items u m k l) (needed_tables (table_of rules t).columns) [] tt (samples t known).lower
