-- A row that names another one passes its tests.
use Rattle.std.proofs.Common.{◌≡◌, ℕ, ◌+◌, ◌==◌, ◌<◌, zero, suc, Bool, true, false, cond, not, ◌&&◌, ◌||◌, List, [], ◌∷◌, length, map, refl, sym, ap, ap₂, ◌∙◌, subst, Option, Some, None, is_some, arith, nat_le, nat_lt, slice_get}
use Rattle.std.specs.List.{list_any, list_all, AllByRecursion}
use Rattle.std.proofs.lemmas.Bool.{and_parts, and_from, both_ways, eq-eqb, ne_eqb}
use Rattle.update_model.specs.declared.row_name.RowName.{RowName}
use Rattle.update_model.specs.declared.update_id.UpdateId.{UpdateId}
use Rattle.update_model.specs.declared.value.Value.{Value}
use Rattle.update_model.specs.declared.value.Value.TheVariants as value
use Rattle.row_check.specs.Comparisons.{compares}
use Rattle.row_check.specs.Meaning.{value_at}
use Rattle.row_check.specs.Trees.{holds_tree}
use Rattle.schema.specs.declared.action.Action.{Action}
use Rattle.schema.specs.declared.column.Column.{Column}
use Rattle.schema.specs.Checks.{CheckData, checks_hold}
use Rattle.schema.specs.declared.rules.MatchRule.{MatchRule}
use Rattle.schema.specs.Columns.{target_of, reference_at, is_restrict, fits, all_fit}
use Rattle.schema.specs.Sound.{IsSoundCheck, IsSoundColumn}
use Rattle.table_model.specs.Visible.{Rules, TableRow, RowRef, same_row, table_of, ref_to, ref_in, refs_in}
use Rattle.table_model.specs.Verdicts.{named, stands_among, matches_among, matches_hold, first_reason, insert_reason}
use Rattle.confluence_laws.specs.Examples.{Item, numbered, row_numbered, has_table, name_in, fill, needed_by, is_skipped, needed_but, filled_but, item_naming, need}
use Rattle.table_model.proofs.Founded.{Sub, match_more, all-append}
use Rattle.confluence_laws.proofs.Plain.{is_plain, plain_target, same_holds}
use Rattle.confluence_laws.proofs.Plans.{row_of, rows_of}
use Rattle.confluence_laws.proofs.Needed.{sample_fits, filled_named_at, name_fits, fill_fits, fill_plain, no_ref, all_parts, name_stands, IsMatched, AreSampled, Made, match_filled}
use Rattle.confluence_laws.proofs.Sampled.{lower_at, append_all}

-- Where a column is skipped, it is this reference.
abbrev pub IsNaming : ℕ × Action → Option ℕ → ℕ → List Column → Type 0
IsNaming r skip number [] = Unit {0}
IsNaming r skip number (c ∷ cs) = (is_skipped skip number ≡ true → target_of c.kind ≡ Some r) × IsNaming r skip (number + 1) cs

pub naming_none : (r : ℕ × Action) (number : ℕ) (cs : List Column) → IsNaming r None number cs
naming_none r number [] = tt
naming_none r number (c ∷ cs) = ((λ e. absurd (cc)), naming_none r (number + 1) cs)

naming_past : (r : ℕ × Action) (k number : ℕ) → k < number → (cs : List Column) → IsNaming r (Some k) number cs
naming_past r k number l [] = tt
naming_past r k number l (c ∷ cs) = ((λ e. absurd (both_ways _ (ne_eqb number k (λ same. omega arith)) e)), naming_past r k (number + 1) (omega arith) cs)

pub naming_some : (r : ℕ × Action) (number place : ℕ) (cs : List Column) → reference_at cs place ≡ Some r → IsNaming r (Some (number + place)) number cs
naming_some r number place [] e = absurd (cc)
naming_some r number zero (c ∷ cs) e = ((λ h. e), naming_past r (number + 0) (number + 1) (omega arith) cs)
naming_some r number (suc place) (c ∷ cs) e = (
  (λ h. absurd (both_ways _ (ne_eqb number (number + suc place) (λ same. omega arith)) h)),
  subst (λ (k : ℕ). IsNaming r (Some k) (number + 1) cs) (let m : (number + 1) + place ≡ number + suc place = omega arith in m) (naming_some r (number + 1) place cs e),
)

module _ (items : List Item) (skip : Option ℕ) (name : RowName) (r : ℕ × Action) where
  pub but_named : (id : UpdateId) (number : ℕ) (cs : List Column) (vs : List Value) → sample_fits cs vs ≡ true → map (named id) (filled_but items skip name number cs vs) ≡ filled_but items skip name number cs vs
  but_named id number [] vs h = refl
  but_named id number (c ∷ cs) [] h = refl
  but_named id number (c ∷ cs) (v ∷ vs) h =
      let parts = and_parts (is_some (target_of c.kind) || fits c v) _ h in
      ap₂ (λ x xs. x ∷ xs)
      (elim (is_skipped skip number) as (λ b. named id (cond b (value.Row name) (fill items c.null (target_of c.kind) v)) ≡ cond b (value.Row name) (fill items c.null (target_of c.kind) v))
      [ true ↦ refl | false ↦ filled_named_at id items c (target_of c.kind) refl v parts.0 ])
      (but_named id (number + 1) cs vs parts.1)

  pub but_fits : (number : ℕ) (cs : List Column) (vs : List Value) → IsNaming r skip number cs → sample_fits cs vs ≡ true → all_fit cs (filled_but items skip name number cs vs) ≡ true
  but_fits number [] [] n h = refl
  but_fits number [] (v ∷ vs) n h = absurd (cc)
  but_fits number (c ∷ cs) [] n h = absurd (cc)
  but_fits number (c ∷ cs) (v ∷ vs) n h =
      let parts = and_parts (is_some (target_of c.kind) || fits c v) _ h in
      let step : (b : Bool) → is_skipped skip number ≡ b → fits c (cond b (value.Row name) (fill items c.null (target_of c.kind) v)) ≡ true =
      elim [ true ↦ λ e. name_fits c.kind r name (n.0 e) | false ↦ λ e. fill_fits items c (target_of c.kind) refl v parts.0 ] in
      and_from _ _ (step (is_skipped skip number) refl) (but_fits (number + 1) cs vs n.1 parts.1)

  pub but_plain : (number : ℕ) (cs : List Column) (vs : List Value) → IsNaming r skip number cs → (place : ℕ) → is_plain cs place ≡ true → value_at (filled_but items skip name number cs vs) place ≡ value_at vs place
  but_plain number [] vs n place h = absurd (cc)
  but_plain number (c ∷ cs) [] n place h = refl
  but_plain number (c ∷ cs) (v ∷ vs) n zero h =
      let step : (b : Bool) → is_skipped skip number ≡ b → cond b (value.Row name) (fill items c.null (target_of c.kind) v) ≡ v =
      elim [ true ↦ λ e. absurd (both_ways _ (plain_target c.kind h) (ap is_some (n.0 e))) | false ↦ λ e. fill_plain items c.null c.kind v h ] in
      step (is_skipped skip number) refl
  but_plain number (c ∷ cs) (v ∷ vs) n (suc place) h = but_plain (number + 1) cs vs n.1 place h

  -- a test of what it names and of each row that it needs is one of all its references
  pub but_refs : (q : RowRef → Bool) → ((number : ℕ) → is_skipped skip number ≡ true → q (record { target = r.0; action = r.1; name = name }) ≡ true)
      → ((u : ℕ) (act : Action) → has_table items u ≡ true → q (record { target = u; action = act; name = name_in items u }) ≡ true)
      → (number : ℕ) (cs : List Column) (vs : List Value) → IsNaming r skip number cs → list_all (has_table items) (needed_but skip number cs) ≡ true
      → list_all q (refs_in cs (filled_but items skip name number cs vs)) ≡ true
  but_refs q ok each number [] vs n h = refl
  but_refs q ok each number (c ∷ cs) [] n h = refl
  but_refs q ok each number (c ∷ cs) (v ∷ vs) n h =
      let here = all_parts (has_table items) (cond (is_skipped skip number) [] (needed_by c.null (target_of c.kind))) (needed_but skip (number + 1) cs) h in
      let plain : (o : Option (ℕ × Action)) → target_of c.kind ≡ o → (null : Bool) → list_all (has_table items) (needed_by null o) ≡ true → list_all q (ref_in c.kind (fill items null o v)) ≡ true =
      elim [
        | None ↦ λ t null g. ap (list_all q) (no_ref c.kind v t)
        | Some u ↦ λ t. elim [
          | true ↦ λ g. refl
          | false ↦ λ g. ap (λ (o : Option (ℕ × Action)). list_all q (ref_to (name_in items u.0) o)) t ∙ and_from _ _ (each u.0 u.1 (and_parts (has_table items u.0) _ g).0) refl
        ]
      ] in
      let step : (b : Bool) → is_skipped skip number ≡ b → list_all (has_table items) (cond b [] (needed_by c.null (target_of c.kind))) ≡ true
      → list_all q (ref_in c.kind (cond b (value.Row name) (fill items c.null (target_of c.kind) v))) ≡ true =
      elim [
        | true ↦ λ e g. ap (λ (o : Option (ℕ × Action)). list_all q (ref_to name o)) (n.0 e) ∙ and_from _ _ (ok number e) refl
        | false ↦ λ e g. plain (target_of c.kind) refl c.null g
      ] in
      all-append q (ref_in c.kind (cond (is_skipped skip number) (value.Row name) (fill items c.null (target_of c.kind) v))) (refs_in cs (filled_but items skip name (number + 1) cs vs))
      (step (is_skipped skip number) refl here.0) (but_refs q ok each (number + 1) cs vs n.1 here.1)

  pub but_at : (number : ℕ) (cs : List Column) (vs : List Value) (place : ℕ) (c : Column) → sample_fits cs vs ≡ true → slice_get cs place ≡ Some c
      → (v : Value) × (value_at (filled_but items skip name number cs vs) place ≡ cond (is_skipped skip (number + place)) (value.Row name) (fill items c.null (target_of c.kind) v))
  but_at number [] vs place c f e = absurd (cc)
  but_at number (k ∷ cs) [] place c f e = absurd (cc)
  but_at number (k ∷ cs) (v ∷ vs) zero c f e =
      let same : k ≡ c = cc in
      let m : number ≡ number + 0 = omega arith in
      (v, (λ i. cond (is_skipped skip (m i)) (value.Row name) (fill items (same i).null (target_of (same i).kind) v)))
  but_at number (k ∷ cs) (v ∷ vs) (suc place) c f e =
      let m : (number + 1) + place ≡ number + suc place = omega arith in
      let rest = but_at (number + 1) cs vs place c (and_parts _ _ f).1 e in
      (rest.0, rest.1 ∙ (λ i. cond (is_skipped skip (m i)) (value.Row name) (fill items c.null (target_of c.kind) rest.0)))

-- what a column needs is among what the row needs
pub needed_at : (items : List Item) (skip : Option ℕ) (number : ℕ) (cs : List Column) (place : ℕ) (c : Column) → slice_get cs place ≡ Some c → is_skipped skip (number + place) ≡ false
    → list_all (has_table items) (needed_but skip number cs) ≡ true → list_all (has_table items) (needed_by c.null (target_of c.kind)) ≡ true
needed_at items skip number [] place c e s h = absurd (cc)
needed_at items skip number (k ∷ cs) zero c e s h =
    let same : k ≡ c = cc in
    let m : number + 0 ≡ number = omega arith in
    let none : is_skipped skip number ≡ false = ap (is_skipped skip) (sym m) ∙ s in
    let here = (all_parts (has_table items) (cond (is_skipped skip number) [] (needed_by k.null (target_of k.kind))) (needed_but skip (number + 1) cs) h).0 in
    subst (λ (x : Column). list_all (has_table items) (needed_by x.null (target_of x.kind)) ≡ true) same
    (subst (λ (b : Bool). list_all (has_table items) (cond b [] (needed_by k.null (target_of k.kind))) ≡ true) none here)
needed_at items skip number (k ∷ cs) (suc place) c e s h =
    let m : number + suc place ≡ (number + 1) + place = omega arith in
    needed_at items skip (number + 1) cs place c e (ap (is_skipped skip) (sym m) ∙ s)
    (all_parts (has_table items) (cond (is_skipped skip number) [] (needed_by k.null (target_of k.kind))) (needed_but skip (number + 1) cs) h).1

-- what a row needs are lower tables
pub lower_but : (table : ℕ) (skip : Option ℕ) (number : ℕ) (cs : List Column) → AllByRecursion (IsSoundColumn table) cs → list_all (λ u. nat_lt u table) (needed_but skip number cs) ≡ true
lower_but table skip number [] h = refl
lower_but table skip number (c ∷ cs) h =
    let plain : (o : Option (ℕ × Action)) → target_of c.kind ≡ o → (b : Bool) → c.null ≡ b → list_all (λ u. nat_lt u table) (needed_by b o) ≡ true =
    elim [
      | None ↦ λ t b e. refl
      | Some r ↦ λ t. elim [ true ↦ λ e. refl | false ↦ λ e. and_from _ _ (lower_at table c h.0 r t e) refl ]
    ] in
    let step : (b : Bool) → list_all (λ u. nat_lt u table) (cond b [] (needed_by c.null (target_of c.kind))) ≡ true =
    elim [ true ↦ refl | false ↦ plain (target_of c.kind) refl c.null refl ] in
    append_all (λ u. nat_lt u table) (cond (is_skipped skip number) [] (needed_by c.null (target_of c.kind))) (needed_but skip (number + 1) cs) (step (is_skipped skip number)) (lower_but table skip (number + 1) cs h.1)

-- the row with this name stands among these: it is in that table, and has its sample's values in plain columns
pub record IsThere (rules : Rules) (rows : List TableRow) (name : RowName) (table : ℕ) : Type 0 where
  pub there : (p : TableRow → Bool)
      → ((e : TableRow) → e.table ≡ table → ((c : ℕ) → is_plain (table_of rules table).columns c ≡ true → value_at e.values c ≡ value_at (table_of rules table).sample c) → p e ≡ true)
      → list_any (λ row. same_row row.name name && p row) rows ≡ true

module _ (rules : Rules) (samples : AreSampled rules) (items : List Item) (made : Made rules samples items) (t : ℕ) (known : nat_le (length rules.tables) t ≡ false)
    (skip : Option ℕ) (n : ℕ) (r : ℕ × Action) (naming : IsNaming r skip 0 (table_of rules t).columns) (needs : list_all (has_table items) (needed_but skip 0 (table_of rules t).columns) ≡ true)
    (rows : List TableRow) (sub : Sub (rows_of items) rows) (there : (number : ℕ) → is_skipped skip number ≡ true → IsThere rules rows (row_numbered n) r.0)
    (far : (number : ℕ) → is_skipped skip number ≡ true → not (is_restrict r.1) ≡ true → (r.0 == t) ≡ false) where
  abbrev columns : List Column
  columns = (table_of rules t).columns

  abbrev sample : List Value
  sample = (table_of rules t).sample

  abbrev values : List Value
  values = filled_but items skip (row_numbered n) 0 columns sample

  checked : (xs : List CheckData) → AllByRecursion (IsSoundCheck columns) xs → checks_hold rules.ask sample xs ≡ true → checks_hold rules.ask values xs ≡ true
  checked [] p h = refl
  checked (x ∷ xs) p h =
      let b = and_parts (holds_tree rules.ask sample x.tree) _ h in
      and_from _ _
      (same_holds columns values sample (λ number plain. but_plain items skip (row_numbered n) r 0 columns sample naming number plain) rules.ask x.tree p.0 ∙ b.0)
      (checked xs p.1 b.1)

  matched_one : (m : MatchRule) → IsMatched rules t m → matches_among rows values m (value_at values m.reference) ≡ true
  unfolding need
  matched_one m is =
      let fit = (samples t known).fit in
      let f = but_at items skip (row_numbered n) r 0 columns sample m.reference is.column fit is.at in
      let own = but_plain items skip (row_numbered n) r 0 columns sample naming m.column is.plain in
      let z : 0 + m.reference ≡ m.reference = omega arith in
      let step : (b : Bool) → is_skipped skip (0 + m.reference) ≡ b → matches_among rows values m (cond b (value.Row (row_numbered n)) (fill items is.column.null (target_of is.column.kind) f.0)) ≡ true =
      elim [
        | true ↦ λ e.
            let named_target : Some r ≡ Some is.target = sym (naming_at 0 columns m.reference is.column naming is.at e) ∙ is.to in
            let same : r ≡ is.target = cc in
            let tables : (r.0 == t) ≡ false = far (0 + m.reference) e (subst (λ (x : ℕ × Action). not (is_restrict x.1) ≡ true) (sym same) is.loose) in
            let apart : (is.target.0 == t) ≡ false = subst (λ (x : ℕ × Action). (x.0 == t) ≡ false) same tables in
            (there (0 + m.reference) e).there (λ x. compares m.cmp (value_at values m.column) (value_at x.values m.target_column))
            (λ x in_table plain.
            let far_plain : is_plain (table_of rules r.0).columns m.target_column ≡ true = subst (λ (y : ℕ × Action). is_plain (table_of rules y.0).columns m.target_column ≡ true) (sym same) is.far in
            ap₂ (compares m.cmp) own (plain m.target_column far_plain ∙ ap (λ (y : ℕ × Action). value_at (table_of rules y.0).sample m.target_column) same) ∙ is.passes apart)
        | false ↦ λ e.
            let need = needed_at items skip 0 columns m.reference is.column is.at e needs in
            let filled : matches_among (rows_of items) values m (fill items is.column.null (target_of is.column.kind) f.0) ≡ true =
            ap (λ (o : Option (ℕ × Action)). matches_among (rows_of items) values m (fill items is.column.null o f.0)) is.to
            ∙ match_filled rules samples items t m values f.0 made is own is.column.null refl (ap (λ (o : Option (ℕ × Action)). list_all (has_table items) (needed_by is.column.null o)) (sym is.to) ∙ need) in
            match_more {b = rows_of items} {c = rows} sub values m (fill items is.column.null (target_of is.column.kind) f.0) filled
      ] in
      ap (matches_among rows values m) f.1 ∙ step (is_skipped skip (0 + m.reference)) refl
    where
      naming_at : (number : ℕ) (cs : List Column) (place : ℕ) (c : Column) → IsNaming r skip number cs → slice_get cs place ≡ Some c → is_skipped skip (number + place) ≡ true → target_of c.kind ≡ Some r
      naming_at number [] place c h e s = absurd (cc)
      naming_at number (k ∷ cs) zero c h e s =
          let same : k ≡ c = cc in
          let m : number ≡ number + 0 = omega arith in ap (λ (x : Column). target_of x.kind) (sym same) ∙ h.0 (ap (is_skipped skip) m ∙ s)
      naming_at number (k ∷ cs) (suc place) c h e s =
          let m : (number + 1) + place ≡ number + suc place = omega arith in naming_at (number + 1) cs place c h.1 e (ap (is_skipped skip) m ∙ s)

  matched : (ms : List MatchRule) → AllByRecursion (IsMatched rules t) ms → matches_hold rows values ms ≡ true
  matched [] h = refl
  matched (m ∷ ms) h = and_from _ _ (matched_one m h.0) (matched ms h.1)

  -- it passes the tests of an insert
  pub naming_inserts : (id : ℕ) → insert_reason rules rows (row_of id (item_naming rules items t skip n)) ≡ None
  naming_inserts id =
      let s = samples t known in
      let own = named (numbered id) in
      let same = but_named items skip (row_numbered n) r (numbered id) 0 columns sample s.fit in
      let fit : all_fit columns (map own values) ≡ true = ap (all_fit columns) same ∙ but_fits items skip (row_numbered n) r 0 columns sample naming s.fit in
      let check : checks_hold rules.ask (map own values) (table_of rules t).checks ≡ true =
      ap (λ (l : List Value). checks_hold rules.ask l (table_of rules t).checks) same ∙ checked (table_of rules t).checks s.plain s.checked in
      let referred : list_all (stands_among rows) (refs_in columns (map own values)) ≡ true =
      ap (λ (l : List Value). list_all (stands_among rows) (refs_in columns l)) same
      ∙ but_refs items skip (row_numbered n) r (stands_among rows)
      (λ number e. (there number e).there (λ row. row.table == r.0) (λ x in_table plain. eq-eqb x.table r.0 in_table))
      (λ u act has. sub.more (λ row. same_row row.name (name_in items u) && (row.table == u)) (name_stands items u has))
      0 columns sample naming needs in
      let match : matches_hold rows (map own values) (table_of rules t).matches ≡ true =
      ap (λ (l : List Value). matches_hold rows l (table_of rules t).matches) same ∙ matched (table_of rules t).matches s.matched in
      λ i. first_reason ((1, known i) ∷ (2, not (fit i)) ∷ (3, not (check i)) ∷ (4, not (referred i)) ∷ (5, not (match i)) ∷ [])
