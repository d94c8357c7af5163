-- The rows of the path pass their tests, and go with the one at its end.
use Rattle.std.proofs.Common.{◌≡◌, ℕ, ◌+◌, ◌==◌, ◌<◌, ◌≤◌, suc, Bool, true, false, cond, not, ◌&&◌, List, [], ◌∷◌, ◌++◌, length, map, refl, sym, ap, ◌∙◌, subst, ◌||◌, is_none, Option, Some, None, arith, nat_le, unwrap_or}
use Rattle.std.specs.List.{list_any, list_all, AllByRecursion}
use Rattle.std.proofs.lemmas.Bool.{and_parts, and_from, and_left, and_right, or_left, or_right, or_from, both_ways, eq-eqb, eqb-true, ne_eqb, false_from_ne_true, leb-false, leb-true, not_from_false, not-true, lt-leb}
use Rattle.update_model.specs.declared.row_name.RowName.{RowName}
use Rattle.update_model.specs.declared.value.Value.{Value}
use Rattle.update_model.specs.declared.value.Value.TheVariants as value
use Rattle.update_model.specs.Entry.{same_id}
use Rattle.row_check.specs.Meaning.{value_at}
use Rattle.schema.specs.declared.action.Action.{Action}
use Rattle.schema.specs.declared.action.Action.TheVariants as action
use Rattle.schema.specs.declared.column.Column.{Column}
use Rattle.schema.specs.declared.table_def.TableDef.{TableDef}
use Rattle.schema.specs.declared.rules.UniqueRule.{UniqueRule}
use Rattle.schema.specs.Columns.{target_of, reference_at, is_restrict}
use Rattle.schema.specs.Numbers.{no_table}
use Rattle.table_model.specs.Visible.{Rules, TableRow, RowRef, Effects, kept_of, same_row, table_of, refs, refs_in, is_visible, is_deleted}
use Rattle.table_model.specs.Verdicts.{in_table, named, limits_hold, keeps_least, is_new_in, unique_holds, at_most_holds}
use Rattle.confluence_laws.specs.Examples.{Item, Step, numbered, row_numbered, has_table, name_in, fill, filled, item_of, is_skipped, needed_by, needed_tables, needed_but, filled_but, item_naming, path_items}
use Rattle.table_model.proofs.Alike.{weight, one_if}
use Rattle.table_model.proofs.Founded.{Sub, IsWellFounded, Founded, all_weaker}
use Rattle.table_model.proofs.Settled.{gone_hidden}
use Rattle.table_model.proofs.Resting.{ones_from, resting}
use Rattle.confluence_laws.proofs.Sides.{none_new}
use Rattle.table_model.proofs.Standing.{Stands, same_row-refl}
use Rattle.schema.proofs.Soundness.{IsSound}
use Rattle.confluence_laws.proofs.Accepted.{cascade_visible}
use Rattle.confluence_laws.proofs.Plans.{row_of, rows_of, AllPass, apart}
use Rattle.confluence_laws.proofs.Sides.{none_counted}
use Rattle.confluence_laws.proofs.Needed.{AreSampled, Made, uniques_hold, or_uniques, once_at_most}
use Rattle.confluence_laws.proofs.AtMostRefused.{limits_each}
use Rattle.confluence_laws.proofs.FirstRefused.{IsBare}
use Rattle.confluence_laws.proofs.Sampled.{column_at}
use Rattle.confluence_laws.proofs.Naming.{IsNaming, naming_none, naming_some, but_named, but_plain, but_refs, but_at, IsThere, naming_inserts}
use Rattle.confluence_laws.proofs.Vanishing.{LeadsBy, Leads}

-- in tables without limits, and no rows above them, no limit is broken
pub bare_limits : (rules : Rules) (top : ℕ) → ((u : ℕ) → u ≤ top → IsBare rules u) → (rows : List TableRow) → ((u : ℕ) → top < u → list_any (in_table u) rows ≡ false) → limits_hold rows 0 rules.tables ≡ true
bare_limits rules top bare rows low =
    limits_each rows 0 rules.tables (λ u table at.
    let it : table_of rules u ≡ table = ap (λ (o : Option TableDef). unwrap_or o no_table) at in
    let z : u ≡ 0 + u = omega arith in
    let step : (b : Bool) → nat_le u top ≡ b → (list_all (λ rule. keeps_least table.kept rule.column || unique_holds rows u rule.column) table.uniques ≡ true) × (at_most_holds rows u table.at_most ≡ true) =
    elim [
      | true ↦ λ e.
          let here = and_parts (list_all (λ rule. keeps_least (kept_of rules u) rule.column) (table_of rules u).uniques) _ (bare u (leb-true u top e)) in (
            ap (λ (t : TableDef). list_all (λ rule. keeps_least t.kept rule.column || unique_holds rows u rule.column) t.uniques) (sym it)
                ∙ all_weaker (λ (rule : UniqueRule). keeps_least (kept_of rules u) rule.column) (λ rule. keeps_least (kept_of rules u) rule.column || unique_holds rows u rule.column) (λ rule k. or_left _ _ k) (table_of rules u).uniques here.0,
            ap (at_most_holds rows u) (ap (λ (t : TableDef). t.at_most) (sym it) ∙ eqb-true (table_of rules u).at_most 0 here.1),
          )
      | false ↦ λ e.
          let none = none_counted (in_table u) rows (low u (leb-false u top e)) in
          let few : weight (λ x. one_if (in_table u x)) rows ≤ 1 = omega arith in
          (or_uniques table.kept rows u table.uniques (uniques_hold rows u few table.uniques), once_at_most rows u few table.at_most)
    ] in
    subst (λ (m : ℕ). (list_all (λ rule. keeps_least table.kept rule.column || unique_holds rows m rule.column) table.uniques ≡ true) × (at_most_holds rows m table.at_most ≡ true)) z (step (nat_le u top) refl))

-- a needed row is one that names nothing else
pub filled_plain_but : (items : List Item) (name : RowName) (number : ℕ) (cs : List Column) (vs : List Value) → filled_but items None name number cs vs ≡ filled items cs vs
filled_plain_but items name number [] vs = refl
filled_plain_but items name number (c ∷ cs) [] = refl
filled_plain_but items name number (c ∷ cs) (v ∷ vs) = ap (λ l. fill items c.null (target_of c.kind) v ∷ l) (filled_plain_but items name (number + 1) cs vs)

pub needed_plain_but : (number : ℕ) (cs : List Column) → needed_but None number cs ≡ needed_tables cs
needed_plain_but number [] = refl
needed_plain_but number (c ∷ cs) = ap (λ l. needed_by c.null (target_of c.kind) ++ l) (needed_plain_but (number + 1) cs)

-- the names of a chain's rows are lower than what comes later
name_below : (items : List Item) (u k : ℕ) → length items < k → same_row (name_in items u) (row_numbered k) ≡ false
name_below [] u k l = and_left (same_id (numbered 0) (numbered k)) (0 == 0) (apart 0 k (λ e. omega arith))
name_below (i ∷ items) u k l =
    let step : (b : Bool) → same_row (cond b (row_numbered (suc (length items))) (name_in items u)) (row_numbered k) ≡ false =
    elim [ true ↦ and_left (same_id (numbered (suc (length items))) (numbered k)) (0 == 0) (apart (suc (length items)) k (λ e. omega arith)) | false ↦ name_below items u k (omega arith) ] in
    step (i.table == u)

pub names_below : (items : List Item) (k : ℕ) → length items < k → AllByRecursion (λ e. same_row e.name (row_numbered k) ≡ false) (rows_of items)
names_below [] k l = tt
names_below (i ∷ items) k l =
    (and_left (same_id (numbered (suc (length items))) (numbered k)) (0 == 0) (apart (suc (length items)) k (λ e. omega arith)), names_below items k (omega arith))

module _ (rules : Rules) (sound : IsSound rules.tables) (samples : AreSampled rules) where
  -- a test of all references of a row that names another one
  pub naming_refs : (items : List Item) (t : ℕ) → nat_le (length rules.tables) t ≡ false → (skip : Option ℕ) (n : ℕ) (r : ℕ × Action) → IsNaming r skip 0 (table_of rules t).columns → list_all (has_table items) (needed_but skip 0 (table_of rules t).columns) ≡ true
      → (q : RowRef → Bool) → ((number : ℕ) → is_skipped skip number ≡ true → q (record { target = r.0; action = r.1; name = row_numbered n }) ≡ true)
      → ((u : ℕ) (act : Action) → has_table items u ≡ true → q (record { target = u; action = act; name = name_in items u }) ≡ true)
      → (id : ℕ) → list_all q (refs rules (row_of id (item_naming rules items t skip n))) ≡ true
  naming_refs items t known skip n r naming needs q ok each id =
      ap (λ (l : List Value). list_all q (refs_in (table_of rules t).columns l)) (but_named items skip (row_numbered n) r (numbered id) 0 (table_of rules t).columns (table_of rules t).sample (samples t known).fit)
      ∙ but_refs items skip (row_numbered n) r q ok each 0 (table_of rules t).columns (table_of rules t).sample naming needs

  pub item_is_naming : (items : List Item) (t n : ℕ) → item_naming rules items t None n ≡ item_of rules items t
  item_is_naming items t n = ap (λ (l : List Value). record { table = t; values = l }) (filled_plain_but items (row_numbered n) 0 (table_of rules t).columns (table_of rules t).sample)

  -- shared rows name nothing that comes later
  pub shared_quiet : (items : List Item) → Made rules samples items → (k : ℕ) → length items < k → AllByRecursion (λ row. list_all (λ r. not (same_row r.name (row_numbered k))) (refs rules row) ≡ true) (rows_of items)
  shared_quiet [] m k l = tt
  shared_quiet (i ∷ items) m k l =
      let none : ℕ × Action = (0, action.Cascade) in
      let cs = (table_of rules i.table).columns in
      let is : item_naming rules items i.table None 0 ≡ i = item_is_naming items i.table 0 ∙ sym m.0.is in (
        subst (λ (x : Item). list_all (λ r. not (same_row r.name (row_numbered k))) (refs rules (row_of (suc (length items)) x)) ≡ true) is
            (naming_refs items i.table m.0.known None 0 none (naming_none none 0 cs) (ap (list_all (has_table items)) (needed_plain_but 0 cs) ∙ m.0.needs) (λ r. not (same_row r.name (row_numbered k)))
            (λ number e. absurd (cc)) (λ u act has. not_from_false _ (name_below items u k (omega arith))) (suc (length items))),
        shared_quiet items m.1 k (omega arith),
      )

  -- ---- the path

  -- top is the table of the row that names the path, with a RESTRICT column to a table of the path
  module _ (shared : List Item) (made : Made rules samples shared) (top : ℕ) (top_known : nat_le (length rules.tables) top ≡ false) (bare : (u : ℕ) → u ≤ top → IsBare rules u)
      (fresh : (u : ℕ) → top ≤ u → list_any (in_table u) (rows_of shared) ≡ false) (shared_pass : AllPass rules shared) where
    abbrev pub end : ℕ
    end = suc (length shared)

    abbrev pub HasNeeds : Step → Type 0
    HasNeeds s = list_all (has_table shared) (needed_but s.column 0 (table_of rules s.table).columns) ≡ true

    pub record PathPasses (t : ℕ) (items : List Item) : Type 0 where
      pub pass : AllPass rules items
      pub there : IsThere rules (rows_of items) (row_numbered (length items)) t
      pub low : (u : ℕ) → top < u → list_any (in_table u) (rows_of items) ≡ false
      pub sub : Sub (rows_of shared) (rows_of items)
      pub longer : end ≤ length items

    -- one more row of the path
    pub path_more : (older : List Item) → AllPass rules older → ((u : ℕ) → top < u → list_any (in_table u) (rows_of older) ≡ false) → Sub (rows_of shared) (rows_of older) → length shared ≤ length older
        → (t : ℕ) → t ≤ top → (skip : Option ℕ) (r : ℕ × Action) → IsNaming r skip 0 (table_of rules t).columns → list_all (has_table shared) (needed_but skip 0 (table_of rules t).columns) ≡ true
        → ((number : ℕ) → is_skipped skip number ≡ true → IsThere rules (rows_of older) (row_numbered (length older)) r.0)
        → ((number : ℕ) → is_skipped skip number ≡ true → not (is_restrict r.1) ≡ true → (r.0 == t) ≡ false)
        → is_new_in (kept_of rules t) (rows_of older) (row_of (suc (length older)) (item_naming rules shared t skip (length older))) ≡ true
        → PathPasses t (item_naming rules shared t skip (length older) ∷ older)
    path_more older pass low sub longer t l skip r naming needs there far new =
        let x = item_naming rules shared t skip (length older) in
        let id = suc (length older) in
        let cs = (table_of rules t).columns in
        let known : nat_le (length rules.tables) t ≡ false = lt-leb (length rules.tables) t (let b = leb-false (length rules.tables) top top_known in omega arith) in
        let lower : (u : ℕ) → top < u → list_any (in_table u) (row_of id x ∷ rows_of older) ≡ false = λ u above. or_from _ _ (ne_eqb t u (λ e. omega arith)) (low u above) in
        record {
          pass = (
            record {
              inserted = naming_inserts rules samples shared made t known skip (length older) r naming needs (rows_of older) sub there far id;
              limits = bare_limits rules top bare (row_of id x ∷ rows_of older) lower;
              fresh = new;
            },
            pass,
          );
          there = record {
            there = λ p h. or_left _ _ (and_from _ _ (same_row-refl (row_numbered id)) (h (row_of id x) refl
                (λ c plain.
                ap (λ (vs : List Value). value_at vs c) (but_named shared skip (row_numbered (length older)) r (numbered id) 0 cs (table_of rules t).sample (samples t known).fit)
                ∙ but_plain shared skip (row_numbered (length older)) r 0 cs (table_of rules t).sample naming c plain)));
          };
          low = lower;
          sub = record { more = λ p h. or_right (p (row_of id x)) _ (sub.more p h) };
          longer = omega arith;
        }

    naming_by : (s c u : ℕ) → reference_at (table_of rules s).columns c ≡ Some (u, action.Cascade) → IsNaming (u, action.Cascade) (Some c) 0 (table_of rules s).columns
    naming_by s c u at =
        let r : ℕ × Action = (u, action.Cascade) in
        let z : 0 + c ≡ c = omega arith in subst (λ (k : ℕ). IsNaming r (Some k) 0 (table_of rules s).columns) z (naming_some r 0 c (table_of rules s).columns at)

    pub path_passes : (t : ℕ) (steps : List Step) → Leads rules t steps → t ≤ top → AllByRecursion HasNeeds steps → AllByRecursion (λ s. is_none (kept_of rules s.table) ≡ true) steps → PathPasses t (path_items rules shared steps)
    path_passes t [] leads l needs plain = absurd leads
    path_passes t (s ∷ steps) leads l needs plain =
        let low_table : s.table ≤ top = subst (λ (n : ℕ). n ≤ top) (sym leads.0) l in
        let step : (o : Option ℕ) → s.column ≡ o → LeadsBy rules s.table (λ u. Leads rules u steps) steps o → PathPasses s.table (path_items rules shared (s ∷ steps)) =
        elim [
          | None ↦ λ e on.
              let none : ℕ × Action = (0, action.Cascade) in
              subst (λ (l : List Step). PathPasses s.table (path_items rules shared (s ∷ l))) (sym on.0)
              (subst (λ (o : Option ℕ). PathPasses s.table (item_naming rules shared s.table o (length shared) ∷ shared)) (sym e)
              (path_more shared shared_pass (λ u above. fresh u (omega arith)) (record { more = λ p h. h }) (omega arith) s.table low_table None none (naming_none none 0 (table_of rules s.table).columns)
              (subst (λ (o : Option ℕ). list_all (has_table shared) (needed_but o 0 (table_of rules s.table).columns) ≡ true) e needs.0) (λ number k. absurd (cc)) (λ number k. absurd (cc))
              (none_new (kept_of rules s.table) (rows_of shared) (row_of (suc (length shared)) (item_naming rules shared s.table None (length shared))) plain.0)))
          | Some c ↦ λ e on.
              let u = on.0 in
              let less : u < s.table = on.1 in
              let r : ℕ × Action = (u, action.Cascade) in
              let rest = path_passes u steps on.3 (omega arith) needs.1 plain.1 in
              let older = path_items rules shared steps in
              subst (λ (o : Option ℕ). PathPasses s.table (item_naming rules shared s.table o (length older) ∷ older)) (sym e)
              (path_more older rest.pass rest.low rest.sub (let m = rest.longer in omega arith) s.table low_table (Some c) r (naming_by s.table c u on.2)
              (subst (λ (o : Option ℕ). list_all (has_table shared) (needed_but o 0 (table_of rules s.table).columns) ≡ true) e needs.0)
              (λ number k. rest.there) (λ number k loose. ne_eqb u s.table (λ same. omega arith))
              (none_new (kept_of rules s.table) (rows_of older) (row_of (suc (length older)) (item_naming rules shared s.table (Some c) (length older))) plain.0))
        ] in
        subst (λ (n : ℕ). PathPasses n (path_items rules shared (s ∷ steps))) leads.0 (step s.column refl leads.1)

    -- no row of the path names its end by RESTRICT
    pub path_quiet : (t : ℕ) (steps : List Step) → Leads rules t steps → t ≤ top → AllByRecursion HasNeeds steps
        → AllByRecursion (λ row. list_all (λ r. not (is_restrict r.action && same_row r.name (row_numbered end))) (refs rules row) ≡ true) (rows_of (path_items rules shared steps))
    path_quiet t [] leads l needs = absurd leads
    path_quiet t (s ∷ steps) leads l needs =
        let quiet : RowRef → Bool = λ r. not (is_restrict r.action && same_row r.name (row_numbered end)) in
        let cs = (table_of rules s.table).columns in
        let low_table : s.table ≤ top = subst (λ (n : ℕ). n ≤ top) (sym leads.0) l in
        let known : nat_le (length rules.tables) s.table ≡ false = lt-leb (length rules.tables) s.table (let b = leb-false (length rules.tables) top top_known in omega arith) in
        let each : (u : ℕ) (act : Action) → has_table shared u ≡ true → quiet (record { target = u; action = act; name = name_in shared u }) ≡ true =
        λ u act has. not_from_false _ (and_right (is_restrict act) _ (name_below shared u end (omega arith))) in
        let here : (o : Option ℕ) → s.column ≡ o → (older : List Item) → (r : ℕ × Action) → IsNaming r o 0 cs → is_restrict r.1 ≡ false
        → list_all quiet (refs rules (row_of (suc (length older)) (item_naming rules shared s.table s.column (length older)))) ≡ true =
        λ o e older r naming loose.
        subst (λ (x : Option ℕ). list_all quiet (refs rules (row_of (suc (length older)) (item_naming rules shared s.table x (length older)))) ≡ true) (sym e)
        (naming_refs shared s.table known o (length older) r naming (subst (λ (x : Option ℕ). list_all (has_table shared) (needed_but x 0 cs) ≡ true) e needs.0) quiet
        (λ number k. not_from_false _ (and_left (is_restrict r.1) _ loose)) each (suc (length older))) in
        let step : (o : Option ℕ) → s.column ≡ o → LeadsBy rules s.table (λ u. Leads rules u steps) steps o → AllByRecursion (λ row. list_all quiet (refs rules row) ≡ true) (rows_of (path_items rules shared (s ∷ steps))) =
        elim [
          | None ↦ λ e on.
              let none : ℕ × Action = (0, action.Cascade) in
              subst (λ (l : List Step). AllByRecursion (λ row. list_all quiet (refs rules row) ≡ true) (rows_of (path_items rules shared (s ∷ l)))) (sym on.0)
              (here None e shared none (naming_none none 0 cs) refl, calm shared (shared_quiet shared made end (omega arith)))
          | Some c ↦ λ e on.
              let less : on.0 < s.table = on.1 in
              let r : ℕ × Action = (on.0, action.Cascade) in
              (here (Some c) e (path_items rules shared steps) r (naming_by s.table c on.0 on.2) refl, path_quiet on.0 steps on.3 (omega arith) needs.1)
        ] in
        step s.column refl leads.1
      where
        calmer : (rs : List RowRef) → list_all (λ r. not (same_row r.name (row_numbered end))) rs ≡ true → list_all (λ r. not (is_restrict r.action && same_row r.name (row_numbered end))) rs ≡ true
        calmer [] h = refl
        calmer (r ∷ rs) h = let parts = and_parts (not (same_row r.name (row_numbered end))) _ h in and_from _ _ (not_from_false _ (and_right (is_restrict r.action) _ (not-true _ parts.0))) (calmer rs parts.1)

        calm : (items : List Item) → AllByRecursion (λ row. list_all (λ r. not (same_row r.name (row_numbered end))) (refs rules row) ≡ true) (rows_of items)
            → AllByRecursion (λ row. list_all (λ r. not (is_restrict r.action && same_row r.name (row_numbered end))) (refs rules row) ≡ true) (rows_of items)
        calm [] h = tt
        calm (i ∷ items) h = (calmer (refs rules (row_of (suc (length items)) i)) h.0, calm items h.1)

    -- what holds of the path's rows holds of the shared ones
    pub shared_part : (P : TableRow → Type 0) (steps : List Step) → AllByRecursion P (rows_of (path_items rules shared steps)) → AllByRecursion P (rows_of shared)
    shared_part P [] h = h
    shared_part P (s ∷ steps) h = shared_part P steps h.1

    pub shared_founded : (steps : List Step) → Founded rules (rows_of (path_items rules shared steps)) → Founded rules (rows_of shared)
    shared_founded [] h = h
    shared_founded (s ∷ steps) h = shared_founded steps h.1

    -- with its end the path goes
    pub path_goes : (g : Effects) (f : IsWellFounded rules g) → is_deleted g (row_numbered end) ≡ true → (t : ℕ) (steps : List Step) → Leads rules t steps → t ≤ top
        → AllByRecursion (Stands rules g.inserted) (rows_of (path_items rules shared steps)) → is_visible rules g (row_numbered (length (path_items rules shared steps))) ≡ false
    path_goes g f gone t [] leads l stands = absurd leads
    path_goes g f gone t (s ∷ steps) leads l stands =
        let low_table : s.table ≤ top = subst (λ (n : ℕ). n ≤ top) (sym leads.0) l in
        let known : nat_le (length rules.tables) s.table ≡ false = lt-leb (length rules.tables) s.table (let b = leb-false (length rules.tables) top top_known in omega arith) in
        let cs = (table_of rules s.table).columns in
        let sample = (table_of rules s.table).sample in
        let older = path_items rules shared steps in
        let step : (o : Option ℕ) → s.column ≡ o → LeadsBy rules s.table (λ u. Leads rules u steps) steps o → is_visible rules g (row_numbered (suc (length older))) ≡ false =
        elim [
          | None ↦ λ e on.
              let is_end : suc (length older) ≡ end = ap (λ (l : List Step). suc (length (path_items rules shared l))) on.0 in
              ap (λ (n : ℕ). is_visible rules g (row_numbered n)) is_end
              ∙ gone_hidden rules g (ones_from rules g.inserted f.founded) (resting rules sound g.inserted f.founded) (row_numbered end) gone
          | Some c ↦ λ e on.
              let u = on.0 in
              let less : u < s.table = on.1 in
              let r : ℕ × Action = (u, action.Cascade) in
              let before = path_goes g f gone u steps on.3 (omega arith) stands.1 in
              let row = row_of (suc (length older)) (item_naming rules shared s.table s.column (length older)) in
              let col = column_at cs c r on.2 in
              let at = but_at shared (Some c) (row_numbered (length older)) r 0 cs sample c col.0 (samples s.table known).fit col.1.0 in
              let z : 0 + c ≡ c = omega arith in
              let skipped : is_skipped (Some c) (0 + c) ≡ true = eq-eqb (0 + c) c z in
              let names : value_at (map (named (numbered (suc (length older)))) (filled_but shared (Some c) (row_numbered (length older)) 0 cs sample)) c ≡ value.Row (row_numbered (length older)) =
              ap (λ (vs : List Value). value_at vs c) (but_named shared (Some c) (row_numbered (length older)) r (numbered (suc (length older))) 0 cs sample (samples s.table known).fit)
              ∙ at.1 ∙ (λ i. cond (skipped i) (value.Row (row_numbered (length older))) (fill shared col.0.null (target_of col.0.kind) at.0)) in
              let value_is : value_at row.values c ≡ value.Row (row_numbered (length older)) =
              ap (λ (o : Option ℕ). value_at (map (named (numbered (suc (length older)))) (filled_but shared o (row_numbered (length older)) 0 cs sample)) c) e ∙ names in
              false_from_ne_true _ (λ v. both_ways _ before (cascade_visible rules sound g f row stands.0 c u (row_numbered (length older)) on.2 value_is v))
        ] in
        step s.column refl leads.1
