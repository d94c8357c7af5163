-- The counterexample that is given for a RESTRICT confirms.
use Rattle.std.proofs.Common.{◌≡◌, ℕ, ◌+◌, ◌==◌, ◌<◌, ◌≤◌, zero, suc, Bool, true, false, cond, not, ◌&&◌, ◌||◌, List, [], ◌∷◌, ◌++◌, length, map, filter, reverse, refl, sym, ap, ◌∙◌, subst, is_none, Option, Some, None, arith, nat_le, nat_lt, if◌then◌else◌}
use Rattle.std.specs.List.{list_any, list_all, flat_map, AllByRecursion}
use Rattle.std.proofs.lemmas.Bool.{and_parts, and_from, and_left, and_right, or_left, or_right, or_from, both_ways, eqb-true, eq-eqb, ne_eqb, false_from_ne_true, leb-false, lt-leb, ltb-true, lt-ltb, not_from_false, not_from_true, not-true}
use Rattle.std.proofs.lemmas.List.Sorted.{IsPermutation-reverse, IsPermutation-sym}
use Rattle.update_model.specs.declared.op.Op.TheVariants.{Delete}
use Rattle.update_model.specs.declared.row_name.RowName.{RowName}
use Rattle.update_model.specs.declared.value.Value.{Value}
use Rattle.update_model.specs.declared.value.Value.TheVariants as value
use Rattle.update_model.specs.Graph.{has}
use Rattle.update_model.specs.Node.{NodeData}
use Rattle.row_check.specs.Meaning.{value_at}
use Rattle.schema.specs.declared.action.Action.{Action}
use Rattle.schema.specs.declared.action.Action.TheVariants as action
use Rattle.schema.specs.declared.column.ColumnKind.{ColumnKind}
use Rattle.schema.specs.declared.column.ColumnKind.TheVariants as kind
use Rattle.table_model.specs.declared.verdict.Verdict.TheVariants as verdict
use Rattle.schema.specs.Columns.{target_of, reference_at, is_restrict}
use Rattle.schema.specs.Sound.{IsSoundKind, IsSoundColumn}
use Rattle.table_model.specs.Nodes.{holds, IsClosed}
use Rattle.table_model.specs.Visible.{Rules, TableRow, Effects, kept_of, same_row, table_of, refs, is_cascade, is_visible, is_deleted, visible_rows, shown, shown_rows, shown_value}
use Rattle.table_model.specs.Verdicts.{in_table, is_valid, effects, effects_of, Judged, ancestor_of, judge_next, judged, joined, delete_reason, first_reason, is_new_in, limits_hold, verdict_on, same_author}
use Rattle.table_model.specs.Invariants.{Claim, Refers, names_shown, claim_holds, shown_in}
use Rattle.confluence_laws.specs.Confluence.{is_permanent, accepts, breaks}
use Rattle.confluence_laws.specs.Examples.{Item, Step, numbered, row_numbered, one_author, last_of, one_after, after, chain, has_table, name_in, fill, is_skipped, needed_but, item_naming, need, path_from, path_items, shared_of}
use Rattle.table_model.proofs.Order.{any_weaker, ancestors_held, unaffected}
use Rattle.table_model.proofs.Founded.{Sub-filter, all_weaker, all-append, IsWellFounded, founded_closed}
use Rattle.table_model.proofs.Standing.{Stands, each-map, each_stands, any_each, row_from_same, same_row-refl}
use Rattle.table_model.proofs.KeptTables.{holds_steady}
use Rattle.table_model.proofs.Settled.{IsOne, are_resting, visible_from}
use Rattle.table_model.proofs.Resting.{ones_from, resting}
use Rattle.confluence_laws.proofs.Vanishing.{plain_steps, steady_plain}
use Rattle.confluence_laws.proofs.Needed.{alone_new}
use Rattle.schema.proofs.Soundness.{IsSound, each_at, kind_of_target, target_below}
use Rattle.confluence_laws.proofs.Accepted.{IsDeclared, named_shown, refers_holds, named_stands, shown_at}
use Rattle.confluence_laws.proofs.SameTables.{permuted_on}
use Rattle.confluence_laws.proofs.Plans.{row_of, rows_of, AllPass, apart, ids_below, last_held, chain_closed, all_before, filter_all, IsFree, free_each, free_least, items_new, stay_each, each_visible, all_visible, chain_effects}
use Rattle.confluence_laws.proofs.Sides.{test_from_closed, all_accepted}
use Rattle.confluence_laws.proofs.Needed.{AreSampled, Made, Grows, all_parts, all_made, need_made, made_passes, table_counted, name_stands}
use Rattle.confluence_laws.proofs.FirstRefused.{IsReady}
use Rattle.confluence_laws.proofs.Sampled.{column_at}
use Rattle.confluence_laws.proofs.Naming.{IsNaming, naming_some, but_named, but_at, lower_but}
use Rattle.confluence_laws.proofs.Vanishing.{LeadsBy, Leads, path_leads}
use Rattle.confluence_laws.proofs.VanishPath.{bare_limits, names_below, naming_refs, PathPasses, path_more, path_passes, path_quiet, shared_part, shared_founded, path_goes}

-- ---- lists

flat_low : {X : Type 0} (q : ℕ → Bool) (f : X → List ℕ) (xs : List X) → AllByRecursion (λ x. list_all q (f x) ≡ true) xs → list_all q (flat_map f xs) ≡ true
flat_low q f [] h = refl
flat_low q f (x ∷ xs) h = all-append q (f x) (flat_map f xs) h.0 (flat_low q f xs h.1)

flat_each : {X : Type 0} (q : ℕ → Bool) (f : X → List ℕ) (xs : List X) → list_all q (flat_map f xs) ≡ true → AllByRecursion (λ x. list_all q (f x) ≡ true) xs
flat_each q f [] h = tt
flat_each q f (x ∷ xs) h = let parts = all_parts q (f x) (flat_map f xs) h in (parts.0, flat_each q f xs parts.1)

none_any : {X : Type 0} (p : X → Bool) (xs : List X) → list_all (λ x. not (p x)) xs ≡ true → list_any p xs ≡ false
none_any p [] h = refl
none_any p (x ∷ xs) h = let parts = and_parts (not (p x)) _ h in or_from _ _ (not-true _ parts.0) (none_any p xs parts.1)

none_each : {X Y : Type 0} (p : Y → Bool) (f : X → List Y) (xs : List X) → AllByRecursion (λ x. list_all (λ y. not (p y)) (f x) ≡ true) xs → list_any (λ x. list_any p (f x)) xs ≡ false
none_each p f [] h = refl
none_each p f (x ∷ xs) h = or_from _ _ (none_any p (f x) h.0) (none_each p f xs h.1)

filter_kept : {X : Type 0} (p q : X → Bool) (xs : List X) → list_all (λ x. not (p x) || q x) xs ≡ true → list_all q (filter p xs) ≡ true
filter_kept p q [] h = refl
filter_kept p q (x ∷ xs) h =
    let parts = and_parts (not (p x) || q x) _ h in
    let step : (b : Bool) → (not b || q x) ≡ true → list_all q (cond b (x ∷ filter p xs) (filter p xs)) ≡ true =
    elim [ true ↦ λ e. and_from _ _ e (filter_kept p q xs parts.1) | false ↦ λ e. filter_kept p q xs parts.1 ] in
    step (p x) parts.0

-- a name that is not visible is not shown
not_shown : (rules : Rules) (g : Effects) (name : RowName) (q : TableRow → Bool) → is_visible rules g name ≡ false → (rows : List TableRow)
    → list_any (λ row. same_row row.name name && q row) (map (shown rules g) (filter (λ row. is_visible rules g row.name) rows)) ≡ false
not_shown rules g name q hidden [] = refl
not_shown rules g name q hidden (x ∷ rows) =
    let rest = not_shown rules g name q hidden rows in
    let step : (b : Bool) → is_visible rules g x.name ≡ b → list_any (λ row. same_row row.name name && q row) (map (shown rules g) (cond b (x ∷ filter (λ row. is_visible rules g row.name) rows) (filter (λ row. is_visible rules g row.name) rows))) ≡ false =
    elim [
      | true ↦ λ v. or_from _ _
          (false_from_ne_true _ (λ e. both_ways _ hidden (subst (λ (n : RowName). is_visible rules g n ≡ true) (row_from_same x.name name (and_parts (same_row x.name name) _ e).0) v))) rest
      | false ↦ λ v. rest
    ] in
    step (is_visible rules g x.name) refl

abbrev is_row : Value → Bool
is_row (value.Row name) = true
is_row other = false

same_one : same_author one_author one_author ≡ true
same_one = refl

own_all : (rules : Rules) (name : RowName) (items : List Item) → list_any (λ row. same_row row.name name && (table_of rules row.table).owned && not (same_author row.author one_author)) (rows_of items) ≡ false
own_all rules name [] = refl
own_all rules name (i ∷ items) = or_from _ _ (and_right _ (not (same_author one_author one_author)) (not_from_true _ same_one)) (own_all rules name items)

not_last : (n : ℕ) → has (last_of n) (numbered (suc n)) ≡ false
not_last zero = refl
not_last (suc n) = or_from _ _ (apart (suc (suc n)) (suc n) (λ e. omega arith)) refl

leads_low : (rules : Rules) (t top : ℕ) (steps : List Step) → Leads rules t steps → t ≤ top → AllByRecursion (λ s. s.table ≤ top) steps
leads_low rules t top [] leads l = tt
leads_low rules t top (s ∷ steps) leads l =
    let low : s.table ≤ top = subst (λ (n : ℕ). n ≤ top) (sym leads.0) l in
    let step : (o : Option ℕ) → LeadsBy rules s.table (λ u. Leads rules u steps) steps o → AllByRecursion (λ s. s.table ≤ top) steps =
    elim [
      | None ↦ λ on. subst (AllByRecursion (λ (s : Step). s.table ≤ top)) (sym on.0) tt
      | Some c ↦ λ on. let less : on.0 < s.table = on.1 in leads_low rules on.0 top steps on.3 (omega arith)
    ] in
    (low, step s.column leads.1)

module _ (rules : Rules) (sound : IsSound rules.tables) (samples : AreSampled rules) (table column target : ℕ) (ready : IsReady rules (Refers table column target action.Restrict)) (refused : is_permanent rules target ≡ false) where
  abbrev steps : List Step
  steps = path_from rules (suc target) target

  abbrev needs_of : Step → List ℕ
  needs_of step = needed_but step.column 0 (table_of rules step.table).columns

  abbrev all_needs : List ℕ
  all_needs = flat_map needs_of (reverse steps) ++ needed_but (Some column) 0 (table_of rules table).columns

  abbrev shared : List Item
  shared = shared_of rules steps table column

  abbrev items : List Item
  items = path_items rules shared steps

  abbrev last : ℕ
  last = suc (length shared)

  abbrev naming_row : Item
  naming_row = item_naming rules shared table (Some column) (length items)

  abbrev left : NodeData
  left = after (length items) (suc (length items)) naming_row

  abbrev right : NodeData
  right = one_after (length items) (suc (suc (length items))) (Delete (row_numbered last))

  below : target ≤ table
  below = target_below table (table_of rules table).columns (sound table).columns column target action.Restrict ready.1

  target_known : nat_le (length rules.tables) target ≡ false
  target_known = lt-leb (length rules.tables) target (let l = leb-false (length rules.tables) table ready.0 in let b = below in omega arith)

  leads : Leads rules target steps
  leads = path_leads rules sound (suc target) target (omega arith) target_known refused (suc target) (holds_steady rules sound table column target ready.1)

  plain : AllByRecursion (λ (s : Step). is_none (kept_of rules s.table) ≡ true) steps
  plain = plain_steps rules (suc target) target (holds_steady rules sound table column target ready.1) steps leads

  lower_all : list_all (λ u. nat_lt u table) all_needs ≡ true
  lower_all =
      let each : AllByRecursion (λ (s : Step). list_all (λ u. nat_lt u table) (needs_of s) ≡ true) steps =
      each-map (λ (s : Step). s.table ≤ table) (λ (s : Step). list_all (λ u. nat_lt u table) (needs_of s) ≡ true)
      (λ s low. all_weaker (λ u. nat_lt u s.table) (λ u. nat_lt u table) (λ u h. lt-ltb u table (let l = ltb-true u s.table h in omega arith)) (needs_of s)
      (lower_but s.table s.column 0 (table_of rules s.table).columns (sound s.table).columns))
      steps (leads_low rules target table steps leads below) in
      all-append (λ u. nat_lt u table) (flat_map needs_of (reverse steps)) (needed_but (Some column) 0 (table_of rules table).columns)
      (flat_low (λ u. nat_lt u table) needs_of (reverse steps) ((permuted_on steps (reverse steps) (IsPermutation-reverse steps)).on (λ (s : Step). list_all (λ u. nat_lt u table) (needs_of s) ≡ true) each))
      (lower_but table (Some column) 0 (table_of rules table).columns (sound table).columns)

  grown : Grows rules samples [] shared table × (list_all (has_table shared) all_needs ≡ true)
  unfolding need
  grown = all_made rules samples (need rules table) table ready.0 (λ some u m k l. need_made rules samples table some u m k l) all_needs [] tt lower_all

  made : Made rules samples shared
  made = grown.0.made

  fresh : (u : ℕ) → table ≤ u → list_any (in_table u) (rows_of shared) ≡ false
  fresh u l = sym (table_counted rules samples shared u) ∙ grown.0.above u l

  shared_pass : AllPass rules shared
  shared_pass = made_passes rules samples shared made

  needs : AllByRecursion (λ (s : Step). list_all (has_table shared) (needs_of s) ≡ true) steps
  needs =
      (permuted_on (reverse steps) steps (IsPermutation-sym steps (reverse steps) (IsPermutation-reverse steps))).on (λ (s : Step). list_all (has_table shared) (needs_of s) ≡ true)
      (flat_each (has_table shared) needs_of (reverse steps) (all_parts (has_table shared) (flat_map needs_of (reverse steps)) (needed_but (Some column) 0 (table_of rules table).columns) grown.1).0)

  own_needs : list_all (has_table shared) (needed_but (Some column) 0 (table_of rules table).columns) ≡ true
  own_needs = (all_parts (has_table shared) (flat_map needs_of (reverse steps)) (needed_but (Some column) 0 (table_of rules table).columns) grown.1).1

  path : PathPasses rules sound samples shared made table ready.0 ready.2 fresh shared_pass target items
  path = path_passes rules sound samples shared made table ready.0 ready.2 fresh shared_pass target steps leads below needs plain

  abbrev to_target : ℕ × Action
  to_target = (target, action.Restrict)

  naming : IsNaming to_target (Some column) 0 (table_of rules table).columns
  naming = let z : 0 + column ≡ column = omega arith in subst (λ (k : ℕ). IsNaming to_target (Some k) 0 (table_of rules table).columns) z (naming_some to_target 0 column (table_of rules table).columns ready.1)

  -- where the table keeps the least row, the path's tables are lower, and no row of it stands in the base
  none_above : target < table → (ss : List Step) → AllByRecursion (λ (s : Step). s.table ≤ target) ss → list_any (in_table table) (rows_of (path_items rules shared ss)) ≡ false
  none_above less [] low = fresh table (omega arith)
  none_above less (s ∷ ss) low = or_from _ _ (ne_eqb s.table table (λ same. let l = low.0 in omega arith)) (none_above less ss low.1)

  own_new : is_new_in (kept_of rules table) (rows_of items) (row_of (suc (length items)) naming_row) ≡ true
  own_new =
      let steady = holds_steady rules sound table column target ready.1 in
      let b = below in
      let step : (o : Option ℕ) → kept_of rules table ≡ o → is_new_in o (rows_of items) (row_of (suc (length items)) naming_row) ≡ true = elim [
        | None ↦ λ is. refl
        | Some kept ↦ λ is.
            let apart : target ≡ table → ⊥ = λ same. both_ways _ (ap is_none is) (subst (λ (n : ℕ). is_none (kept_of rules n) ≡ true) same (steady_plain rules (suc target) target steady)) in
            alone_new (Some kept) (row_of (suc (length items)) naming_row) (rows_of items) (none_above (strictly_below target table b apart) steps (leads_low rules target target steps leads (omega arith)))
      ] in
      step (kept_of rules table) refl
    where
      strictly_below : (a b : ℕ) → a ≤ b → (a ≡ b → ⊥) → a < b
      strictly_below a b l apart = omega arith

  with_row : PathPasses rules sound samples shared made table ready.0 ready.2 fresh shared_pass table (naming_row ∷ items)
  with_row =
      path_more rules sound samples shared made table ready.0 ready.2 fresh shared_pass items path.pass path.low path.sub (let l = path.longer in omega arith) table (omega arith) (Some column) to_target naming own_needs
      (λ number e. path.there) (λ number e loose. absurd (cc)) own_new

  -- ---- the sides

  left_closed : IsClosed (left ∷ chain items)
  left_closed = chain_closed (naming_row ∷ items)

  right_closed : IsClosed (right ∷ chain items)
  right_closed = (record { new = ids_below items (suc (suc (length items))) (omega arith); preds = last_held items }, chain_closed items)

  both_closed : IsClosed (right ∷ left ∷ chain items)
  both_closed = (
    record {
      new = ids_below (naming_row ∷ items) (suc (suc (length items))) (omega arith);
      preds = all_weaker (holds (chain items)) (holds (left ∷ chain items)) (λ p h. or_right _ _ h) (last_of (length items)) (last_held items);
    },
    left_closed,
  )

  did : effects (judged rules (chain items)) ≡ record { inserted = rows_of items; deleted = [] }
  unfolding verdict_on effects judge_next judged
  did = chain_effects rules sound items path.pass

  end_there : (t : ℕ) (ss : List Step) → Leads rules t ss → list_any (λ row. same_row row.name (row_numbered last) && (table_of rules row.table).deletable) (rows_of (path_items rules shared ss)) ≡ true
  end_there t [] leads = absurd leads
  end_there t (s ∷ ss) leads =
      let step : (o : Option ℕ) → LeadsBy rules s.table (λ u. Leads rules u ss) ss o → list_any (λ row. same_row row.name (row_numbered last) && (table_of rules row.table).deletable) (rows_of (path_items rules shared (s ∷ ss))) ≡ true =
      elim [
        | None ↦ λ on.
            let is_end : suc (length (path_items rules shared ss)) ≡ last = ap (λ (l : List Step). suc (length (path_items rules shared l))) on.0 in
            or_left _ _ (and_from _ _ (ap (λ (n : ℕ). same_row (row_numbered n) (row_numbered last)) is_end ∙ same_row-refl (row_numbered last)) on.1)
        | Some c ↦ λ on. or_right _ _ (end_there on.0 ss on.3)
      ] in
      step s.column leads.1

  may_go : delete_reason rules (rows_of items) [] one_author (row_numbered last) ≡ None
  may_go =
      let child : list_any (λ row. list_any (λ r. is_restrict r.action && same_row r.name (row_numbered last)) (refs rules row)) (rows_of items) ≡ false =
      none_each (λ r. is_restrict r.action && same_row r.name (row_numbered last)) (refs rules) (rows_of items)
      (path_quiet rules sound samples shared made table ready.0 ready.2 fresh shared_pass target steps leads below needs) in
      λ i. first_reason ((6, not (end_there target steps leads i) || list_any (same_row (row_numbered last)) []) ∷ (7, own_all rules (row_numbered last) items i) ∷ (8, child i) ∷ [])

  abbrev without : Effects
  without = record { inserted = rows_of items; deleted = row_numbered last ∷ [] }

  right_valid : (judge_next rules (judged rules (chain items)) right).verdict ≡ verdict.Valid
  unfolding verdict_on effects judge_next judged
  right_valid =
      let js = judged rules (chain items) in
      let old : Effects = record { inserted = rows_of items; deleted = [] } in
      let founded : IsWellFounded rules old = subst (IsWellFounded rules) did (founded_closed rules (chain items) (chain_closed items)) in
      let past : effects (filter (λ j. ancestor_of js right j.node.id) js) ≡ old =
      ap effects (filter_all (λ j. ancestor_of js right j.node.id) js (all_before rules items (suc (suc (length items))) naming_row)) ∙ did in
      let before : visible_rows rules old ≡ rows_of items = all_visible rules sound old founded refl (items_new rules items path.pass) in
      let limits : limits_hold (visible_rows rules without) 0 rules.tables ≡ true =
      bare_limits rules table ready.2 (visible_rows rules without)
      (λ u above. false_from_ne_true _ (λ e. both_ways _ (path.low u above) ((Sub-filter (λ row. is_visible rules without row.name) (rows_of items)).more (in_table u) e))) in
      ap (λ (g : Effects). verdict_on rules g right) past
      ∙ (λ i. elim (delete_reason rules (before i) [] one_author (row_numbered last)) [
        | Some reason ↦ verdict.Void reason 0
        | None ↦ if limits_hold (visible_rows rules without) 0 rules.tables && true then verdict.Valid else verdict.Void 9 (0 + 1)
      ])
      ∙ (λ i. elim (may_go i) [
        | Some reason ↦ verdict.Void reason 0
        | None ↦ if limits_hold (visible_rows rules without) 0 rules.tables && true then verdict.Valid else verdict.Void 9 (0 + 1)
      ])
      ∙ (λ i. if limits i && true then verdict.Valid else verdict.Void 9 (0 + 1))

  right_did : effects (judged rules (right ∷ chain items)) ≡ without
  unfolding verdict_on effects judge_next judged
  right_did = λ i. cond (is_valid (right_valid i)) (joined (effects_of right) (did i)) (did i)

  left_did : effects (judged rules (left ∷ chain items)) ≡ record { inserted = rows_of (naming_row ∷ items); deleted = [] }
  unfolding verdict_on effects judge_next judged
  left_did = chain_effects rules sound (naming_row ∷ items) with_row.pass

  abbrev merged : Effects
  merged = record { inserted = rows_of (naming_row ∷ items); deleted = row_numbered last ∷ [] }

  both_did : effects (judged rules (right ∷ left ∷ chain items)) ≡ merged
  unfolding verdict_on effects judge_next judged
  both_did =
      let js = judged rules (chain items) in
      let absent : list_any (λ j. j.is_ancestor (numbered (suc (length items)))) js ≡ false =
      false_from_ne_true _ (λ e. both_ways _ (ids_below items (suc (length items)) (omega arith)) (ancestors_held rules (chain items) (chain_closed items) (numbered (suc (length items))) e)) in
      let alone : judge_next rules (judge_next rules js left ∷ js) right ≡ judge_next rules js right = unaffected rules (judge_next rules js left) js right (not_last (length items)) absent in
      let valid : (judge_next rules (judge_next rules js left ∷ js) right).verdict ≡ verdict.Valid = ap (λ (j : Judged). j.verdict) alone ∙ right_valid in
      λ i. cond (is_valid (valid i)) (joined (effects_of right) (left_did i)) (left_did i)

  abbrev claim : Claim
  claim = Refers table column target action.Restrict

  left_holds : claim_holds rules (shown_in rules (left ∷ chain items)) claim ≡ true
  unfolding verdict_on effects judge_next judged
  left_holds =
      let g : Effects = record { inserted = rows_of (naming_row ∷ items); deleted = [] } in
      let f : IsWellFounded rules g = subst (IsWellFounded rules) left_did (founded_closed rules (left ∷ chain items) left_closed) in
      ap (λ (e : Effects). claim_holds rules (shown_rows rules e) claim) left_did
      ∙ refers_holds rules sound g f table column target action.Restrict ready.1 (λ e s v name same k.
      let here = subst (λ (n : ℕ). reference_at (table_of rules n).columns column ≡ Some (target, action.Restrict)) (sym same) ready.1 in
      let there = named_stands rules sound g f e s column target action.Restrict name here k in
      named_shown rules sound g f target name there
      (any_each (λ row. is_visible rules g row.name ≡ true) (λ row. same_row row.name name && (row.table == target)) _
      (λ x px hx. subst (λ (n : RowName). is_visible rules g n ≡ true) (row_from_same x.name name (and_parts (same_row x.name name) _ hx).0) px)
      g.inserted (each_visible rules sound g f refl (items_new rules (naming_row ∷ items) with_row.pass)) there))

  -- rows of the table that stand in the base name nothing
  abbrev names_some : TableRow → Bool
  names_some row = in_table table row && is_row (value_at row.values column)

  null_here : (s : Step) (ss : List Step) → s.table ≤ target → (o : Option ℕ) → LeadsBy rules s.table (λ u. Leads rules u ss) ss o → (id n : ℕ) → names_some (row_of id (item_naming rules shared s.table o n)) ≡ false
  null_here s ss low o on id n =
      let step : (b : Bool) → (s.table == table) ≡ b → (b && is_row (value_at (row_of id (item_naming rules shared s.table o n)).values column)) ≡ false =
      elim [
        | true ↦ λ e.
            let same : s.table ≡ table = eqb-true s.table table e in
            let cs = (table_of rules s.table).columns in
            let sample = (table_of rules s.table).sample in
            let at_s : reference_at cs column ≡ Some to_target = subst (λ (t : ℕ). reference_at (table_of rules t).columns column ≡ Some to_target) (sym same) ready.1 in
            let col = column_at cs column to_target at_s in
            let known : nat_le (length rules.tables) s.table ≡ false = subst (λ (t : ℕ). nat_le (length rules.tables) t ≡ false) (sym same) ready.0 in
            let fit = (samples s.table known).fit in
            let own : target ≡ s.table = (let b = below in omega arith) in
            let kind_sound = subst (λ (k : ColumnKind). IsSoundKind s.table col.0.null k) (kind_of_target col.0.kind target action.Restrict col.1.1) (each_at (IsSoundColumn s.table) cs column col.0 (sound s.table).columns col.1.0) in
            let null : col.0.null ≡ true = null_own col.0.null target s.table own kind_sound.1 in
            let unskipped : is_skipped o (0 + column) ≡ false = skipped_not o on (0 + column) at_s in
            let at = but_at shared o (row_numbered n) to_target 0 cs sample column col.0 fit col.1.0 in
            let is_null : value_at (row_of id (item_naming rules shared s.table o n)).values column ≡ value.Null =
            ap (λ (vs : List Value). value_at vs column) (but_named shared o (row_numbered n) to_target (numbered id) 0 cs sample fit)
            ∙ at.1 ∙ (λ i. cond (unskipped i) (value.Row (row_numbered n)) (fill shared (null i) (col.1.1 i) at.0)) in
            ap is_row is_null
        | false ↦ λ e. refl
      ] in
      step (s.table == table) refl
    where
      null_own : (null : Bool) (a b : ℕ) → a ≡ b → (null || nat_lt a b) ≡ true → null ≡ true
      null_own true a b e h = refl
      null_own false a b e h = absurd (let l = ltb-true a b h in omega arith)

      cascade_restrict : (r : ℕ × Action) → r.1 ≡ action.Cascade → Some r ≡ Some to_target → ⊥
      cascade_restrict r c e = let same : r ≡ to_target = cc in let acts : action.Cascade ≡ action.Restrict = sym c ∙ ap (λ (x : ℕ × Action). x.1) same in cc

      skipped_not : (o : Option ℕ) → LeadsBy rules s.table (λ u. Leads rules u ss) ss o → (k : ℕ) → reference_at (table_of rules s.table).columns column ≡ Some to_target → is_skipped o (0 + column) ≡ false
      skipped_not None on k at = refl
      skipped_not (Some c) on k at =
          false_from_ne_true _ (λ e.
          let here : 0 + column ≡ c = eqb-true (0 + column) c e in
          let z : 0 + column ≡ column = omega arith in
          let one : ℕ × Action = (on.0, action.Cascade) in
          let clash : Some one ≡ Some to_target = sym on.2 ∙ ap (reference_at (table_of rules s.table).columns) (sym here ∙ z) ∙ at in
          cascade_restrict one refl clash)

  nameless : (t : ℕ) (ss : List Step) → Leads rules t ss → t ≤ target → list_any names_some (rows_of (path_items rules shared ss)) ≡ false
  nameless t [] leads l = absurd leads
  nameless t (s ∷ ss) leads l =
      let low : s.table ≤ target = subst (λ (n : ℕ). n ≤ target) (sym leads.0) l in
      let bare_shared : list_any names_some (rows_of shared) ≡ false =
      false_from_ne_true _ (λ e. both_ways _ (fresh table (omega arith)) (any_weaker names_some (in_table table) (λ x h. (and_parts (in_table table x) _ h).0) (rows_of shared) e)) in
      let older = path_items rules shared ss in
      let rest : (o : Option ℕ) → LeadsBy rules s.table (λ u. Leads rules u ss) ss o → list_any names_some (rows_of older) ≡ false =
      elim [
        | None ↦ λ on. ap (λ (l : List Step). list_any names_some (rows_of (path_items rules shared l))) on.0 ∙ bare_shared
        | Some c ↦ λ on. let less : on.0 < s.table = on.1 in nameless on.0 ss on.3 (omega arith)
      ] in
      or_from _ _ (null_here s ss low s.column leads.1 (suc (length older)) (length older)) (rest s.column leads.1)

  right_holds : claim_holds rules (shown_in rules (right ∷ chain items)) claim ≡ true
  unfolding verdict_on effects judge_next judged
  right_holds =
      let f : IsWellFounded rules without = subst (IsWellFounded rules) right_did (founded_closed rules (right ∷ chain items) right_closed) in
      ap (λ (e : Effects). claim_holds rules (shown_rows rules e) claim) right_did
      ∙ refers_holds rules sound without f table column target action.Restrict ready.1
      (λ e s v name same k. absurd (both_ways _ (nameless target steps leads (omega arith)) (s.here names_some (and_from _ _ (eq-eqb e.table table same) (ap is_row k)))))

  -- ---- together

  merged_founded : IsWellFounded rules merged
  merged_founded = subst (IsWellFounded rules) both_did (founded_closed rules (right ∷ left ∷ chain items) both_closed)

  target_hidden : is_visible rules merged (row_numbered (length items)) ≡ false
  target_hidden =
      path_goes rules sound samples shared made table ready.0 ready.2 fresh shared_pass merged merged_founded (or_left _ _ (same_row-refl (row_numbered last))) target steps leads below
      (each_stands rules merged.inserted merged_founded.founded).1

  not_end : (rows : List TableRow) → AllByRecursion (λ e. same_row e.name (row_numbered last) ≡ false) rows → AllByRecursion (λ e. is_deleted merged e.name ≡ false) rows
  not_end [] h = tt
  not_end (e ∷ rows) h = (or_from _ _ h.0 refl, not_end rows h.1)

  merged_ones : AllByRecursion (IsOne merged.inserted) merged.inserted
  merged_ones = ones_from rules merged.inserted merged_founded.founded

  merged_rest : are_resting rules merged.inserted ≡ true
  merged_rest = resting rules sound merged.inserted merged_founded.founded

  merged_free : AllByRecursion (IsFree rules merged.inserted) merged.inserted
  merged_free = free_each rules merged.inserted (items_new rules (naming_row ∷ items) with_row.pass)

  shared_visible : AllByRecursion (λ row. is_visible rules merged row.name ≡ true) (rows_of shared)
  shared_visible =
      stay_each rules merged merged_ones merged_rest (rows_of shared)
      (shared_founded rules sound samples shared made table ready.0 ready.2 fresh shared_pass steps merged_founded.founded.1)
      (shared_part rules sound samples shared made table ready.0 ready.2 fresh shared_pass (Stands rules merged.inserted) steps (each_stands rules merged.inserted merged_founded.founded).1)
      (not_end (rows_of shared) (names_below shared last (omega arith)))
      (shared_part rules sound samples shared made table ready.0 ready.2 fresh shared_pass (IsFree rules merged.inserted) steps merged_free.1)

  row_visible : is_visible rules merged (row_numbered (suc (length items))) ≡ true
  row_visible =
      let name = row_numbered (suc (length items)) in
      let row = row_of (suc (length items)) naming_row in
      let seen : RowName → Bool = is_visible rules merged in
      let tested : list_all (λ r. not (is_cascade r.action) || seen r.name) (refs rules row) ≡ true =
      naming_refs rules sound samples shared table ready.0 (Some column) (length items) to_target naming own_needs (λ r. not (is_cascade r.action) || seen r.name)
      (λ number e. refl)
      (λ u act has. or_right (not (is_cascade act)) _
      (any_each (λ x. is_visible rules merged x.name ≡ true) (λ x. same_row x.name (name_in shared u) && (x.table == u)) _
      (λ x px hx. subst (λ (n : RowName). is_visible rules merged n ≡ true) (row_from_same x.name (name_in shared u) (and_parts (same_row x.name (name_in shared u)) _ hx).0) px)
      (rows_of shared) shared_visible (name_stands shared u has)))
      (suc (length items)) in
      let kept : is_deleted merged name ≡ false = or_from _ _ (and_left _ (0 == 0) (apart (suc (length items)) last (λ e. let l = path.longer in omega arith))) refl in
      visible_from rules merged merged_ones merged_rest row merged_ones.0
      (and_from _ _ (filter_kept (λ r. is_cascade r.action) (λ r. seen r.name) (refs rules row) tested) (not_from_false _ kept)) (free_least rules merged seen row merged_free.0)

  both_fail : claim_holds rules (shown_in rules (right ∷ left ∷ chain items)) claim ≡ false
  unfolding verdict_on effects judge_next judged
  both_fail =
      let row = row_of (suc (length items)) naming_row in
      let cs = (table_of rules table).columns in
      let sample = (table_of rules table).sample in
      let col = column_at cs column to_target ready.1 in
      let fit = (samples table ready.0).fit in
      let at = but_at shared (Some column) (row_numbered (length items)) to_target 0 cs sample column col.0 fit col.1.0 in
      let z : 0 + column ≡ column = omega arith in
      let skipped : is_skipped (Some column) (0 + column) ≡ true = eq-eqb (0 + column) column z in
      let value_is : value_at row.values column ≡ value.Row (row_numbered (length items)) =
      ap (λ (vs : List Value). value_at vs column) (but_named shared (Some column) (row_numbered (length items)) to_target (numbered (suc (length items))) 0 cs sample fit)
      ∙ at.1 ∙ (λ i. cond (skipped i) (value.Row (row_numbered (length items))) (fill shared col.0.null (target_of col.0.kind) at.0)) in
      let shown_is : value_at (shown rules merged row).values column ≡ value.Row (row_numbered (length items)) =
      shown_at rules merged cs row.values column target action.Restrict ready.1 ∙ ap (shown_value rules merged (kind.Reference target action.Restrict)) value_is in
      let rest = filter (λ e. is_visible rules merged e.name) (rows_of items) in
      let all = shown_rows rules merged in
      let hidden : names_shown all target (value.Row (row_numbered (length items))) ≡ false =
      not_shown rules merged (row_numbered (length items)) (λ e. e.table == target) target_hidden merged.inserted in
      ap (λ (e : Effects). claim_holds rules (shown_rows rules e) claim) both_did
      ∙ (λ i. list_all (λ e. not (in_table table e) || names_shown all target (value_at e.values column)) (map (shown rules merged) (cond (row_visible i) (row ∷ rest) rest)))
      ∙ and_left (not (in_table table row) || names_shown all target (value_at (shown rules merged row).values column)) _
      (or_from _ _ (not_from_true _ (eq-eqb table table refl)) (ap (names_shown all target) shown_is ∙ hidden))

  pub restrict_breaks : (earlier : List Claim) → AllByRecursion (λ i. IsDeclared rules i × (accepts rules i ≡ true)) earlier → breaks rules earlier claim (chain items) (left ∷ []) (right ∷ []) ≡ true
  restrict_breaks earlier ok =
      and_from _ _ (and_from _ _ (and_from _ _ (and_from _ _ (and_from _ _
      (test_from_closed (left ∷ chain items) left_closed) (test_from_closed (right ∷ chain items) right_closed)) (test_from_closed (right ∷ left ∷ chain items) both_closed))
      (all_accepted rules sound (left ∷ chain items) left_closed earlier claim ok left_holds))
      (all_accepted rules sound (right ∷ chain items) right_closed earlier claim ok right_holds))
      (not_from_false _ both_fail)
