-- An update that inserts a list and two tasks in it, by the tables of a demonstration, is valid.
use Rattle.std.proofs.Common.{◌≡◌, ℕ, zero, suc, pos, ltb, ◌+◌, ◌<◌, ◌≤◌, ◌==◌, Bool, true, false, cond, not, ◌&&◌, List, [], ◌∷◌, ◌++◌, length, nat_le, Option, None, Some, refl, ap, ◌∙◌, arith}
use Rattle.std.specs.List.{list_all, list_any}
use Rattle.std.specs.Ordering.{int_cmp, is_le, is_lt}
use Rattle.std.specs.declared.cmp.Ordering.TheVariants.{Greater, Equal, Less}
use Rattle.std.proofs.lemmas.Bool.{and_from, le-leb, lt-ltb, or_left, or_right}
use Rattle.update_model.specs.declared.op.Op.{Op}
use Rattle.update_model.specs.declared.op.Op.TheVariants.{Insert}
use Rattle.update_model.specs.declared.row_name.RowName.{RowName}
use Rattle.update_model.specs.declared.value.Value.{Value}
use Rattle.update_model.specs.declared.value.Value.TheVariants.{Int, Null, Own, Row, Text}
use Rattle.update_model.specs.Node.{NodeData}
use Rattle.row_check.specs.declared.cmp.Cmp.TheVariants.{Le}
use Rattle.row_check.specs.Comparisons.{compares}
use Rattle.row_check.specs.Meaning.{value_at}
use Rattle.schema.specs.Checks.{checks_hold}
use Rattle.schema.specs.Columns.{all_fit}
use Rattle.table_model.specs.declared.reason.TheConstants.{NO_TABLE, MISFIT, CHECK_FALSE, NO_TARGET, MATCH_FALSE, LIMIT_BROKEN}
use Rattle.table_model.specs.declared.verdict.Verdict.TheVariants.{Valid, Void}
use Rattle.table_model.specs.Verdicts.{are_new, first_reason, insert_reason, is_new_in, joined, left_of, matches_hold, nothing, row_inserted, stands_among, verdict_after}
use Rattle.table_model.specs.Visible.{Effects, Rules, TableRow, kept_of, refs, rules_with, same_row, table_of, visible_rows}
use Rattle.table_model.proofs.Standing.{same_row-refl}
use Rattle.table_model.proofs.Unlimited.{unlimited_holds}
use Rattle.demonstration_laws.specs.Plans.{list_insert, task_insert}
use Rattle.demonstration_laws.specs.Tables.{demo_tables, list_columns, task_columns, task_table}

-- ---- operation by operation

-- a row that passes each test may be inserted
passes : (rules : Rules) (beside : List TableRow) (row : TableRow) → nat_le (length rules.tables) row.table ≡ false → all_fit (table_of rules row.table).columns row.values ≡ true
    → checks_hold rules.ask row.values (table_of rules row.table).checks ≡ true → list_all (stands_among beside) (refs rules row) ≡ true
    → matches_hold beside row.values (table_of rules row.table).matches ≡ true → insert_reason rules beside row ≡ None
passes rules beside row known fits checked referred matched = λ i. first_reason (
    (NO_TABLE, known i) ∷ (MISFIT, not (fits i)) ∷ (CHECK_FALSE, not (checked i)) ∷ (NO_TARGET, not (referred i)) ∷ (MATCH_FALSE, not (matched i)) ∷ [])

-- the verdict goes on behind it
goes_on : (rules : Rules) (past : Effects) (rows : List TableRow) (node : NodeData) (number : ℕ) (did : Effects) (table : ℕ) (values : List Value) (ops : List Op)
    → insert_reason rules (did.inserted ++ rows) (row_inserted node number table values) ≡ None
    → verdict_after rules past rows node number did (Insert table values ∷ ops)
    ≡ verdict_after rules past rows node (number + 1) (record did { inserted = row_inserted node number table values ∷ did.inserted }) ops
goes_on rules past rows node number did table values ops none =
    ap (λ (o : Option ℕ). elim o [
      | Some reason ↦ Void reason number
      | None ↦ verdict_after rules past rows node (number + 1) (record did { inserted = row_inserted node number table values ∷ did.inserted }) ops
    ]) none

-- ---- no limits

module _ (ask : ℕ → List Value → Bool) where
  -- the tables of a demonstration
  abbrev pub demo : Rules
  demo = rules_with ask demo_tables

  pub none_kept : (table : ℕ) → kept_of demo table ≡ None
  none_kept zero = refl
  none_kept (suc zero) = refl
  none_kept (suc (suc table)) = refl

  all_new : (beside rows : List TableRow) → are_new demo beside rows ≡ true
  all_new beside [] = refl
  all_new beside (row ∷ older) = and_from _ _ (ap (λ kept. is_new_in kept (older ++ beside) row) (none_kept row.table)) (all_new beside older)

  -- behind the last operation nothing is broken
  pub ends : (past : Effects) (rows : List TableRow) (node : NodeData) (number : ℕ) (did : Effects) → verdict_after demo past rows node number did [] ≡ Valid
  ends past rows node number did =
      ap (λ b. cond b Valid (Void LIMIT_BROKEN number)) (and_from _ _ (unlimited_holds (visible_rows demo (joined did past)) 0 demo_tables refl) (all_new (left_of rows did.deleted) did.inserted))

-- ---- values

lesser : (a b : ℕ) → a < b → int_cmp (pos a) (pos b) ≡ Less
lesser a b low = ap (λ t. cond t Less (cond (ltb b a) Greater Equal)) (lt-ltb a b low)

text_fits : (lo hi : ℕ) (text : List ℕ) → lo ≤ length text → length text ≤ hi → (nat_le lo (length text) && nat_le (length text) hi) ≡ true
text_fits lo hi text some few = and_from _ _ (le-leb lo (length text) some) (le-leb (length text) hi few)

list_fits : (title : List ℕ) → 1 ≤ length title → length title ≤ 40 → all_fit list_columns (Text title ∷ Int (pos 9) ∷ []) ≡ true
list_fits title some few = and_from _ _ (text_fits 1 40 title some few) refl

module _ (title : List ℕ) (prio : ℕ) (name : RowName) (low : prio < 9) where
  abbrev task_values : List Value
  task_values = Text title ∷ Int (pos prio) ∷ Null ∷ Row name ∷ Null ∷ []

  task_fits : 1 ≤ length title → length title ≤ 1024 → all_fit task_columns task_values ≡ true
  task_fits some few = and_from _ _ (text_fits 1 1024 title some few) (and_from _ _ (and_from _ _ (le-leb 0 prio (omega arith)) (le-leb prio 9 (omega arith))) refl)

  task_checked : (ask : ℕ → List Value → Bool) → checks_hold ask task_values task_table.checks ≡ true
  task_checked ask = and_from _ _ (or_left _ _ (ap is_lt (lesser prio 9 low))) refl

-- ---- the update

-- the row of a list, which the update inserts first
abbrev pub list_row : NodeData → List ℕ → TableRow
list_row node title = row_inserted node 0 0 (Text title ∷ Int (pos 9) ∷ [])

module _ (ask : ℕ → List Value → Bool) (node : NodeData) where
  list_passes : (beside : List TableRow) (title : List ℕ) → 1 ≤ length title → length title ≤ 40 → insert_reason (demo ask) beside (list_row node title) ≡ None
  list_passes beside title some few = passes (demo ask) beside (list_row node title) refl (list_fits title some few) refl refl refl

  -- where the list of a task is among these rows, the task may be inserted beside them
  task_passes : (beside : List TableRow) (list : List ℕ) → ((p : TableRow → Bool) → p (list_row node list) ≡ true → list_any p beside ≡ true)
      → (number : ℕ) (title : List ℕ) (prio : ℕ) → 1 ≤ length title → length title ≤ 1024 → prio < 9
      → insert_reason (demo ask) beside (row_inserted node number 1 (Text title ∷ Int (pos prio) ∷ Null ∷ Own 0 ∷ Null ∷ [])) ≡ None
  task_passes beside list here number title prio some few low =
      let name : RowName = record { update = node.id; index = 0 } in
      let own = same_row-refl name in
      let less : compares Le (Int (pos prio)) (Int (pos 9)) ≡ true = ap is_le (lesser prio 9 low) in
      passes (demo ask) beside (row_inserted node number 1 (Text title ∷ Int (pos prio) ∷ Null ∷ Own 0 ∷ Null ∷ [])) refl (task_fits title prio name low some few) (task_checked title prio name low ask)
      (and_from _ _ (here (λ row. same_row row.name name && (row.table == 0)) (and_from _ _ own refl)) refl)
      (and_from _ _ (here (λ row. same_row row.name name && compares Le (Int (pos prio)) (value_at row.values 1)) (and_from _ _ own less)) refl)

  -- a list and two tasks in it
  pub inserts_valid : (past : Effects) (rows : List TableRow) (list first second : List ℕ) (p q : ℕ) → 1 ≤ length list → length list ≤ 40
      → 1 ≤ length first → length first ≤ 1024 → 1 ≤ length second → length second ≤ 1024 → p < 9 → q < 9
      → verdict_after (demo ask) past rows node 0 nothing (list_insert list ∷ task_insert first p ∷ task_insert second q ∷ []) ≡ Valid
  inserts_valid past rows list first second p q list_some list_few first_some first_few second_some second_few p_low q_low =
      let one = list_row node list in
      let two = row_inserted node 1 1 (Text first ∷ Int (pos p) ∷ Null ∷ Own 0 ∷ Null ∷ []) in
      let three = row_inserted node 2 1 (Text second ∷ Int (pos q) ∷ Null ∷ Own 0 ∷ Null ∷ []) in
      goes_on (demo ask) past rows node 0 nothing 0 (Text list ∷ Int (pos 9) ∷ []) (task_insert first p ∷ task_insert second q ∷ []) (list_passes rows list list_some list_few)
      ∙ goes_on (demo ask) past rows node 1 (record { inserted = one ∷ []; deleted = [] }) 1 (Text first ∷ Int (pos p) ∷ Null ∷ Own 0 ∷ Null ∷ []) (task_insert second q ∷ [])
      (task_passes (one ∷ rows) list (λ t h. or_left _ _ h) 1 first p first_some first_few p_low)
      ∙ goes_on (demo ask) past rows node 2 (record { inserted = two ∷ one ∷ []; deleted = [] }) 1 (Text second ∷ Int (pos q) ∷ Null ∷ Own 0 ∷ Null ∷ []) []
      (task_passes (two ∷ one ∷ rows) list (λ t h. or_right (t two) _ (or_left _ _ h)) 2 second q second_some second_few q_low)
      ∙ ends ask past rows node 3 (record { inserted = three ∷ two ∷ one ∷ []; deleted = [] })
