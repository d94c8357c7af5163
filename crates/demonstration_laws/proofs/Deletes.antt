-- An update that deletes a list, by the tables of a demonstration, is valid where the list is there.
use Rattle.std.proofs.Common.{◌≡◌, ℕ, zero, suc, Bool, true, false, not, ◌&&◌, ◌||◌, List, [], ◌∷◌, length, Option, None, Some, refl, sym, ap, ◌∙◌, arith}
use Rattle.std.specs.List.{list_all, list_any}
use Rattle.std.proofs.lemmas.Bool.{and_from, and_left, and_parts, or_from}
use Rattle.std.proofs.lemmas.List.Folds.{list_any-append}
use Rattle.update_model.specs.declared.author_key.AuthorKey.{AuthorKey}
use Rattle.update_model.specs.declared.op.Op.TheVariants.{Delete}
use Rattle.update_model.specs.declared.row_name.RowName.{RowName}
use Rattle.update_model.specs.declared.value.Value.{Value}
use Rattle.update_model.specs.declared.value.Value.TheVariants as value
use Rattle.update_model.specs.Node.{NodeData}
use Rattle.schema.specs.Columns.{is_restrict, target_of}
use Rattle.schema.specs.declared.action.Action.{Action}
use Rattle.schema.specs.declared.column.Column.{Column}
use Rattle.schema.specs.declared.column.ColumnKind.{ColumnKind}
use Rattle.schema.specs.declared.table_def.TableDef.{TableDef}
use Rattle.schema.specs.Numbers.{no_table}
use Rattle.table_model.specs.declared.reason.TheConstants.{NOT_DELETABLE, NOT_OWNER, RESTRICTED}
use Rattle.table_model.specs.declared.verdict.Verdict.TheVariants.{Valid, Void}
use Rattle.table_model.specs.Verdicts.{delete_reason, first_reason, nothing, same_author, verdict_after}
use Rattle.table_model.specs.Visible.{Effects, RowRef, TableRow, is_candidate, is_deleted, is_least, is_visible, ref_in, ref_to, refs, refs_in, same_row, shows, table_of, visible_rows, visible_to}
use Rattle.table_model.proofs.Members.{any_of_kept}
use Rattle.table_model.proofs.Standing.{same_row-refl}
use Rattle.demonstration_laws.specs.Tables.{list_table, task_table}
use Rattle.demonstration_laws.proofs.Inserts.{demo, ends, list_row}

none_of : {X : Type 0} (p : X → Bool) → ((x : X) → p x ≡ false) → (xs : List X) → list_any p xs ≡ false
none_of p none [] = refl
none_of p none (x ∷ xs) = or_from _ _ (none x) (none_of p none xs)

-- ---- no RESTRICT

-- whether a column lets the row go that it refers to
abbrev lets_go : Option (ℕ × Action) → Bool
lets_go None = true
lets_go (Some target) = not (is_restrict target.1)

module _ (name : RowName) where
  abbrev holds_back : RowRef → Bool
  holds_back r = is_restrict r.action && same_row r.name name

  let_go : (row : RowName) (target : Option (ℕ × Action)) → lets_go target ≡ true → list_any holds_back (ref_to row target) ≡ false
  let_go row None free = refl
  let_go row (Some target) free = or_from _ _ (and_left (is_restrict target.1) (same_row row name) (not_from_true (is_restrict target.1) free)) refl
    where
      not_from_true : (b : Bool) → not b ≡ true → b ≡ false
      not_from_true true e = sym e
      not_from_true false e = refl

  one_free : (kind : ColumnKind) (v : Value) → lets_go (target_of kind) ≡ true → list_any holds_back (ref_in kind v) ≡ false
  one_free kind (value.Row row) free = let_go row (target_of kind) free
  one_free kind value.Null free = refl
  one_free kind (value.Int n) free = refl
  one_free kind (value.Text bytes) free = refl
  one_free kind (value.Flag flag) free = refl
  one_free kind (value.Own index) free = refl

  all_free : (columns : List Column) → list_all (λ column. lets_go (target_of column.kind)) columns ≡ true → (values : List Value) → list_any holds_back (refs_in columns values) ≡ false
  all_free [] free values = refl
  all_free (column ∷ columns) free [] = refl
  all_free (column ∷ columns) free (v ∷ values) =
      let parts = and_parts (lets_go (target_of column.kind)) _ free in
      list_any-append holds_back (ref_in column.kind v) (refs_in columns values) ∙ or_from _ _ (one_free column.kind v parts.0) (all_free columns parts.1 values)

-- ---- the tables

module _ (ask : ℕ → List Value → Bool) where
  each_table : (P : TableDef → Type 0) → P list_table → P task_table → P no_table → (number : ℕ) → P (table_of (demo ask) number)
  each_table P list task none zero = list
  each_table P list task none (suc zero) = task
  each_table P list task none (suc (suc number)) = none

  owned_by_none : (number : ℕ) → (table_of (demo ask) number).owned ≡ false
  owned_by_none = each_table (λ table. table.owned ≡ false) refl refl refl

  restricts_none : (name : RowName) (row : TableRow) → list_any (holds_back name) (refs (demo ask) row) ≡ false
  restricts_none name row = all_free name (table_of (demo ask) row.table).columns
      (each_table (λ table. list_all (λ column. lets_go (target_of column.kind)) table.columns ≡ true) refl refl refl row.table) row.values

  -- ---- the update

  -- a row of a table that is deletable may be deleted
  may_go : (rows : List TableRow) (author : AuthorKey) (name : RowName) → list_any (λ row. same_row row.name name && (table_of (demo ask) row.table).deletable) rows ≡ true
      → delete_reason (demo ask) rows [] author name ≡ None
  may_go rows author name there =
      let owner : list_any (λ row. same_row row.name name && (table_of (demo ask) row.table).owned && not (same_author row.author author)) rows ≡ false =
      none_of (λ row. same_row row.name name && (table_of (demo ask) row.table).owned && not (same_author row.author author))
      (λ row. not_owned (same_row row.name name) (table_of (demo ask) row.table).owned (not (same_author row.author author)) (owned_by_none row.table)) rows in
      let free : list_any (λ row. list_any (λ r. is_restrict r.action && same_row r.name name) (refs (demo ask) row)) rows ≡ false =
      none_of (λ row. list_any (λ r. is_restrict r.action && same_row r.name name) (refs (demo ask) row)) (λ row. restricts_none name row) rows in
      λ i. first_reason ((NOT_DELETABLE, not (there i) || false) ∷ (NOT_OWNER, owner i) ∷ (RESTRICTED, free i) ∷ [])
    where
      not_owned : (a b c : Bool) → b ≡ false → (a && b && c) ≡ false
      not_owned true b c e = λ i. e i && c
      not_owned false b c e = refl

  pub delete_valid : (past : Effects) (rows : List TableRow) (node : NodeData) (name : RowName)
      → list_any (λ row. same_row row.name name && (table_of (demo ask) row.table).deletable) rows ≡ true → verdict_after (demo ask) past rows node 0 nothing (Delete name ∷ []) ≡ Valid
  delete_valid past rows node name there =
      ap (λ (o : Option ℕ). elim o [
        | Some reason ↦ Void reason 0
        | None ↦ verdict_after (demo ask) past rows node 1 (record { inserted = []; deleted = name ∷ [] }) []
      ]) (may_go rows node.author name there)
      ∙ ends ask past rows node 1 (record { inserted = []; deleted = name ∷ [] })

  -- ---- a list that is there

  module _ (past : Effects) (node : NodeData) (title : List ℕ) where
    abbrev row : TableRow
    row = list_row node title

    module _ (here : (p : TableRow → Bool) → p row ≡ true → list_any p past.inserted ≡ true) (kept : is_deleted past row.name ≡ false) where
      list_shows : (seen : RowName → Bool) → shows (demo ask) past seen row.name ≡ true
      list_shows seen = here (λ other. same_row other.name row.name && (is_candidate (demo ask) past seen other && is_least (demo ask) past seen other))
          (and_from _ _ (same_row-refl row.name) (and_from _ _ (ap not kept) refl))

      seen_so_deep : (depth : ℕ) → length past.inserted ≡ depth → visible_to (demo ask) past depth row.name ≡ true
      unfolding visible_to
      seen_so_deep zero none = absurd (nowhere past.inserted (here (λ other. true) refl) none)
        where
          nowhere : (rows : List TableRow) → list_any (λ other. true) rows ≡ true → length rows ≡ 0 → ⊥
          nowhere [] some none = cc
          nowhere (other ∷ rows) some none = omega arith
      seen_so_deep (suc depth) some = list_shows (visible_to (demo ask) past depth)

      list_visible : is_visible (demo ask) past row.name ≡ true
      list_visible = seen_so_deep (length past.inserted) refl

      pub may_delete : list_any (λ other. same_row other.name row.name && (table_of (demo ask) other.table).deletable) (visible_rows (demo ask) past) ≡ true
      may_delete =
          let test = λ (other : TableRow). same_row other.name row.name && (table_of (demo ask) other.table).deletable in
          any_of_kept test (λ other. is_visible (demo ask) past other.name) past.inserted
          ∙ here (λ other. is_visible (demo ask) past other.name && test other) (and_from _ _ list_visible (and_from _ _ (same_row-refl row.name) refl))
