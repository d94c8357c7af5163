-- What is computed of a set does not depend on the order of its list.
use Rattle.std.proofs.Common.{◌≡◌, ℕ, ◌+◌, ◌==◌, zero, suc, true, false, cond, not, ◌&&◌, ◌||◌, List, [], ◌∷◌, length, map, filter, refl, sym, ap, ap₂, ◌∙◌, arith, nat_le, count_by, Option, Bool, Some, None, if◌then◌else◌}
use Rattle.std.specs.List.{list_any, list_all}
use Rattle.update_model.specs.declared.author_key.AuthorKey.{AuthorKey}
use Rattle.update_model.specs.declared.op.Op.{Op}
use Rattle.update_model.specs.declared.op.Op.TheVariants.{Insert, Delete}
use Rattle.update_model.specs.declared.row_name.RowName.{RowName}
use Rattle.update_model.specs.declared.update_id.UpdateId.{UpdateId}
use Rattle.update_model.specs.declared.value.Value.{Value}
use Rattle.update_model.specs.declared.value.Value.TheVariants as value
use Rattle.update_model.specs.Graph.{has}
use Rattle.update_model.specs.Node.{NodeData}
use Rattle.row_check.specs.declared.cmp.Cmp.TheVariants as cmp
use Rattle.row_check.specs.Comparisons.{compares}
use Rattle.row_check.specs.Meaning.{value_at}
use Rattle.schema.specs.declared.column.Column.{Column}
use Rattle.schema.specs.declared.column.ColumnKind.{ColumnKind}
use Rattle.schema.specs.declared.rules.MatchRule.{MatchRule}
use Rattle.schema.specs.declared.table_def.TableDef.{TableDef}
use Rattle.table_model.specs.declared.verdict.Verdict.TheVariants as verdict
use Rattle.schema.specs.Columns.{target_of, is_restrict, all_fit}
use Rattle.table_model.specs.Visible.{Rules, TableRow, same_row, table_of, Effects, refs, cascade_refs, kept_of, is_candidate, goes_before, is_least_in, is_least, visible_to, is_visible, visible_rows, is_nulled, shown, shown_rows, shown_value, shown_values}
use Rattle.table_model.specs.Verdicts.{is_valid, verdict_after, verdict_on, insert_reason, delete_reason, matches_among, limits_hold, keeps_least, is_new_in, are_new, unique_holds, in_table, joined, nothing, effects_of, effects, Judged, ancestor_of, judge_next, row_inserted, first_reason, same_author, judged}
use Rattle.schema.specs.Checks.{checks_hold}
use Rattle.table_model.proofs.Alike.{weight, weight-append, Alike, Alike-refl, Alike-append, Alike-filter, Alike-map, Alike-same, Alike-trans, same_any, same_all, same_count, same_length, filter-each}

pub record AlikeEffects (g h : Effects) : Type 0 where
  pub inserted : Alike g.inserted h.inserted
  pub deleted : Alike g.deleted h.deleted

module _ (rules : Rules) where
  same_candidate : {g h : Effects} → AlikeEffects g h → (s t : RowName → Bool) → ((name : RowName) → s name ≡ t name) → (row : TableRow) → is_candidate rules g s row ≡ is_candidate rules h t row
  same_candidate a s t e row = λ i. list_all (λ r. e r.name i) (cascade_refs rules row) && not (same_any (same_row row.name) a.deleted i)

  same_least : {g h : Effects} → AlikeEffects g h → (s t : RowName → Bool) → ((name : RowName) → s name ≡ t name) → (row : TableRow) (o : Option ℕ) → is_least_in rules g s row o ≡ is_least_in rules h t row o
  same_least a s t e row None = refl
  same_least {g} {h} a s t e row (Some column) =
      (λ i. not (list_any (λ other. goes_before column row other && same_candidate a s t e other i) g.inserted))
      ∙ ap not (same_any (λ other. goes_before column row other && is_candidate rules h t other) a.inserted)

  pub same_visible_to : {g h : Effects} → AlikeEffects g h → (depth : ℕ) (name : RowName) → visible_to rules g depth name ≡ visible_to rules h depth name
  unfolding visible_to
  same_visible_to a zero name = refl
  same_visible_to {g} {h} a (suc depth) name =
      (λ i. list_any (λ row. same_row row.name name && (same_candidate a (visible_to rules g depth) (visible_to rules h depth) (same_visible_to a depth) row i
      && same_least a (visible_to rules g depth) (visible_to rules h depth) (same_visible_to a depth) row (kept_of rules row.table) i)) g.inserted)
      ∙ same_any (λ row. same_row row.name name && (is_candidate rules h (visible_to rules h depth) row && is_least rules h (visible_to rules h depth) row)) a.inserted

  pub same_visible : {g h : Effects} → AlikeEffects g h → (name : RowName) → is_visible rules g name ≡ is_visible rules h name
  unfolding visible_to
  same_visible {g} {h} a name = ap (λ n. visible_to rules g n name) (same_length a.inserted) ∙ same_visible_to a (length h.inserted) name

  pub same_rows : {g h : Effects} → AlikeEffects g h → Alike (visible_rows rules g) (visible_rows rules h)
  same_rows {g} {h} a = Alike-trans (Alike-same (filter-each _ _ g.inserted (λ row. same_visible a row.name))) (Alike-filter (λ row. is_visible rules h row.name) a.inserted)

  same_shown_value : {g h : Effects} → AlikeEffects g h → (kind : ColumnKind) (v : Value) → shown_value rules g kind v ≡ shown_value rules h kind v
  same_shown_value a kind (value.Row name) = ap (λ b. if is_nulled (target_of kind) && not b then value.Null else value.Row name) (same_visible a name)
  same_shown_value a kind value.Null = refl
  same_shown_value a kind (value.Int n) = refl
  same_shown_value a kind (value.Text bytes) = refl
  same_shown_value a kind (value.Flag flag) = refl
  same_shown_value a kind (value.Own index) = refl

  pub same_shown_values : {g h : Effects} → AlikeEffects g h → (cs : List Column) (vs : List Value) → shown_values rules g cs vs ≡ shown_values rules h cs vs
  same_shown_values a [] vs = refl
  same_shown_values a (c ∷ cs) [] = refl
  same_shown_values a (c ∷ cs) (v ∷ vs) = ap₂ (λ x xs. x ∷ xs) (same_shown_value a c.kind v) (same_shown_values a cs vs)

  -- the tables depend on the set alone
  pub same_shown : {g h : Effects} → AlikeEffects g h → Alike (shown_rows rules g) (shown_rows rules h)
  same_shown {g} {h} a =
      Alike-trans (Alike-same (λ i. map {A = TableRow} {B = TableRow} (λ row. record row { values = same_shown_values a (table_of rules row.table).columns row.values i }) (visible_rows rules g)))
      (Alike-map (shown rules h) (same_rows a))

  pub same_match : {b c : List TableRow} → Alike b c → (values : List Value) (m : MatchRule) (v : Value) → matches_among b values m v ≡ matches_among c values m v
  same_match a values m (value.Row name) = same_any _ a
  same_match a values m value.Null = refl
  same_match a values m (value.Int n) = refl
  same_match a values m (value.Text bytes) = refl
  same_match a values m (value.Flag flag) = refl
  same_match a values m (value.Own index) = refl

  pub same_insert_reason : {b c : List TableRow} → Alike b c → (row : TableRow) → insert_reason rules b row ≡ insert_reason rules c row
  same_insert_reason a row = λ i.
      first_reason (
      (1, nat_le (length rules.tables) row.table)
      ∷ (2, not (all_fit (table_of rules row.table).columns row.values))
      ∷ (3, not (checks_hold rules.ask row.values (table_of rules row.table).checks))
      ∷ (4, not (list_all (λ r. same_any (λ e. same_row e.name r.name && (e.table == r.target)) a i) (refs rules row)))
      ∷ (5, not (list_all (λ m. same_match a row.values m (value_at row.values m.reference) i) (table_of rules row.table).matches))
      ∷ [])

  pub same_delete_reason : {b c : List TableRow} → Alike b c → (dropped : List RowName) (author : AuthorKey) (name : RowName) → delete_reason rules b dropped author name ≡ delete_reason rules c dropped author name
  same_delete_reason a dropped author name = λ i.
      first_reason (
      (6, not (same_any (λ row. same_row row.name name && (table_of rules row.table).deletable) a i) || list_any (same_row name) dropped)
      ∷ (7, same_any (λ row. same_row row.name name && (table_of rules row.table).owned && not (same_author row.author author)) a i)
      ∷ (8, same_any (λ row. list_any (λ r. is_restrict r.action && same_row r.name name) (refs rules row)) a i)
      ∷ [])

  pub same_unique : {b c : List TableRow} → Alike b c → (t col : ℕ) → unique_holds b t col ≡ unique_holds c t col
  same_unique {b} {c} a t col =
      (λ i. list_all (λ x. not (in_table t x) || nat_le (same_count (λ y. in_table t y && compares cmp.Eq (value_at x.values col) (value_at y.values col)) a i) 1) b)
      ∙ same_all (λ x. not (in_table t x) || nat_le (count_by (λ y. in_table t y && compares cmp.Eq (value_at x.values col) (value_at y.values col)) c) 1) a

  same_limits : {b c : List TableRow} → Alike b c → (t : ℕ) (tables : List TableDef) → limits_hold b t tables ≡ limits_hold c t tables
  same_limits a t [] = refl
  same_limits a t (table ∷ tables) = λ i.
      list_all (λ rule. keeps_least table.kept rule.column || same_unique a t rule.column i) table.uniques
      && ((table.at_most == 0) || nat_le (same_count (in_table t) a i) table.at_most)
      && same_limits a (t + 1) tables i

  same_new_in : {b c : List TableRow} → Alike b c → (o : Option ℕ) (row : TableRow) → is_new_in o b row ≡ is_new_in o c row
  same_new_in a None row = refl
  same_new_in a (Some column) row = ap not (same_any (λ other. in_table row.table other && compares cmp.Eq (value_at row.values column) (value_at other.values column)) a)

  same_new : {b c : List TableRow} → Alike b c → (rows : List TableRow) → are_new rules b rows ≡ are_new rules c rows
  same_new a [] = refl
  same_new a (row ∷ older) = λ i. same_new_in (Alike-append (Alike-refl older) a) (kept_of rules row.table) row i && same_new a older i

  joined-alike : (did : Effects) {g h : Effects} → AlikeEffects g h → AlikeEffects (joined did g) (joined did h)
  joined-alike did a = record { inserted = Alike-append (Alike-refl did.inserted) a.inserted; deleted = Alike-append (Alike-refl did.deleted) a.deleted }

  same_verdict : {g h : Effects} {b c : List TableRow} → AlikeEffects g h → Alike b c → (node : NodeData) (k : ℕ) (did : Effects) (ops : List Op)
      → verdict_after rules g b node k did ops ≡ verdict_after rules h c node k did ops
  same_verdict a r node k did [] =
      ap₂ (λ x y. if x && y then verdict.Valid else verdict.Void 9 k) (same_limits (same_rows (joined-alike did a)) 0 rules.tables)
      (same_new (Alike-filter (λ row. not (list_any (same_row row.name) did.deleted)) r) did.inserted)
  same_verdict a r node k did (Insert t values ∷ ops) = λ i.
      elim (same_insert_reason (Alike-append (Alike-refl did.inserted) r) (row_inserted node k t values) i) [
        | Some reason ↦ verdict.Void reason k
        | None ↦ same_verdict a r node (k + 1) (record did { inserted = row_inserted node k t values ∷ did.inserted }) ops i
      ]
  same_verdict a r node k did (Delete name ∷ ops) = λ i.
      elim (same_delete_reason r did.deleted node.author name i) [
        | Some reason ↦ verdict.Void reason k
        | None ↦ same_verdict a r node (k + 1) (record did { deleted = name ∷ did.deleted }) ops i
      ]

  pub same_verdict_on : {g h : Effects} → AlikeEffects g h → (node : NodeData) → verdict_on rules g node ≡ verdict_on rules h node
  unfolding verdict_on effects judge_next judged
  same_verdict_on a node = same_verdict a (same_rows a) node 0 nothing node.ops

weight-inserted : (w : TableRow → ℕ) (js : List Judged) → weight w (effects js).inserted ≡ weight (λ j. cond (is_valid j.verdict) (weight w (effects_of j.node).inserted) 0) js
unfolding verdict_on effects judge_next judged
weight-inserted w [] = refl
weight-inserted w (j ∷ js) =
    elim (is_valid j.verdict) as (λ b. weight w (cond b (joined (effects_of j.node) (effects js)) (effects js)).inserted ≡ cond b (weight w (effects_of j.node).inserted) 0 + weight (λ j. cond (is_valid j.verdict) (weight w (effects_of j.node).inserted) 0) js) [
      | true ↦ weight-append w (effects_of j.node).inserted (effects js).inserted ∙ ap (λ n. weight w (effects_of j.node).inserted + n) (weight-inserted w js)
      | false ↦ weight-inserted w js ∙ omega arith
    ]

weight-deleted : (w : RowName → ℕ) (js : List Judged) → weight w (effects js).deleted ≡ weight (λ j. cond (is_valid j.verdict) (weight w (effects_of j.node).deleted) 0) js
unfolding verdict_on effects judge_next judged
weight-deleted w [] = refl
weight-deleted w (j ∷ js) =
    elim (is_valid j.verdict) as (λ b. weight w (cond b (joined (effects_of j.node) (effects js)) (effects js)).deleted ≡ cond b (weight w (effects_of j.node).deleted) 0 + weight (λ j. cond (is_valid j.verdict) (weight w (effects_of j.node).deleted) 0) js) [
      | true ↦ weight-append w (effects_of j.node).deleted (effects js).deleted ∙ ap (λ n. weight w (effects_of j.node).deleted + n) (weight-deleted w js)
      | false ↦ weight-deleted w js ∙ omega arith
    ]

pub same_effects : {js ks : List Judged} → Alike js ks → AlikeEffects (effects js) (effects ks)
unfolding verdict_on effects judge_next judged
same_effects {js} {ks} a = record {
  inserted = record { weighs = λ w. weight-inserted w js ∙ a.weighs (λ j. cond (is_valid j.verdict) (weight w (effects_of j.node).inserted) 0) ∙ sym (weight-inserted w ks) };
  deleted = record { weighs = λ w. weight-deleted w js ∙ a.weighs (λ j. cond (is_valid j.verdict) (weight w (effects_of j.node).deleted) 0) ∙ sym (weight-deleted w ks) };
}

pub same_ancestors : {js ks : List Judged} → Alike js ks → (node : NodeData) (id : UpdateId) → ancestor_of js node id ≡ ancestor_of ks node id
same_ancestors a node id = λ i. has node.preds id || same_any (λ j. has node.preds j.node.id && j.is_ancestor id) a i

-- what is judged next depends on the set before it alone
pub same_next : (rules : Rules) {js ks : List Judged} → Alike js ks → (node : NodeData) → judge_next rules js node ≡ judge_next rules ks node
unfolding verdict_on effects judge_next judged
same_next rules {js} {ks} a node =
    let past : Alike (filter (λ j. ancestor_of js node j.node.id) js) (filter (λ j. ancestor_of ks node j.node.id) ks) =
    Alike-trans (Alike-same (filter-each _ _ js (λ j. same_ancestors a node j.node.id))) (Alike-filter (λ j. ancestor_of ks node j.node.id) a) in
    λ i. record { node = node; is_ancestor = λ id. same_ancestors a node id i; verdict = same_verdict_on rules (same_effects past) node i }
