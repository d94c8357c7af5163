-- Which updates are valid, judged on their ancestors alone.
use Rattle.std.specs.Prelude.{ℕ, ◌+◌, ◌==◌, Bool, true, false, not, ◌&&◌, ◌||◌, nat_le, List, [], ◌∷◌, ◌++◌, length, map, filter, count_by, Option, None, Some, if◌then◌else◌, bytes_eq}
use Rattle.std.specs.List.{list_any, list_all}
use Rattle.update_model.specs.declared.author_key.AuthorKey.{AuthorKey}
use Rattle.update_model.specs.declared.op.Op.{Op}
use Rattle.update_model.specs.declared.op.Op.TheVariants as op
use Rattle.update_model.specs.declared.row_name.RowName.{RowName}
use Rattle.update_model.specs.declared.update_id.UpdateId.{UpdateId}
use Rattle.update_model.specs.declared.value.Value.{Value}
use Rattle.update_model.specs.declared.value.Value.TheVariants as value
use Rattle.update_model.specs.Graph.{has}
use Rattle.update_model.specs.Node.{NodeData}
use Rattle.row_check.specs.declared.cmp.Cmp.TheVariants as cmp
use Rattle.row_check.specs.Comparisons.{compares}
use Rattle.row_check.specs.Meaning.{value_at}
use Rattle.schema.specs.declared.rules.MatchRule.{MatchRule}
use Rattle.schema.specs.declared.table_def.TableDef.{TableDef}
use Rattle.table_model.specs.declared.reason.TheConstants.{NO_TABLE, MISFIT, CHECK_FALSE, NO_TARGET, MATCH_FALSE, NOT_DELETABLE, NOT_OWNER, RESTRICTED, LIMIT_BROKEN}
use Rattle.table_model.specs.declared.verdict.Verdict.{Verdict}
use Rattle.table_model.specs.declared.verdict.Verdict.TheVariants as verdict
use Rattle.schema.specs.Checks.{checks_hold}
use Rattle.schema.specs.Columns.{all_fit, is_restrict}
use Rattle.table_model.specs.Visible.{Rules, TableRow, RowRef, refs, Effects, visible_rows, same_row, table_of, kept_of}

-- whether the row that a reference names stands among these, in the table that the reference is to
abbrev pub stands_among : List TableRow → RowRef → Bool
stands_among rows r = list_any (λ row. same_row row.name r.name && (row.table == r.target)) rows

-- whether a MATCH is true of a row beside these, where its reference has this value
abbrev pub matches_among : List TableRow → List Value → MatchRule → Value → Bool
matches_among rows values rule (value.Row name) =
    list_any (λ target. same_row target.name name && compares rule.cmp (value_at values rule.column) (value_at target.values rule.target_column)) rows
matches_among rows values rule other = true

-- whether every MATCH is true of a row beside these
abbrev pub matches_hold : List TableRow → List Value → List MatchRule → Bool
matches_hold rows values rules = list_all (λ rule. matches_among rows values rule (value_at values rule.reference)) rules

-- the number of the first reason that applies
abbrev pub first_reason : List (ℕ × Bool) → Option ℕ
first_reason [] = None
first_reason (reason ∷ reasons) = if reason.1 then Some reason.0 else first_reason reasons

-- Why a row may not be inserted beside these, which are the rows visible on the ancestors and those that earlier
-- operations of the update inserted.
abbrev pub insert_reason : Rules → List TableRow → TableRow → Option ℕ
insert_reason rules beside row = first_reason (
    (NO_TABLE, nat_le (length rules.tables) row.table)
    ∷ (MISFIT, not (all_fit (table_of rules row.table).columns row.values))
    ∷ (CHECK_FALSE, not (checks_hold rules.ask row.values (table_of rules row.table).checks))
    ∷ (NO_TARGET, not (list_all (stands_among beside) (refs rules row)))
    ∷ (MATCH_FALSE, not (matches_hold beside row.values (table_of rules row.table).matches))
    ∷ [])

-- whether two keys are one
abbrev pub same_author : AuthorKey → AuthorKey → Bool
same_author a b = (a.lms == b.lms) && (a.ots == b.ots) && bytes_eq a.ident b.ident && bytes_eq a.root b.root

-- Why this author may not delete a name, where these rows are visible on the ancestors and the update has deleted these
-- names already.
abbrev pub delete_reason : Rules → List TableRow → List RowName → AuthorKey → RowName → Option ℕ
delete_reason rules rows dropped author name = first_reason (
    (NOT_DELETABLE, not (list_any (λ row. same_row row.name name && (table_of rules row.table).deletable) rows) || list_any (same_row name) dropped)
    ∷ (NOT_OWNER, list_any (λ row. same_row row.name name && (table_of rules row.table).owned && not (same_author row.author author)) rows)
    ∷ (RESTRICTED, list_any (λ row. list_any (λ r. is_restrict r.action && same_row r.name name) (refs rules row)) rows)
    ∷ [])

-- a value as it stands in a table: a reference to a row of the same update is that row's name
abbrev pub named : UpdateId → Value → Value
named id (value.Own index) = value.Row (record { update = id; index = index })
named id other = other

-- the row that the operation with this number inserts
abbrev pub row_inserted : NodeData → ℕ → ℕ → List Value → TableRow
row_inserted node number table values =
    record { name = record { update = node.id; index = number }; table = table; author = node.author; values = map (named node.id) values }

-- what was done, and these operations, which number from here; newest first
abbrev pub effects_after : NodeData → ℕ → Effects → List Op → Effects
effects_after node number did [] = did
effects_after node number did (op.Insert table values ∷ ops) =
    effects_after node (number + 1) (record did { inserted = row_inserted node number table values ∷ did.inserted }) ops
effects_after node number did (op.Delete name ∷ ops) = effects_after node (number + 1) (record did { deleted = name ∷ did.deleted }) ops

abbrev pub nothing : Effects
nothing = record { inserted = []; deleted = [] }

-- what a node does, where it is valid
abbrev pub effects_of : NodeData → Effects
effects_of node = effects_after node 0 nothing node.ops

abbrev pub joined : Effects → Effects → Effects
joined new old = record { inserted = new.inserted ++ old.inserted; deleted = new.deleted ++ old.deleted }

abbrev pub in_table : ℕ → TableRow → Bool
in_table table row = row.table == table

-- whether no two rows of a table are equal in a column
abbrev pub unique_holds : List TableRow → ℕ → ℕ → Bool
unique_holds rows table column =
    list_all (λ a. not (in_table table a) || nat_le (count_by (λ b. in_table table b && compares cmp.Eq (value_at a.values column) (value_at b.values column)) rows) 1) rows

-- whether a table has at most so many rows, where 0 is no limit
abbrev pub at_most_holds : List TableRow → ℕ → ℕ → Bool
at_most_holds rows table count = (count == 0) || nat_le (count_by (in_table table) rows) count

-- whether a UNIQUE of a column is one with KEEP LEAST
abbrev pub keeps_least : Option ℕ → ℕ → Bool
keeps_least None column = false
keeps_least (Some kept) column = kept == column

-- whether every UNIQUE without KEEP LEAST and every AT MOST of these tables, which number from here, holds of the rows
abbrev pub limits_hold : List TableRow → ℕ → List TableDef → Bool
limits_hold rows number [] = true
limits_hold rows number (table ∷ tables) =
    list_all (λ rule. keeps_least table.kept rule.column || unique_holds rows number rule.column) table.uniques
    && at_most_holds rows number table.at_most && limits_hold rows (number + 1) tables

-- whether no row beside one, of its table, has its value in the column of which the table keeps the least row, if any
abbrev pub is_new_in : Option ℕ → List TableRow → TableRow → Bool
is_new_in None beside row = true
is_new_in (Some column) beside row =
    not (list_any (λ other. in_table row.table other && compares cmp.Eq (value_at row.values column) (value_at other.values column)) beside)

-- whether this is so of each of these rows, newest first, beside those behind it and these
abbrev pub are_new : Rules → List TableRow → List TableRow → Bool
are_new rules beside [] = true
are_new rules beside (row ∷ older) = is_new_in (kept_of rules row.table) (older ++ beside) row && are_new rules beside older

-- those of these rows whose names are not among those that were deleted
abbrev pub left_of : List TableRow → List RowName → List TableRow
left_of rows deleted = filter (λ row. not (list_any (same_row row.name) deleted)) rows

-- whether a table has neither an ATMOST nor a UNIQUE without KEEP LEAST
abbrev pub is_unlimited : TableDef → Bool
is_unlimited table = list_all (λ rule. keeps_least table.kept rule.column) table.uniques && (table.at_most == 0)

-- The first reason that applies, operation by operation from this number on, after what the ancestors did, of which these
-- rows are visible, and what earlier operations did. At the end a UNIQUE without KEEP LEAST or an AT MOST may be broken in
-- the tables of the ancestors and the update together, or a row may have a value that a KEEP LEAST gives to another one.
abbrev pub verdict_after : Rules → Effects → List TableRow → NodeData → ℕ → Effects → List Op → Verdict
verdict_after rules past rows node number did [] =
    if limits_hold (visible_rows rules (joined did past)) 0 rules.tables && are_new rules (left_of rows did.deleted) did.inserted
    then verdict.Valid else verdict.Void LIMIT_BROKEN number
verdict_after rules past rows node number did (op.Insert table values ∷ ops) =
    elim (insert_reason rules (did.inserted ++ rows) (row_inserted node number table values)) [
      | Some reason ↦ verdict.Void reason number
      | None ↦ verdict_after rules past rows node (number + 1) (record did { inserted = row_inserted node number table values ∷ did.inserted }) ops
    ]
verdict_after rules past rows node number did (op.Delete name ∷ ops) =
    elim (delete_reason rules rows did.deleted node.author name) [
      | Some reason ↦ verdict.Void reason number
      | None ↦ verdict_after rules past rows node (number + 1) (record did { deleted = name ∷ did.deleted }) ops
    ]

-- the verdict on a node after what its ancestors did
unfoldable pub verdict_on : Rules → Effects → NodeData → Verdict
verdict_on rules past node = verdict_after rules past (visible_rows rules past) node 0 nothing node.ops

abbrev pub is_valid : Verdict → Bool
is_valid verdict.Valid = true
is_valid (verdict.Void reason operation) = false

-- a node with its verdict, and which ids are those of its ancestors
pub record Judged : Type 0 where
  pub node : NodeData
  pub is_ancestor : UpdateId → Bool
  pub verdict : Verdict

-- what the valid ones did
unfoldable pub effects : List Judged → Effects
effects [] = nothing
effects (j ∷ js) = if is_valid j.verdict then joined (effects_of j.node) (effects js) else effects js

-- which ids are those of a node's ancestors: of its predecessors, and of theirs
abbrev pub ancestor_of : List Judged → NodeData → UpdateId → Bool
ancestor_of js node id = has node.preds id || list_any (λ j. has node.preds j.node.id && j.is_ancestor id) js

-- A node is judged on its ancestors alone.
unfoldable pub judge_next : Rules → List Judged → NodeData → Judged
judge_next rules js node = record {
  node = node;
  is_ancestor = ancestor_of js node;
  verdict = verdict_on rules (effects (filter (λ j. ancestor_of js node j.node.id) js)) node;
}

-- the nodes of a closed list, newest first, each with its verdict
unfoldable pub judged : Rules → List NodeData → List Judged
judged rules [] = []
judged rules (node ∷ older) = judge_next rules (judged rules older) node ∷ judged rules older

-- what the valid ones of these nodes did
abbrev pub effects_in : Rules → List NodeData → Effects
effects_in rules nodes = effects (judged rules nodes)
