-- A verdict in words of what is asked: `row` is the visible row with a name, where there is one, `child` is whether a visible
-- row names this one by RESTRICT, and `equal` is how many visible rows of a table have a value in a column. The rows that
-- earlier operations of the update inserted stand in their order.
use Rattle.std.specs.Prelude.{ℕ, ◌+◌, ◌==◌, Bool, true, false, not, ◌&&◌, ◌||◌, nat_le, List, [], ◌∷◌, ◌++◌, length, map, count_by, Option, None, Some, if◌then◌else◌}
use Rattle.std.specs.List.{list_any, list_all}
use Rattle.update_model.specs.declared.author_key.AuthorKey.{AuthorKey}
use Rattle.update_model.specs.declared.op.Op.{Op}
use Rattle.update_model.specs.declared.op.Op.TheVariants as op
use Rattle.update_model.specs.declared.row_entry.RowEntry.{RowEntry}
use Rattle.update_model.specs.declared.row_name.RowName.{RowName}
use Rattle.update_model.specs.declared.value.Value.{Value}
use Rattle.update_model.specs.declared.value.Value.TheVariants as value
use Rattle.update_model.specs.Node.{NodeData}
use Rattle.row_check.specs.declared.cmp.Cmp.TheVariants as cmp
use Rattle.row_check.specs.Comparisons.{compares}
use Rattle.row_check.specs.Meaning.{value_at}
use Rattle.schema.specs.declared.rules.MatchRule.{MatchRule}
use Rattle.schema.specs.declared.table_def.TableDef.{TableDef}
use Rattle.schema.specs.Numbers.{table_number}
use Rattle.table_model.specs.declared.reason.TheConstants.{LIMIT_BROKEN}
use Rattle.table_model.specs.declared.verdict.Verdict.{Verdict}
use Rattle.table_model.specs.declared.verdict.Verdict.TheVariants as verdict
use Rattle.table_model.specs.Visible.{Rules, TableRow, refs_in, same_row, table_of}
use Rattle.table_model.specs.Verdicts.{first_reason, named, same_author}
use Rattle.schema.specs.Checks.{checks_hold}
use Rattle.schema.specs.Columns.{all_fit}
use Rattle.validity.specs.declared.kept_values.Freed.{Freed}
use Rattle.validity.specs.declared.own_row.OwnRow.{OwnRow}

-- a row of the update, as a row of a table
abbrev pub row_of : OwnRow → TableRow
row_of own = record { name = own.name; table = own.entry.table; author = own.entry.author; values = own.entry.values }

-- whether a row is found, and in this table
abbrev pub is_in : ℕ → Option RowEntry → Bool
is_in target None = false
is_in target (Some entry) = entry.table == target

-- whether the row with a name stands in a table, among the update's own or the visible ones
abbrev pub stands_asked : List OwnRow → (RowName → Option RowEntry) → RowName → ℕ → Bool
stands_asked own row name target = list_any (λ o. same_row o.name name && (o.entry.table == target)) own || is_in target (row name)

-- whether a MATCH is true of these two rows
abbrev pub is_match : List Value → MatchRule → List Value → Bool
is_match values rule target = compares rule.cmp (value_at values rule.column) (value_at target rule.target_column)

-- whether a row is found, and the MATCH is true of it
abbrev pub is_matched : List Value → MatchRule → Option RowEntry → Bool
is_matched values rule None = false
is_matched values rule (Some entry) = is_match values rule entry.values

-- whether a MATCH is true of a row, where its reference has this value
abbrev pub match_asked : List OwnRow → (RowName → Option RowEntry) → List Value → MatchRule → Value → Bool
match_asked own row values rule (value.Row name) =
    list_any (λ o. same_row o.name name && is_match values rule o.entry.values) own || is_matched values rule (row name)
match_asked own row values rule other = true

-- why a row may not be inserted
abbrev pub insert_asked : Rules → List OwnRow → (RowName → Option RowEntry) → RowEntry → Option ℕ
insert_asked rules own row new = first_reason (
    (1, nat_le (length rules.tables) new.table)
    ∷ (2, not (all_fit (table_of rules new.table).columns new.values))
    ∷ (3, not (checks_hold rules.ask new.values (table_of rules new.table).checks))
    ∷ (4, not (list_all (λ r. stands_asked own row r.name r.target) (refs_in (table_of rules new.table).columns new.values)))
    ∷ (5, not (list_all (λ rule. match_asked own row new.values rule (value_at new.values rule.reference)) (table_of rules new.table).matches))
    ∷ [])

-- whether a row is found, and its table is DELETABLE
abbrev pub is_deletable : Rules → Option RowEntry → Bool
is_deletable rules None = false
is_deletable rules (Some entry) = (table_of rules entry.table).deletable

-- whether a row is found, its table is OWNED, and it is another author's
abbrev pub is_anothers : Rules → AuthorKey → Option RowEntry → Bool
is_anothers rules author None = false
is_anothers rules author (Some entry) = (table_of rules entry.table).owned && not (same_author entry.author author)

-- why this author may not delete a name
abbrev pub delete_asked : Rules → (RowName → Option RowEntry) → (RowName → Bool) → List RowName → AuthorKey → RowName → Option ℕ
delete_asked rules row child deleted author name = first_reason (
    (6, not (is_deletable rules (row name)) || list_any (same_row name) deleted)
    ∷ (7, is_anothers rules author (row name))
    ∷ (8, child name)
    ∷ [])

-- the row that the operation with this number inserts
abbrev pub own_row : NodeData → ℕ → ℕ → List Value → OwnRow
own_row node number table values = record {
  name = record { update = node.id; index = number };
  entry = record { table = table; author = node.author; values = map (named node.id) values };
}

-- why the operation with this number may not be done
abbrev pub op_asked : Rules → (RowName → Option RowEntry) → (RowName → Bool) → NodeData → ℕ → List OwnRow → List RowName → Op → Option ℕ
op_asked rules row child node number own deleted (op.Insert table values) = insert_asked rules own row (own_row node number table values).entry
op_asked rules row child node number own deleted (op.Delete name) = delete_asked rules row child deleted node.author name

-- the update's own rows after it
abbrev pub own_after : NodeData → ℕ → List OwnRow → Op → List OwnRow
own_after node number own (op.Insert table values) = own ++ own_row node number table values ∷ []
own_after node number own (op.Delete name) = own

-- the deleted names after it
abbrev pub deleted_after : List RowName → Op → List RowName
deleted_after deleted (op.Insert table values) = deleted
deleted_after deleted (op.Delete name) = deleted ++ name ∷ []

-- what a row that is deleted leaves free: its value in the column of which its table keeps the least row of each, if any
abbrev pub freed_at : RowEntry → Option ℕ → List Freed
freed_at entry None = []
freed_at entry (Some column) = record { table = entry.table; value = value_at entry.values column } ∷ []

abbrev pub freed_in : List TableDef → Option RowEntry → List Freed
freed_in tables None = []
freed_in tables (Some entry) = freed_at entry (table_number tables entry.table).kept

-- what the rows with these names leave free
abbrev pub freed_by : List TableDef → (RowName → Option RowEntry) → List RowName → List Freed
freed_by tables row [] = []
freed_by tables row (name ∷ names) = freed_in tables (row name) ++ freed_by tables row names

-- whether this is what a row of a table with this value leaves free
abbrev pub is_freed : ℕ → Value → Freed → Bool
is_freed table value freed = (freed.table == table) && compares cmp.Eq freed.value value

-- whether a row is of a table and has a value in a column
abbrev pub has_value : ℕ → ℕ → Value → RowEntry → Bool
has_value table column value entry = (entry.table == table) && compares cmp.Eq (value_at entry.values column) value

-- whether none of these rows of the update has a value in a column of a table, and visible ones only where it is left free as
-- often
abbrev pub is_free_in : (ℕ → ℕ → Value → ℕ) → List Freed → List OwnRow → ℕ → ℕ → Value → Bool
is_free_in equal freed before table column value =
    not (list_any (λ o. has_value table column value o.entry) before) && nat_le (equal table column value) (count_by (is_freed table value) freed)

-- whether this is so of a row's value in the column of which its table keeps the least row of each, if any
abbrev pub is_free : (ℕ → ℕ → Value → ℕ) → List Freed → List OwnRow → RowEntry → Option ℕ → Bool
is_free equal freed before entry None = true
is_free equal freed before entry (Some column) = is_free_in equal freed before entry.table column (value_at entry.values column)

-- whether it is so of each of the update's own rows, beside those before it
abbrev pub are_free : List TableDef → (ℕ → ℕ → Value → ℕ) → List Freed → List OwnRow → List OwnRow → Bool
are_free tables equal freed before [] = true
are_free tables equal freed before (o ∷ own) =
    is_free equal freed before o.entry (table_number tables o.entry.table).kept && are_free tables equal freed (before ++ o ∷ []) own

-- the verdict where each operation may be done
abbrev pub end_asked : Rules → (RowName → Option RowEntry) → (ℕ → ℕ → Value → ℕ) → ℕ → List OwnRow → List RowName → Verdict
end_asked rules row equal number own deleted =
    if are_free rules.tables equal (freed_by rules.tables row deleted) [] own then verdict.Valid else verdict.Void LIMIT_BROKEN number

-- the first reason that applies, from the operation with this number on
unfoldable pub verdict_asked : Rules → (RowName → Option RowEntry) → (RowName → Bool) → (ℕ → ℕ → Value → ℕ) → NodeData → ℕ → List OwnRow → List RowName → List Op → Verdict
verdict_asked rules row child equal node number own deleted [] = end_asked rules row equal number own deleted
verdict_asked rules row child equal node number own deleted (op ∷ ops) =
    elim (op_asked rules row child node number own deleted op) [
      | Some reason ↦ verdict.Void reason number
      | None ↦ verdict_asked rules row child equal node (number + 1) (own_after node number own op) (deleted_after deleted op) ops
    ]
