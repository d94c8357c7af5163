-- Which rows are visible after a set of updates, and what they show.
use Rattle.std.specs.Prelude.{ℕ, zero, suc, ◌==◌, Bool, true, false, not, ◌&&◌, List, [], ◌∷◌, ◌++◌, length, map, filter, Option, Some, None, IsTrue, if◌then◌else◌}
use Rattle.std.specs.declared.cmp.Ordering.{Ordering}
use Rattle.std.specs.Ordering.{is_lt, nat_cmp, ordering_then}
use Rattle.std.specs.List.{list_any, list_all}
use Rattle.update_model.specs.declared.author_key.AuthorKey.{AuthorKey}
use Rattle.update_model.specs.declared.row_name.RowName.{RowName}
use Rattle.update_model.specs.declared.value.Value.{Value}
use Rattle.update_model.specs.declared.value.Value.TheVariants as value
use Rattle.update_model.specs.Entry.{id_cmp, same_id}
use Rattle.row_check.specs.declared.cmp.Cmp.TheVariants as cmp
use Rattle.row_check.specs.Comparisons.{compares}
use Rattle.row_check.specs.Meaning.{value_at}
use Rattle.schema.specs.declared.action.Action.{Action}
use Rattle.schema.specs.declared.column.Column.{Column}
use Rattle.schema.specs.declared.column.ColumnKind.{ColumnKind}
use Rattle.schema.specs.declared.table_def.TableDef.{TableDef}
pub use Rattle.schema.specs.Columns.{is_cascade}
use Rattle.schema.specs.Columns.{target_of, is_set_null}
use Rattle.schema.specs.Numbers.{table_number}

-- the tables of a schema, and what native checks mean
pub record Rules : Type 0 where
  pub tables : List TableDef
  pub ask : ℕ → List Value → Bool

-- those of a schema's tables, under a meaning of native checks
abbrev pub rules_with : (ℕ → List Value → Bool) → List TableDef → Rules
rules_with ask tables = record { tables = tables; ask = ask }

-- those of tables of which no native check is asked
abbrev pub bare_rules : List TableDef → Rules
bare_rules tables = rules_with (λ number values. false) tables

-- the table with this number
abbrev pub table_of : Rules → ℕ → TableDef
table_of rules number = table_number rules.tables number

-- the column of which a table keeps the least row of each value, if any
abbrev pub kept_of : Rules → ℕ → Option ℕ
kept_of rules number = (table_of rules number).kept

-- a row that an update inserted. References to rows of the same update are names of rows like all others
pub record TableRow : Type 0 where
  pub name : RowName
  pub table : ℕ
  pub author : AuthorKey
  pub values : List Value

-- whether two names are one
abbrev pub same_row : RowName → RowName → Bool
same_row a b = same_id a.update b.update && (a.index == b.index)

-- a reference that a row makes: the table and the row that it names, and what becomes of it when that row goes
pub record RowRef : Type 0 where
  pub target : ℕ
  pub action : Action
  pub name : RowName

-- a row's name, in a column that refers to a table
abbrev pub ref_to : RowName → Option (ℕ × Action) → List RowRef
ref_to name None = []
ref_to name (Some target) = record { target = target.0; action = target.1; name = name } ∷ []

-- the reference that a value makes in a column of this kind, if any
abbrev pub ref_in : ColumnKind → Value → List RowRef
ref_in kind (value.Row name) = ref_to name (target_of kind)
ref_in kind other = []

abbrev pub refs_in : List Column → List Value → List RowRef
refs_in [] values = []
refs_in (column ∷ columns) [] = []
refs_in (column ∷ columns) (value ∷ values) = ref_in column.kind value ++ refs_in columns values

-- the references of a row that are not null, in the order of columns
abbrev pub refs : Rules → TableRow → List RowRef
refs rules row = refs_in (table_of rules row.table).columns row.values

-- those by CASCADE
abbrev pub cascade_refs : Rules → TableRow → List RowRef
cascade_refs rules row = filter (λ r. is_cascade r.action) (refs rules row)

-- the table that a column refers to by CASCADE, if any
abbrev pub cascade_target : Option (ℕ × Action) → List ℕ
cascade_target None = []
cascade_target (Some target) = if is_cascade target.1 then target.0 ∷ [] else []

abbrev pub cascade_targets : List Column → List ℕ
cascade_targets [] = []
cascade_targets (column ∷ columns) = cascade_target (target_of column.kind) ++ cascade_targets columns

-- what the valid members of a set did: which rows they inserted, and which names they deleted
pub record Effects : Type 0 where
  pub inserted : List TableRow
  pub deleted : List RowName

-- What was done in the first is among what was done in the second.
pub record DoesLess (first second : Effects) : Type 0 where
  pub inserted : (p : TableRow → Bool) → IsTrue (list_any p first.inserted) → IsTrue (list_any p second.inserted)
  pub deleted : (p : RowName → Bool) → IsTrue (list_any p first.deleted) → IsTrue (list_any p second.deleted)

abbrev pub is_deleted : Effects → RowName → Bool
is_deleted did name = list_any (same_row name) did.deleted

-- names order by the bytes of the id, then by the number
abbrev pub name_cmp : RowName → RowName → Ordering
name_cmp a b = ordering_then (id_cmp a.update b.update) (nat_cmp a.index b.index)

-- A row that a valid member inserted is a candidate where none deletes it, and each row that it names by CASCADE is seen.
abbrev pub is_candidate : Rules → Effects → (RowName → Bool) → TableRow → Bool
is_candidate rules did seen row = list_all (λ r. seen r.name) (cascade_refs rules row) && not (is_deleted did row.name)

-- whether another row of a row's table has an equal value in a column, and a lesser name
abbrev pub goes_before : ℕ → TableRow → TableRow → Bool
goes_before column row other =
    (other.table == row.table) && compares cmp.Eq (value_at row.values column) (value_at other.values column) && is_lt (name_cmp other.name row.name)

-- whether no candidate goes before a row in the column of which its table keeps the least row of each value, if any
abbrev pub is_least_in : Rules → Effects → (RowName → Bool) → TableRow → Option ℕ → Bool
is_least_in rules did seen row None = true
is_least_in rules did seen row (Some column) = not (list_any (λ other. goes_before column row other && is_candidate rules did seen other) did.inserted)

abbrev pub is_least : Rules → Effects → (RowName → Bool) → TableRow → Bool
is_least rules did seen row = is_least_in rules did seen row (kept_of rules row.table)

-- A row is visible where it is a candidate, and no other one goes before it.
abbrev pub shows : Rules → Effects → (RowName → Bool) → RowName → Bool
shows rules did seen name = list_any (λ row. same_row row.name name && (is_candidate rules did seen row && is_least rules did seen row)) did.inserted

-- the same, where references are followed this deep
unfoldable pub visible_to : Rules → Effects → ℕ → RowName → Bool
visible_to rules did zero name = false
visible_to rules did (suc depth) name = shows rules did (visible_to rules did depth) name

-- Whether a row is visible. It rests on rows of earlier tables, and on earlier rows of its own table where that keeps no least
-- row: so nothing is followed further than the rows are many.
abbrev pub is_visible : Rules → Effects → RowName → Bool
is_visible rules did name = visible_to rules did (length did.inserted) name

abbrev pub visible_rows : Rules → Effects → List TableRow
visible_rows rules did = filter (λ row. is_visible rules did row.name) did.inserted

-- whether a column of this kind is shown as null where the row that it names is not visible
abbrev pub is_nulled : Option (ℕ × Action) → Bool
is_nulled None = false
is_nulled (Some target) = is_set_null target.1

-- what a value shows in a column of this kind
abbrev pub shown_value : Rules → Effects → ColumnKind → Value → Value
shown_value rules did kind (value.Row name) = if is_nulled (target_of kind) && not (is_visible rules did name) then value.Null else value.Row name
shown_value rules did kind other = other

abbrev pub shown_values : Rules → Effects → List Column → List Value → List Value
shown_values rules did [] values = values
shown_values rules did (column ∷ columns) [] = []
shown_values rules did (column ∷ columns) (value ∷ values) = shown_value rules did column.kind value ∷ shown_values rules did columns values

abbrev pub shown : Rules → Effects → TableRow → TableRow
shown rules did row = record row { values = shown_values rules did (table_of rules row.table).columns row.values }

-- each visible row, with what its values show
abbrev pub shown_rows : Rules → Effects → List TableRow
shown_rows rules did = map (shown rules did) (visible_rows rules did)
