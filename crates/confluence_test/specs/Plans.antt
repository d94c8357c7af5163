-- What the building of counterexamples keeps.
use Rattle.std.specs.Prelude.{◌≡◌, ℕ, ◌<◌, ◌+◌, ◌==◌, Bool, true, false, not, ◌&&◌, ◌||◌, List, [], ◌∷◌, length, unwrap_or, slice_get, Option, None, Some, is_none, if◌then◌else◌}
use Rattle.std.specs.List.{list_all, AllByRecursion}
use Rattle.schema.specs.declared.action.Action.{Action}
use Rattle.schema.specs.declared.table_def.TableDef.{TableDef}
use Rattle.schema.specs.declared.column.Column.{Column}
use Rattle.schema.specs.Columns.{target_of}
use Rattle.table_model.specs.Visible.{Rules, is_cascade}
use Rattle.confluence_laws.specs.Confluence.{is_permanent}
use Rattle.confluence_laws.specs.Examples.{Item, Step, has_table, is_skipped, needed_by}

-- Each row is of one of so many tables, and no two are of one table.
abbrev pub AreOnce : ℕ → List Item → Type 0
AreOnce count [] = Unit {0}
AreOnce count (item ∷ items) = (item.table < count) × (has_table items item.table ≡ false) × AreOnce count items

-- what a list says of a table: whether it is permanent
abbrev pub permanent_at : List Bool → ℕ → Bool
permanent_at permanence table = unwrap_or (slice_get permanence table) false

-- whether a reference of a table keeps it permanent
abbrev pub keeps : List Bool → ℕ → Option (ℕ × Action) → Bool
keeps permanence table None = true
keeps permanence table (Some target) = not (is_cascade target.1) || (target.0 == table) || permanent_at permanence target.0

-- whether each of its references does
abbrev pub all_keep : List Bool → ℕ → List Column → Bool
all_keep permanence table columns = list_all (λ column. keeps permanence table (target_of column.kind)) columns

-- whether a table is permanent, by what a list says of the others
abbrev pub is_permanent_by : List Bool → ℕ → TableDef → Bool
is_permanent_by permanence number table =
    not table.deletable && is_none table.kept && all_keep permanence number table.columns

-- A list says of each table whether it is permanent.
abbrev pub SaysPermanent : Rules → List Bool → Type 0
SaysPermanent rules permanence = (table : ℕ) → table < length rules.tables → permanent_at permanence table ≡ is_permanent rules table

-- the list of what there is, if anything
abbrev pub all_of : Option ℕ → List ℕ
all_of None = []
all_of (Some n) = n ∷ []

-- the table of which a row is needed for the column with this number, unless that one is passed over
abbrev pub needed_at : Option ℕ → ℕ → Column → List ℕ
needed_at skip number column = if is_skipped skip number then [] else needed_by column.null (target_of column.kind)

-- The rows of a path are of tables of so many.
abbrev pub AreBelow : ℕ → List Step → Type 0
AreBelow count steps = AllByRecursion (λ step. step.table < count) steps

-- the table that a column of a table refers to, where that is by CASCADE, and to another table that is not permanent
abbrev pub step_to : List Bool → ℕ → Option (ℕ × Action) → Option ℕ
step_to permanence table None = None
step_to permanence table (Some target) =
    if is_cascade target.1 then (if (target.0 == table) || permanent_at permanence target.0 then None else Some target.0) else None

-- this step by a column, and else a later one
abbrev pub or_later : ℕ → Option ℕ → Option (ℕ × ℕ) → Option (ℕ × ℕ)
or_later number None later = later
or_later number (Some target) later = Some (number, target)

-- the first such step among columns that number from here
abbrev pub next_step_by : List Bool → ℕ → ℕ → List Column → Option (ℕ × ℕ)
next_step_by permanence table number [] = None
next_step_by permanence table number (column ∷ columns) =
    or_later number (step_to permanence table (target_of column.kind)) (next_step_by permanence table (number + 1) columns)
