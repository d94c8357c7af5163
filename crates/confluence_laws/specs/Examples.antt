-- The counterexamples that are given for invariants that are refused.
use Rattle.std.specs.Prelude.{ℕ, ◌+◌, ◌-◌, zero, suc, ◌==◌, Bool, false, ◌||◌, List, [], ◌∷◌, ◌++◌, length, reverse, replicate, Option, Some, None, if◌then◌else◌}
use Rattle.std.specs.List.{list_any, flat_map}
use Rattle.update_model.specs.declared.author_key.AuthorKey.{AuthorKey}
use Rattle.update_model.specs.declared.op.Op.{Op}
use Rattle.update_model.specs.declared.op.Op.TheVariants as op
use Rattle.update_model.specs.declared.row_name.RowName.{RowName}
use Rattle.update_model.specs.declared.update_id.UpdateId.{UpdateId}
use Rattle.update_model.specs.declared.value.Value.{Value}
use Rattle.update_model.specs.declared.value.Value.TheVariants as value
use Rattle.update_model.specs.Node.{NodeData}
use Rattle.schema.specs.declared.action.Action.{Action}
use Rattle.schema.specs.declared.column.Column.{Column}
use Rattle.table_model.specs.declared.counterexample.Counterexample.{Counterexample}
use Rattle.schema.specs.Columns.{target_of}
use Rattle.table_model.specs.Visible.{Rules, table_of, is_cascade}
use Rattle.table_model.specs.Invariants.{Claim, Unique, UniqueKept, AtMost, Refers, Check, Match}
use Rattle.confluence_laws.specs.Confluence.{is_permanent}

-- a row to be inserted
pub record Item : Type 0 where
  pub table : ℕ
  pub values : List Value

-- the id of the update with this number: 31 zero bytes and the number
abbrev pub numbered : ℕ → UpdateId
numbered number = record { 0 = replicate 31 0 ++ number ∷ [] }

-- the name of the row that the update with this number inserts
abbrev pub row_numbered : ℕ → RowName
row_numbered number = record { update = numbered number; index = 0 }

-- the author of every update of a counterexample
abbrev pub one_author : AuthorKey
one_author = record { lms = 5; ots = 4; ident = replicate 16 0; root = replicate 32 0 }

-- what an update names after a chain of this many: the last of them, or nothing
abbrev pub last_of : ℕ → List UpdateId
last_of zero = []
last_of (suc number) = numbered (suc number) ∷ []

-- an update of one operation, after a chain of this many
abbrev pub one_after : ℕ → ℕ → Op → NodeData
one_after length number op = record { id = numbered number; preds = last_of length; author = one_author; ops = op ∷ [] }

-- one that inserts a row
abbrev pub after : ℕ → ℕ → Item → NodeData
after length number item = one_after length number (op.Insert item.table item.values)

-- updates that insert these rows, newest first, each of which names the one before it. They number from 1
abbrev pub chain : List Item → List NodeData
chain [] = []
chain (item ∷ items) = after (length items) (suc (length items)) item ∷ chain items

-- whether a chain has a row of this table
abbrev pub has_table : List Item → ℕ → Bool
has_table items table = list_any (λ item. item.table == table) items

-- the name of a chain's row of this table
abbrev pub name_in : List Item → ℕ → RowName
name_in [] table = row_numbered 0
name_in (item ∷ items) table = if item.table == table then row_numbered (suc (length items)) else name_in items table

-- What a needed row has in a column: a reference is null where it may be, and else names the chain's row of its target.
-- Any other column has the sample's value.
abbrev pub fill : List Item → Bool → Option (ℕ × Action) → Value → Value
fill items null None v = v
fill items null (Some target) v = if null then value.Null else value.Row (name_in items target.0)

abbrev pub filled : List Item → List Column → List Value → List Value
filled items [] values = []
filled items (column ∷ columns) [] = []
filled items (column ∷ columns) (v ∷ values) = fill items column.null (target_of column.kind) v ∷ filled items columns values

-- a row of a table, after a chain that has what it needs
abbrev pub item_of : Rules → List Item → ℕ → Item
item_of rules items table = record { table = table; values = filled items (table_of rules table).columns (table_of rules table).sample }

-- the table that a column needs a row of, if any
abbrev pub needed_by : Bool → Option (ℕ × Action) → List ℕ
needed_by null None = []
needed_by null (Some target) = if null then [] else target.0 ∷ []

-- those that all columns need, in their order
abbrev pub needed_tables : List Column → List ℕ
needed_tables [] = []
needed_tables (column ∷ columns) = needed_by column.null (target_of column.kind) ++ needed_tables columns

-- what grows a chain by one table, for each of these tables in turn
abbrev pub for_each : (List Item → ℕ → List Item) → List ℕ → List Item → List Item
for_each grow [] items = items
for_each grow (table ∷ tables) items = for_each grow tables (grow items table)

-- A chain with a needed row of this table, made once, after those that it needs in turn. References are followed this deep.
unfoldable pub need : Rules → ℕ → List Item → ℕ → List Item
need rules zero items table = items
need rules (suc depth) items table =
    if has_table items table then items
    else item_of rules (for_each (need rules depth) (needed_tables (table_of rules table).columns) items) table
    ∷ for_each (need rules depth) (needed_tables (table_of rules table).columns) items

-- the chain of all that the rows of a table need
abbrev pub base_of : Rules → ℕ → List Item
base_of rules table = for_each (need rules table) (needed_tables (table_of rules table).columns) []

-- a history of two sides that each add one update to a chain
abbrev pub split_after : List Item → (left right : NodeData) → Counterexample
split_after items left right = record { base = reverse (chain items); left = left ∷ []; right = right ∷ [] }

-- each side inserts a row
abbrev pub twice_after : List Item → Item → Counterexample
twice_after items item =
    split_after items (after (length items) (suc (length items)) item) (after (length items) (suc (suc (length items))) item)

-- Of a UNIQUE: after what the table's rows need, each side inserts one.
abbrev pub unique_example : Rules → ℕ → Counterexample
unique_example rules table = twice_after (base_of rules table) (item_of rules (base_of rules table) table)

-- the same row so many times
abbrev pub copies : ℕ → Item → List Item → List Item
copies zero item items = items
copies (suc n) item items = item ∷ copies n item items

-- Of an ATMOST: after what the table's rows need and one row less than may be, each side inserts one.
abbrev pub at_most_example : Rules → ℕ → ℕ → Counterexample
at_most_example rules table count =
    twice_after (copies (count - 1) (item_of rules (base_of rules table) table) (base_of rules table)) (item_of rules (base_of rules table) table)

-- a row of the path along which a table's rows can vanish: its table, and the column by which it names the next one, and
-- none where that row can be deleted
pub record Step : Type 0 where
  pub table : ℕ
  pub column : Option ℕ

-- a reference by CASCADE to another table that is not permanent, and else what was found later
abbrev pub step_by : Rules → ℕ → ℕ → Option (ℕ × Action) → Option (ℕ × ℕ) → Option (ℕ × ℕ)
step_by rules table number None later = later
step_by rules table number (Some target) later =
    if is_cascade target.1 then (if (target.0 == table) || is_permanent rules target.0 then later else Some (number, target.0)) else later

-- the first one among columns that number from here, and its target
abbrev pub next_step : Rules → ℕ → ℕ → List Column → Option (ℕ × ℕ)
next_step rules table number [] = None
next_step rules table number (column ∷ columns) = step_by rules table number (target_of column.kind) (next_step rules table (number + 1) columns)

-- a row of the path and what follows it, where there is a step to take
abbrev pub path_by : ℕ → (ℕ → List Step) → Option (ℕ × ℕ) → List Step
path_by table on None = []
path_by table on (Some step) = record { table = table; column = Some step.0 } ∷ on step.1

-- the path from a table to one that is DELETABLE, followed this deep
abbrev pub path_from : Rules → ℕ → ℕ → List Step
path_from rules zero table = []
path_from rules (suc depth) table =
    if (table_of rules table).deletable then record { table = table; column = None } ∷ []
    else path_by table (path_from rules depth) (next_step rules table 0 (table_of rules table).columns)

abbrev pub is_skipped : Option ℕ → ℕ → Bool
is_skipped None number = false
is_skipped (Some column) number = number == column

-- the tables that columns, which number from here, need, but for one of them
abbrev pub needed_but : Option ℕ → ℕ → List Column → List ℕ
needed_but skip number [] = []
needed_but skip number (column ∷ columns) =
    (if is_skipped skip number then [] else needed_by column.null (target_of column.kind)) ++ needed_but skip (number + 1) columns

-- What a row has in columns that number from here: what a needed row has, but for one of them, which has this name.
abbrev pub filled_but : List Item → Option ℕ → RowName → ℕ → List Column → List Value → List Value
filled_but items skip name number [] values = []
filled_but items skip name number (column ∷ columns) [] = []
filled_but items skip name number (column ∷ columns) (v ∷ values) =
    (if is_skipped skip number then value.Row name else fill items column.null (target_of column.kind) v) ∷ filled_but items skip name (number + 1) columns values

-- a row of a table that names in one column, if any, the row that the update with this number inserts
abbrev pub item_naming : Rules → List Item → ℕ → Option ℕ → ℕ → Item
item_naming rules items table column number =
    record { table = table; values = filled_but items column (row_numbered number) 0 (table_of rules table).columns (table_of rules table).sample }

-- the rows of the path in front of the shared ones, the path's end made first
abbrev pub path_items : Rules → List Item → List Step → List Item
path_items rules shared [] = shared
path_items rules shared (step ∷ steps) =
    item_naming rules shared step.table step.column (length (path_items rules shared steps)) ∷ path_items rules shared steps

-- the shared rows: what the path's rows need, from its end, and then what the row that names the path needs
abbrev pub shared_of : Rules → List Step → ℕ → ℕ → List Item
shared_of rules steps table column =
    for_each (need rules table)
    (flat_map (λ step. needed_but step.column 0 (table_of rules step.table).columns) (reverse steps) ++ needed_but (Some column) 0 (table_of rules table).columns) []

-- Of a RESTRICT: after the shared rows and the path, one side inserts a row that names the path's row of the target, and
-- the other deletes the row at the path's end.
abbrev pub restrict_example : Rules → ℕ → ℕ → ℕ → Counterexample
restrict_example rules table column target =
    let steps = path_from rules (suc target) target in
    let shared = shared_of rules steps table column in
    let items = path_items rules shared steps in
    split_after items (after (length items) (suc (length items)) (item_naming rules shared table (Some column) (length items)))
    (one_after (length items) (suc (suc (length items))) (op.Delete (row_numbered (suc (length shared)))))

-- the counterexample of an invariant that is refused
abbrev pub example_of : Rules → Claim → Counterexample
example_of rules (Unique table column) = unique_example rules table
example_of rules (UniqueKept table column) = record { base = []; left = []; right = [] }
example_of rules (AtMost table count) = at_most_example rules table count
example_of rules (Refers table column target act) = restrict_example rules table column target
example_of rules (Check table tree) = record { base = []; left = []; right = [] }
example_of rules (Match table rule) = record { base = []; left = []; right = [] }
