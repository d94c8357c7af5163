-- What tables hold: what the valid updates did, in the order in which they were applied, and the updates that do nothing.
use Rattle.std.specs.Prelude.{◌≡◌, ℕ, ◌+◌, Bool, false, List, [], ◌∷◌, ◌++◌, length, map, reverse, is_some}
use Rattle.std.specs.List.{list_any}
use Rattle.update_model.specs.declared.row_name.RowName.{RowName}
use Rattle.update_model.specs.Node.{NodeData}
use Rattle.schema.specs.declared.table_def.TableDef.{TableDef}
use Rattle.table_model.specs.declared.verdict.Verdict.{Verdict}
use Rattle.table_model.specs.declared.verdict.Verdict.TheVariants as verdict
use Rattle.table_model.specs.declared.void_line.VoidLine.{VoidLine}
use Rattle.table_model.specs.Nodes.{IsClosed}
use Rattle.table_model.specs.Verdicts.{effects_of, judge_next, judged}
use Rattle.schema.specs.Numbers.{no_table}
use Rattle.schema.specs.Sound.{AreTables}
use Rattle.table_model.specs.Visible.{Effects, Rules, TableRow}
use Rattle.tuple_state.specs.declared.inserted.Inserted.{Inserted}
use Rattle.tuple_state.specs.declared.dropped.Dropped.{Dropped}
use Rattle.tuple_state.specs.declared.shape.Shape.{Shape}
use Rattle.tuple_state.specs.declared.voided.Voided.{Voided}

-- the shape of each table, how many updates were applied, what the valid ones did, oldest first, and the void ones
pub record State : Type 0 where
  pub shapes : List Shape
  pub count : ℕ
  pub inserted : List Inserted
  pub dropped : List Dropped
  pub voids : List Voided

-- a row, as the update at this position inserts it
abbrev pub inserted_at : ℕ → TableRow → Inserted
inserted_at position row =
    record { position = position; name = row.name; entry = record { table = row.table; author = row.author; values = row.values } }

-- the row that was inserted
abbrev pub row_of : Inserted → TableRow
row_of it = record { name = it.name; table = it.entry.table; author = it.entry.author; values = it.entry.values }

-- a name, as the update at this position deletes it
abbrev pub dropped_at : ℕ → RowName → Dropped
dropped_at position name = record { position = position; name = name }

-- a line, as the update at this position has it
abbrev pub voided_at : ℕ → VoidLine → Voided
voided_at position line = record { position = position; line = line }

-- the state after one more update: a valid one's effects come last, a void one has its line and nothing else
abbrev pub after : State → NodeData → Verdict → State
after state node verdict.Valid = record state {
  count = state.count + 1;
  inserted = state.inserted ++ map (inserted_at state.count) (reverse (effects_of node).inserted);
  dropped = state.dropped ++ map (dropped_at state.count) (reverse (effects_of node).deleted);
}
after state node (verdict.Void reason operation) = record state {
  count = state.count + 1;
  voids = state.voids ++ voided_at state.count (record { id = node.id; reason = reason; operation = operation }) ∷ [];
}

-- what tells of a table which of its rows are visible
abbrev pub shape_of : TableDef → Shape
shape_of table = record { columns = table.columns; kept = table.kept }

-- the state before any update
abbrev pub empty_state : List TableDef → State
empty_state tables = record { shapes = map shape_of tables; count = 0; inserted = []; dropped = []; voids = [] }

-- the state after the nodes of a closed list, newest first, each judged on its ancestors
unfoldable pub state_of : Rules → List NodeData → State
state_of rules [] = empty_state rules.tables
state_of rules (node ∷ older) = after (state_of rules older) node (judge_next rules (judged rules older) node).verdict

-- The tables, which are those of a schema, hold what these nodes do.
pub record IsStateOf (rules : Rules) (nodes : List NodeData) (state : State) : Type 0 where
  pub tables : AreTables [] rules.tables
  pub closed : IsClosed nodes
  pub is : state ≡ state_of rules nodes

-- what the valid updates did, as visibility asks for it
abbrev pub done_in : State → Effects
done_in state = record { inserted = reverse (map row_of state.inserted); deleted = reverse (map (λ it. it.name) state.dropped) }

-- The tables hold what some nodes do.
pub record IsHeld (state : State) : Type 0 where
  pub rules : Rules
  pub nodes : List NodeData
  pub is : IsStateOf rules nodes state

-- a table of this shape, with nothing else
abbrev pub table_with : Shape → TableDef
table_with shape = record no_table { columns = shape.columns; kept = shape.kept }

-- rules with tables of these shapes and nothing else. Which rows are visible goes by the shapes alone
abbrev pub rules_over : List Shape → Rules
rules_over shapes = record { tables = map table_with shapes; ask = λ number values. false }

-- whether one of these tables keeps the least row of each value of a column
abbrev pub keep_any : List Shape → Bool
keep_any shapes = list_any (λ shape. is_some shape.kept) shapes

-- those of a state
abbrev pub rules_of_state : State → Rules
rules_of_state state = rules_over state.shapes

-- The tables hold what nodes do of which all after the first so many are to be taken back.
pub record IsCut (state : State) (len : ℕ) : Type 0 where
  pub rules : Rules
  pub newer : List NodeData
  pub older : List NodeData
  pub is : IsStateOf rules (newer ++ older) state
  pub at : length older ≡ len
