-- What the operations of an update insert and delete, one by one.
use Rattle.std.specs.Prelude.{ℕ, ◌+◌, List, [], ◌∷◌, ◌++◌, map}
use Rattle.update_model.specs.declared.author_key.AuthorKey.{AuthorKey}
use Rattle.update_model.specs.declared.update_id.UpdateId.{UpdateId}
use Rattle.update_model.specs.declared.op.Op.{Op}
use Rattle.update_model.specs.declared.op.Op.TheVariants as op
use Rattle.update_model.specs.Node.{NodeData}
use Rattle.table_model.specs.Verdicts.{named}
use Rattle.tuple_state.specs.declared.inserted.Inserted.{Inserted}
use Rattle.tuple_state.specs.declared.dropped.Dropped.{Dropped}
use Rattle.tuple_state.specs.State.{dropped_at}

-- the row that the operation with this number inserts, of the update with this id and author
abbrev pub row_made : ℕ → UpdateId → AuthorKey → ℕ → Op → List Inserted
row_made position id author number (op.Insert table values) = record {
  position = position;
  name = record { update = id; index = number };
  entry = record { table = table; author = author; values = map (named id) values };
} ∷ []
row_made position id author number (op.Delete name) = []

-- the same of a node
abbrev pub row_by : ℕ → NodeData → ℕ → Op → List Inserted
row_by position node number op = row_made position node.id node.author number op

-- the name that an operation deletes
abbrev pub name_by : ℕ → Op → List Dropped
name_by position (op.Insert table values) = []
name_by position (op.Delete name) = dropped_at position name ∷ []

-- what operations insert that number from here, in their order
unfoldable pub rows_by : ℕ → NodeData → ℕ → List Op → List Inserted
rows_by position node number [] = []
rows_by position node number (op ∷ ops) = row_by position node number op ++ rows_by position node (number + 1) ops

-- what they delete
unfoldable pub names_by : ℕ → List Op → List Dropped
names_by position [] = []
names_by position (op ∷ ops) = name_by position op ++ names_by position ops
