-- The entries of a log: updates with what is told of them, the newest first.
use Rattle.std.specs.Prelude.{◌≡◌, ℕ, Bool, List, map, reverse, Option}
use Rattle.update_model.specs.declared.update_id.UpdateId.{UpdateId}
use Rattle.update_model.specs.Node.{NodeData}
use Rattle.graph_drawing.specs.declared.placed.Placed.{Placed}
use Rattle.graph_drawing.specs.Boxes.{is_head, note_of, reason_of}
use Rattle.graph_drawing.specs.Depths.{AreInOrder}
use Rattle.graph_drawing.specs.Told.{Told}
use Rattle.log_texts.specs.declared.entry.Entry.{Entry}

-- the entry of an update, where heads, reasons and notes are told by their ids
abbrev pub entry_by : (UpdateId → Bool) → (UpdateId → Option ℕ) → (UpdateId → Option (List ℕ)) → Placed → Entry
entry_by head reason note placed = record { placed = placed; head = head placed.node.id; reason = reason placed.node.id; note = note placed.node.id }

-- the entry of an update, with what is told
abbrev pub entry_of : Told → Placed → Entry
entry_of told placed = entry_by (is_head told.heads) (reason_of told.voids) (note_of told.notes) placed

-- These are the entries of nodes, the newest first.
abbrev pub AreEntries : List NodeData → Told → List Entry → Type 0
AreEntries nodes told entries = (placed : List Placed) × AreInOrder nodes placed × (entries ≡ reverse (map (entry_of told) placed))

-- the id of an entry's update
abbrev pub id_of : Entry → UpdateId
id_of entry = entry.placed.node.id

abbrev pub ids_of : List Entry → List UpdateId
ids_of entries = map id_of entries
