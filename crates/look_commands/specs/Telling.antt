-- What is told of members.
use Rattle.std.specs.Prelude.{◌≡◌, ℕ, List, map}
use Rattle.graph_drawing.specs.declared.note_line.NoteLine.{NoteLine}
use Rattle.graph_drawing.specs.Told.{Told}
use Rattle.node_commands.specs.Notes.{AreNoted, note_text}
use Rattle.outcomes.specs.Rules.{nodes_of}
use Rattle.table_model.specs.Tables.{AreVoidsIn}
use Rattle.table_model.specs.Visible.{Rules}
use Rattle.update_codec.specs.Parts.{entry_of, id_of}
use Rattle.update_model.specs.Graph.{AreHeads}

-- the note of an update, with its id
abbrev pub note_line_of : List ℕ → NoteLine
note_line_of bytes = record { id = id_of bytes; text = note_text bytes }

-- In rising order of ids, these are the notes of members that are not empty.
abbrev pub AreNotesOf : List (List ℕ) → List NoteLine → Type 0
AreNotesOf members notes = (noted : List (List ℕ)) × AreNoted members noted × (notes ≡ map note_line_of noted)

-- What is told of these members is their heads, those that do nothing, and their notes.
pub record IsToldOf (rules : Rules) (members : List (List ℕ)) (told : Told) : Type 0 where
  pub heads : AreHeads (map entry_of members) told.heads
  pub voids : AreVoidsIn rules (nodes_of members) told.voids
  pub notes : AreNotesOf members told.notes
