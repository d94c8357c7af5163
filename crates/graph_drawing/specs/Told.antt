-- What is told of updates beside themselves.
use Rattle.std.specs.Prelude.{List}
use Rattle.update_model.specs.declared.update_id.UpdateId.{UpdateId}
use Rattle.table_model.specs.declared.void_line.VoidLine.{VoidLine}
use Rattle.graph_drawing.specs.declared.note_line.NoteLine.{NoteLine}

-- the heads, the updates that do nothing, and the notes of updates
pub record Told : Type 0 where
  pub heads : List UpdateId
  pub voids : List VoidLine
  pub notes : List NoteLine
