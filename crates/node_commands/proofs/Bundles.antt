-- The tables that are shown are those of the nodes.
use Rattle.std.proofs.Common.{List, length}
use Rattle.update_model.specs.Node.{NodeData}
use Rattle.table_model.specs.declared.shown_row.ShownRow.{ShownRow}
use Rattle.table_model.specs.declared.void_line.VoidLine.{VoidLine}
use Rattle.table_model.specs.Tables.{AreTablesOf, AreVoidsIn}
use Rattle.table_model.specs.Visible.{Rules}
use Rattle.query_answer.specs.Answers.{AreShown}

pub tables_shown : (rules : Rules) (nodes : List NodeData) (lists : List (List ShownRow)) (voids : List VoidLine) → AreShown rules nodes (length rules.tables) lists → AreVoidsIn rules nodes voids
    → AreTablesOf rules nodes lists voids
tables_shown rules nodes lists voids shown void = record { number = shown.number; rows = shown.rows; voids = void }
