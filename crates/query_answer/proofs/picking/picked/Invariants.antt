use Rattle.std.proofs.Common.{◌≡◌, List, take}
use Rattle.table_model.specs.declared.shown_row.ShownRow.{ShownRow}
use Rattle.query_answer.specs.Answers.{picked}
use Rattle.query_answer.specs.Rows.{AreListsOf, shown_row}
use Rattle.query_answer.proofs.picking.picked.Given as goal

-- the values so far
abbrev pub invariant-loop-item : goal.invariant-loop-item
invariant-loop-item l = (lists : List (List ShownRow)) → AreListsOf l.rows lists → l.values.items ≡ picked lists (take l.item-index l.items) (shown_row l.row)
