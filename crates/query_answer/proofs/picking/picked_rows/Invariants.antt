use Rattle.std.proofs.Common.{◌≡◌, List, map, take}
use Rattle.table_model.specs.declared.shown_row.ShownRow.{ShownRow}
use Rattle.query_answer.specs.Answers.{picked}
use Rattle.query_answer.specs.Rows.{AreListsOf, shown_row}
use Rattle.query_answer.proofs.picking.picked_rows.Given as goal

-- the rows so far
abbrev pub invariant-loop-line : goal.invariant-loop-line
invariant-loop-line l =
    (lists : List (List ShownRow)) → AreListsOf l.rows lists → l.values.items ≡ map (λ line. picked lists l.items (shown_row line.row)) (take l.line-index l.lines)
