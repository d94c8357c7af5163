use Rattle.std.proofs.Common.{List}
use Rattle.table_model.specs.declared.shown_row.ShownRow.{ShownRow}
use Rattle.query_answer.specs.Fronts.{Holds, asked_lines}
use Rattle.query_answer.specs.Rows.{AreListsOf, rows_before}
use Rattle.query_answer.specs.Values.{is_asked}
use Rattle.query_answer.proofs.answering.lines_of.Given as goal

-- a front of the rows so far that are asked for
abbrev pub invariant-loop-place : goal.invariant-loop-place
invariant-loop-place g l =
    (lists : List (List ShownRow)) → AreListsOf l.rows lists
    → Holds l.query.keys.items l.query.limit l.front
    (asked_lines lists l.query.keys.items (is_asked g.L.Relation.answer lists l.query.condition) (rows_before l.rows l.query.table l.place))
