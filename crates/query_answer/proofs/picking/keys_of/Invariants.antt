use Rattle.std.proofs.Common.{◌≡◌, List, map, take}
use Rattle.table_model.specs.declared.shown_row.ShownRow.{ShownRow}
use Rattle.query_answer.specs.Answers.{keys_of}
use Rattle.query_answer.specs.Rows.{AreListsOf, shown_row, told}
use Rattle.query_answer.proofs.picking.keys_of.Given as goal

-- the values of the keys so far
abbrev pub invariant-loop-key : goal.invariant-loop-key
invariant-loop-key l = (lists : List (List ShownRow)) → AreListsOf l.rows lists → map told l.values.items ≡ keys_of lists (take l.key-index l.keys) (shown_row l.row)
