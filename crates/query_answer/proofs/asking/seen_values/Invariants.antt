use Rattle.std.proofs.Common.{◌≡◌, List, map, take}
use Rattle.row_check.specs.Kinds.{FitsKinds}
use Rattle.query.specs.Columns.{seen_kinds}
use Rattle.table_model.specs.declared.shown_row.ShownRow.{ShownRow}
use Rattle.query_answer.specs.Rows.{AreListsOf, shown_row}
use Rattle.query_answer.specs.Values.{seen_at}
use Rattle.query_answer.proofs.asking.seen_values.Given as goal

-- the values so far
abbrev pub invariant-loop-slot : goal.invariant-loop-slot
invariant-loop-slot l =
    FitsKinds (seen_kinds (take l.slot-index l.slots)) l.values.items
    × ((lists : List (List ShownRow)) → AreListsOf l.rows lists → l.values.items ≡ map (seen_at lists (shown_row l.row)) (take l.slot-index l.slots))
