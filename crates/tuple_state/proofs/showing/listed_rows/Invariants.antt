use Rattle.std.proofs.Common.{◌++◌}
use Rattle.tuple_state.proofs.Ordered.{AreInOrder, ArePlaced, lines_of}
use Rattle.tuple_state.proofs.showing.listed_rows.Given as goal

-- what is listed and what is left are the lines of the table, and what is left leads to its rows
abbrev pub invariant-loop-place : goal.invariant-loop-place
invariant-loop-place l = AreInOrder l.tables l.table (l.lines.items ++ lines_of l.tables l.table l.place-iterator) × ArePlaced l.tables.inserted l.place-iterator
