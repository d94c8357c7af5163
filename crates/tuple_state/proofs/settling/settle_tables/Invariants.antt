use Rattle.tuple_state.proofs.Settles.{AreSettledTo}
use Rattle.tuple_state.proofs.settling.settle_tables.Given as goal

-- the counts of the rows of the tables so far are settled
abbrev pub invariant-loop-table : goal.invariant-loop-table
invariant-loop-table l = AreSettledTo l.grounds.shapes.now l.grounds.rows.now l.grounds.children.now l.fn.causes l.table l.causes
