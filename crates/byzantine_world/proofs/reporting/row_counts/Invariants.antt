use Rattle.std.proofs.Common.{List}
use Rattle.table_model.specs.Visible.{Rules}
use Rattle.update_model.specs.Node.{NodeData}
use Rattle.tuple_state.specs.State.{IsStateOf}
use Rattle.byzantine_world.specs.Shown.{AreRowCounts}
use Rattle.byzantine_world.proofs.reporting.row_counts.Given as goal

-- the tables so far are counted
abbrev pub invariant-tables : goal.invariant-tables
invariant-tables l = (rules : Rules) (nodes : List NodeData) → IsStateOf rules nodes l.tables → AreRowCounts rules nodes l.table l.counts.items
