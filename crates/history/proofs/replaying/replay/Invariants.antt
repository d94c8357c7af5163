use Rattle.std.proofs.Common.{◌≡◌}
use Rattle.table_model.specs.Visible.{rules_with}
use Rattle.tuple_state.specs.State.{IsStateOf}
use Rattle.history.specs.Arrivals.{nodes_before, places_before}
use Rattle.history.proofs.replaying.replay.Given as goal

-- the members so far are taken
abbrev pub invariant-loop-position : goal.invariant-loop-position
invariant-loop-position g l = record {
  state : IsStateOf (rules_with g.L.Relation.answer l.schema.tables) (nodes_before l.graph l.position) l.tables;
  places : l.ancestry ≡ places_before l.graph l.position;
}
