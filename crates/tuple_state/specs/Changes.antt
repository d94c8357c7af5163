-- What the update that is next does, once it is valid.
use Rattle.std.specs.Prelude.{◌≡◌, ℕ, List, length, map, reverse}
use Rattle.update_model.specs.Node.{IsNode, NodeData}
use Rattle.table_model.specs.declared.verdict.Verdict.TheVariants as verdict
use Rattle.table_model.specs.Verdicts.{effects_of}
use Rattle.tuple_state.specs.declared.dropped.Dropped.{Dropped}
use Rattle.tuple_state.specs.declared.inserted.Inserted.{Inserted}
use Rattle.tuple_state.specs.Causes.{ends_from, parents_from}
use Rattle.tuple_state.specs.Past.{IsNextVerdict}
use Rattle.tuple_state.specs.State.{State, dropped_at, inserted_at, rules_of_state}

-- These rows and names are those of a valid update that is next.
pub record AreNextChanges (state : State) (inserted : List Inserted) (dropped : List Dropped) : Type 0 where
  pub node : NodeData
  pub next : IsNextVerdict state node verdict.Valid
  pub small : IsNode node
  pub rows : inserted ≡ map (inserted_at state.count) (reverse (effects_of node).inserted)
  pub names : dropped ≡ map (dropped_at state.count) (reverse (effects_of node).deleted)

-- These rows and names are those of a valid update that is next. Beside them are the names that the rows name by CASCADE, and of each
-- row how many links there are once its own are added.
pub record AreWithParents (state : State) (inserted : List Inserted) (dropped parents : List Dropped) (ends : List ℕ) : Type 0 where
  pub changes : AreNextChanges state inserted dropped
  pub parents_are : parents ≡ parents_from (rules_of_state state) (length state.inserted) inserted
  pub ends_are : ends ≡ ends_from (rules_of_state state) (length (parents_from (rules_of_state state) 0 state.inserted)) inserted
