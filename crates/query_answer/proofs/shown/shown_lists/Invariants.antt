use Rattle.std.proofs.Common.{ℕ, Bool, List}
use Rattle.update_model.specs.Node.{NodeData}
use Rattle.update_model.specs.declared.value.Value.{Value}
use Rattle.table_model.specs.Visible.{rules_with}
use Rattle.tuple_state.specs.State.{IsStateOf}
use Rattle.query_answer.specs.Answers.{AreShown}
use Rattle.query_answer.proofs.shown.shown_lists.Given as goal

-- the tables so far
abbrev pub invariant-loop-number : goal.invariant-loop-number
invariant-loop-number l =
    (ask : ℕ → List Value → Bool) (nodes : List NodeData) → IsStateOf (rules_with ask l.schema.tables) nodes l.tables → AreShown (rules_with ask l.schema.tables) nodes l.number l.lists.items
