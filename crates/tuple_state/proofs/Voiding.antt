-- The lines of updates that do nothing have ids of their own.
use Rattle.std.proofs.Common.{◌≡◌, List, map, reverse, ap, ◌∙◌}
use Rattle.std.specs.List.Sorted.{IsPermutation, IsStrictlySortedBy}
use Rattle.update_model.specs.Entry.{id_cmp}
use Rattle.update_model.specs.Node.{NodeData}
use Rattle.table_model.specs.declared.void_line.VoidLine.{VoidLine}
use Rattle.table_model.specs.Tables.{AreVoidsIn, HasDistinctIds, void_lines}
use Rattle.table_model.specs.Verdicts.{judged}
use Rattle.table_model.specs.Visible.{Rules}
use Rattle.table_model.proofs.Rising.{arrived_distinct, arrived_exact, lines_distinct}
use Rattle.tuple_state.specs.declared.voided.Voided.{Voided}
use Rattle.tuple_state.specs.State.{IsStateOf, State}
use Rattle.tuple_state.proofs.Effects.{voids_are}

-- those that a state keeps, once sorted
pub voids_now : (rules : Rules) (nodes : List NodeData) (state : State) → IsStateOf rules nodes state → (lines sorted : List VoidLine) → lines ≡ map (λ (it : Voided). it.line) state.voids
    → (HasDistinctIds lines → IsStrictlySortedBy id_cmp (map (λ line. line.id) sorted)) → IsPermutation sorted lines → AreVoidsIn rules nodes sorted
voids_now rules nodes state held lines sorted kept rising moved =
    let is : reverse lines ≡ void_lines (judged rules nodes) = ap reverse kept ∙ ap (λ (s : State). reverse (map (λ (it : Voided). it.line) s.voids)) held.is ∙ voids_are rules nodes in
    record {
      rising = rising (arrived_distinct lines (void_lines (judged rules nodes)) is (lines_distinct rules nodes held.closed));
      exact = arrived_exact sorted lines (void_lines (judged rules nodes)) moved is;
    }
