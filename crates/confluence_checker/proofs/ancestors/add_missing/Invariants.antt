use Rattle.std.proofs.Common.{◌≡◌, ◌||◌, take}
use Rattle.update_model.specs.declared.update_id.UpdateId.{UpdateId}
use Rattle.update_model.specs.Graph.{has}
use Rattle.confluence_checker.proofs.ancestors.add_missing.Given as goal

abbrev pub invariant-loop-id : goal.invariant-loop-id
invariant-loop-id l = (id : UpdateId) → has l.ids.items id ≡ (has l.initial.ids.items id || has (take l.id-index l.more) id)
