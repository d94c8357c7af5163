use Rattle.std.proofs.Common.{◌≡◌, ◌||◌, take}
use Rattle.update_model.specs.declared.update_id.UpdateId.{UpdateId as Id}
use Rattle.update_model.specs.Graph.{has}
use Rattle.mem_holder.proofs.id_sets.insert_all.Given as goal

abbrev pub invariant-loop-id : goal.invariant-loop-id
invariant-loop-id l = (q : Id) → has l.set.keys q ≡ (has l.initial.set.keys q || has (take l.id-index l.ids) q)
