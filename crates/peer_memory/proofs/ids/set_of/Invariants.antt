use Rattle.std.proofs.Common.{◌≡◌, take}
use Rattle.std.specs.List.Sorted.{IsStrictlySortedBy}
use Rattle.update_model.specs.declared.update_id.UpdateId.{UpdateId as Id}
use Rattle.update_model.specs.Entry.{id_cmp}
use Rattle.update_model.specs.Graph.{has}
use Rattle.peer_memory.proofs.ids.set_of.Given as goal

abbrev pub invariant-loop-id : goal.invariant-loop-id
invariant-loop-id l = record {
  exact : (q : Id) → has l.set.keys q ≡ has (take l.id-index l.ids) q;
  rising : IsStrictlySortedBy id_cmp l.set.keys;
}
