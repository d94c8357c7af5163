use Rattle.std.proofs.Common.{◌≡◌, ◌&&◌, map, not, take}
use Rattle.std.specs.BTreeSet.{keys}
use Rattle.std.specs.List.Sorted.{IsStrictlySortedBy}
use Rattle.update_model.specs.declared.update_id.UpdateId.{UpdateId as Id}
use Rattle.update_model.specs.Entry.{id_cmp}
use Rattle.update_model.specs.Graph.{has, holds, names}
use Rattle.update_codec.specs.Parts.{entry_of}
use Rattle.mem_holder.proofs.id_sets.heads_of.Given as goal

abbrev pub invariant-loop-position : goal.invariant-loop-position
invariant-loop-position l = record {
  exact : (id : Id) → has (keys l.heads) id ≡ (holds (map entry_of (take l.position l.graph)) id && not (names (map entry_of l.graph) id));
  rising : IsStrictlySortedBy id_cmp (keys l.heads);
}
