use Rattle.std.proofs.Common.{◌≡◌, map, take}
use Rattle.std.specs.BTreeSet.{keys}
use Rattle.update_model.specs.declared.update_id.UpdateId.{UpdateId as Id}
use Rattle.update_model.specs.Graph.{has, names}
use Rattle.update_codec.specs.Parts.{entry_of}
use Rattle.mem_holder.proofs.id_sets.named_ids.Given as goal

abbrev pub invariant-loop-position : goal.invariant-loop-position
invariant-loop-position l = (id : Id) → has (keys l.named) id ≡ names (map entry_of (take l.position l.graph)) id
