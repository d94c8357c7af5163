use Rattle.std.proofs.Common.{◌≡◌, reverse, take}
use Rattle.std.specs.BTreeMap.{get}
use Rattle.std.specs.Option.{unwrap_or}
use Rattle.update_model.specs.declared.update_id.UpdateId.{UpdateId}
use Rattle.update_model.specs.Entry.{id_cmp}
use Rattle.graph_drawing.specs.Depths.{depth_in, nodes_of, placed_in}
use Rattle.graph_drawing.proofs.depths.place_all.Given as goal

-- the depths of the members so far are known, and they are placed
abbrev pub invariant-loop-position : goal.invariant-loop-position
invariant-loop-position l = record {
  known : (id : UpdateId) → unwrap_or (get id_cmp l.depths id) 0 ≡ depth_in (nodes_of (take l.position l.graph)) id;
  placed : l.placed.items ≡ reverse (placed_in (nodes_of (take l.position l.graph)));
}
