use Rattle.std.proofs.Common.{◌≡◌, ◌++◌, take}
use Rattle.std.specs.List.{flat_map}
use Rattle.graph_drawing.specs.Dot.{dot_node}
use Rattle.graph_drawing.proofs.dot.push_nodes.Given as goal

-- the nodes so far
abbrev pub invariant-loop-spot : goal.invariant-loop-spot
invariant-loop-spot l = l.out.items ≡ l.fn.out.items ++ flat_map (dot_node l.schema.tables) (take l.spot-index l.spots)
