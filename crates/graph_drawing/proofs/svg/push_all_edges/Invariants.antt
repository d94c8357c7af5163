use Rattle.std.proofs.Common.{◌≡◌, ◌++◌, take}
use Rattle.std.specs.List.{flat_map}
use Rattle.graph_drawing.specs.Svg.{edges}
use Rattle.graph_drawing.proofs.svg.push_all_edges.Given as goal

-- the boxes so far
abbrev pub invariant-loop-spot : goal.invariant-loop-spot
invariant-loop-spot l = l.out.items ≡ l.fn.out.items ++ flat_map (edges l.spots) (take l.spot-index l.spots)
