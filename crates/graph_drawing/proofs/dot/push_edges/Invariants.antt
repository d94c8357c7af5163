use Rattle.std.proofs.Common.{◌≡◌, ◌++◌, take}
use Rattle.std.specs.List.{flat_map}
use Rattle.graph_drawing.specs.Dot.{dot_edge_to}
use Rattle.graph_drawing.specs.Svg.{box_of}
use Rattle.graph_drawing.proofs.dot.push_edges.Given as goal

-- the predecessors so far
abbrev pub invariant-loop-id : goal.invariant-loop-id
invariant-loop-id l = l.out.items ≡ l.fn.out.items ++ flat_map (λ id. dot_edge_to l.spot (box_of l.spots id)) (take l.id-index l.spot.node.preds)
