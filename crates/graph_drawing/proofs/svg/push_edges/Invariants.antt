use Rattle.std.proofs.Common.{◌≡◌, ◌++◌, take}
use Rattle.std.specs.List.{flat_map}
use Rattle.graph_drawing.specs.Svg.{box_of, edge_to, first_depth}
use Rattle.graph_drawing.proofs.svg.push_edges.Given as goal

-- the predecessors so far
abbrev pub invariant-loop-id : goal.invariant-loop-id
invariant-loop-id l = l.out.items ≡ l.fn.out.items ++ flat_map (λ id. edge_to (first_depth l.spots) l.spot (box_of l.spots id)) (take l.id-index l.spot.node.preds)
