use Rattle.std.proofs.Common.{◌≡◌, ◌++◌, take}
use Rattle.std.specs.List.{flat_map}
use Rattle.graph_drawing.specs.Svg.{box_text, first_depth}
use Rattle.graph_drawing.proofs.svg.push_boxes.Given as goal

-- the boxes so far
abbrev pub invariant-loop-spot : goal.invariant-loop-spot
invariant-loop-spot l = l.out.items ≡ l.fn.out.items ++ flat_map (box_text l.schema.tables (first_depth l.spots)) (take l.spot-index l.spots)
