use Rattle.std.proofs.Common.{◌≡◌, take}
use Rattle.graph_drawing.specs.Svg.{last_depth}
use Rattle.graph_drawing.proofs.svg.last_depth.Given as goal

-- the depth of the last one so far
abbrev pub invariant-loop-spot : goal.invariant-loop-spot
invariant-loop-spot l = l.depth ≡ last_depth (take l.spot-index l.spots)
