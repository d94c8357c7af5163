use Rattle.std.proofs.Common.{◌≡◌, ◌≤◌, take}
use Rattle.graph_drawing.specs.Boxes.{arranged}
use Rattle.graph_drawing.proofs.boxes.arrange.Given as goal

-- the boxes so far, which have at most one column each
abbrev pub invariant-loop-next : goal.invariant-loop-next
invariant-loop-next l = record {
  made : record { spots = l.spots.items; width = l.width } ≡ arranged l.told (take l.next-index l.placed);
  few : l.width ≤ l.next-index;
}
