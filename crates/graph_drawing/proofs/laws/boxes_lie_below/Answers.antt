use Rattle.graph_drawing.proofs.Below.{boxes_below}
use Rattle.graph_drawing.proofs.laws.boxes_lie_below.Goals as goal

pub returns : goal.returns
returns c = boxes_below
