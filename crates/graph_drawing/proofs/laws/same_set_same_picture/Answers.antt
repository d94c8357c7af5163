use Rattle.graph_drawing.proofs.SamePictures.{same_picture}
use Rattle.graph_drawing.proofs.laws.same_set_same_picture.Goals as goal

pub returns : goal.returns
returns c = same_picture
