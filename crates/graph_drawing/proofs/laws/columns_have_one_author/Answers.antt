use Rattle.graph_drawing.proofs.Columns.{one_author}
use Rattle.graph_drawing.proofs.laws.columns_have_one_author.Goals as goal

pub returns : goal.returns
returns c = one_author
