use Rattle.row_check.proofs.Trees.{kinds_fit}
use Rattle.row_check.proofs.laws.kinds_fit_rows.Goals as goal

pub returns : goal.returns
returns c = kinds_fit
