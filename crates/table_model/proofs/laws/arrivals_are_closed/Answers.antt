use Rattle.std.proofs.Common.{[]}
use Rattle.table_model.proofs.Arrivals.{closed_reversed}
use Rattle.table_model.proofs.laws.arrivals_are_closed.Goals as goal

pub returns : goal.returns
returns c graph nodes are closed = closed_reversed [] [] tt graph nodes are tt closed
