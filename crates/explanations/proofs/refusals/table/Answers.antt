use Rattle.explanations.specs.Explained.{the_table}
use Rattle.explanations.proofs.refusals.table.Goals as goal

pub returns : goal.returns
unfolding the_table
returns c = c.as_bytes.ensures.value
