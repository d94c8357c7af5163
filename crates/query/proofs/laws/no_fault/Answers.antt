use Rattle.query.proofs.Unique.{read_no_fault}
use Rattle.query.proofs.laws.no_fault.Goals as goal

pub returns : goal.returns
returns c = read_no_fault c.one_expression.ensures
