use Rattle.query.proofs.Unique.{query_one}
use Rattle.query.proofs.laws.one_query.Goals as goal

pub returns : goal.returns
returns c = query_one c.one_expression.ensures
