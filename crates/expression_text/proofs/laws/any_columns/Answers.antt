use Rattle.expression_text.proofs.Places.{read-IsExpression, Parses-read}
use Rattle.expression_text.proofs.laws.any_columns.Goals as goal

pub returns : goal.returns
returns c = λ column_of tokens tree p. read-IsExpression tokens (Parses-read p)
