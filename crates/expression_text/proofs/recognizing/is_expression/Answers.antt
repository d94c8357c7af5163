use Rattle.expression_text.proofs.Places.{end_reads}
use Rattle.expression_text.proofs.recognizing.is_expression.Goals as goal

pub returns : goal.returns
returns c = end_reads c.args.tokens.now c.loop-token.token-index c.start-position.result c.loop-token.position c.is_end.result c.start-position.ensures c.loop-token-test.false c.loop-token.invariant.ahead c.is_end.ensures
