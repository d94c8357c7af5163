use Rattle.query.proofs.Placing.{text_is}
use Rattle.query.proofs.pieces.is_text.Goals as goal

pub returns-clause-is : goal.returns-clause-is
returns-clause-is c = text_is c.check_value_text.result c.args.bytes.now c.check_value_text.ensures
