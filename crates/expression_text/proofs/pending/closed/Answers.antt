use Rattle.row_check.specs.Trees.{tree_of}
use Rattle.expression_text.proofs.pending.closed.Goals as goal

pub returns-then-takes_bracket : goal.returns-then-takes_bracket
returns-then-takes_bracket c = rw (c.takes_bracket.ensures (tree_of c.args.expr), c.if-takes_bracket.true) c.completed.ensures
