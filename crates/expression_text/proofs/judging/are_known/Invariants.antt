use Rattle.std.proofs.Common.{take, All}
use Rattle.expression_text.specs.Columns.{IsKnown}
use Rattle.expression_text.proofs.judging.are_known.Given as goal

-- each token so far
abbrev pub invariant-loop-token : goal.invariant-loop-token
invariant-loop-token l = All (IsKnown l.names) (take l.token-index l.tokens)
