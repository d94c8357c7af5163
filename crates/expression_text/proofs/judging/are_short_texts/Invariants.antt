use Rattle.std.proofs.Common.{take, All}
use Rattle.expression_text.specs.Columns.{HasShortText}
use Rattle.expression_text.proofs.judging.are_short_texts.Given as goal

-- each token so far
abbrev pub invariant-loop-token : goal.invariant-loop-token
invariant-loop-token l = All HasShortText (take l.token-index l.tokens)
