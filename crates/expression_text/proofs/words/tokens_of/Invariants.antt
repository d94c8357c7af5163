use Rattle.std.proofs.Common.{◌≡◌, take, map}
use Rattle.expression_text.specs.Words.{token_of}
use Rattle.expression_text.proofs.words.tokens_of.Given as goal

-- the tokens of the words so far
abbrev pub invariant-loop-word : goal.invariant-loop-word
invariant-loop-word l = l.tokens.items ≡ map token_of (take l.word-index l.words)
