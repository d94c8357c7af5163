use Rattle.std.proofs.Common.{◌≡◌, ◌≤◌, drop}
use Rattle.expression_text.specs.Places.{after_all}
use Rattle.expression_text.proofs.recognizing.is_expression.Given as goal

-- the tokens that are left lead to where all lead, and no more parentheses are open than tokens were read
abbrev pub invariant-loop-token : goal.invariant-loop-token
invariant-loop-token l = record {
  ahead : after_all l.position (drop l.token-index l.tokens) ≡ after_all l.initial.position l.tokens;
  low : l.position.depth ≤ l.token-index;
}
