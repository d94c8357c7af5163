use Rattle.std.proofs.Common.{◌≡◌, ◌++◌, map, take}
use Rattle.schema_text.specs.Printing.{behind_blanks, token_text}
use Rattle.query_printing.proofs.printing.push_others.Given as goal

-- the words so far
abbrev pub invariant-loop-word : goal.invariant-loop-word
invariant-loop-word l = l.out.items ≡ l.fn.out.items ++ behind_blanks (map token_text (take l.word-index l.words))
