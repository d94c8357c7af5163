use Rattle.std.proofs.Common.{◌≡◌, ◌++◌, drop}
use Rattle.graph_drawing.specs.Words.{clipped}
use Rattle.graph_drawing.proofs.words.push_clipped.Given as goal

-- what is added, and what is still to be added
abbrev pub invariant-loop-byte : goal.invariant-loop-byte
invariant-loop-byte l = l.out.items ++ clipped (drop l.byte-index l.text) l.count ≡ l.fn.out.items ++ clipped l.text l.fn.count
