use Rattle.std.proofs.Common.{◌≡◌, ◌++◌, ℕ, List, take}
use Rattle.explanations.specs.Heard.{HasHeard, hearing_of}
use Rattle.explanations.proofs.heard_lines.HeardLines.hear.Given as goal

-- the bytes so far are heard
abbrev pub invariant-loop-byte : goal.invariant-loop-byte
invariant-loop-byte l = record {
  heard : (given : List ℕ) → HasHeard (hearing_of l.fn.self) given → HasHeard (hearing_of l.self) (given ++ take l.byte-index l.bytes);
  limit : l.self.limit ≡ l.fn.self.limit;
}
