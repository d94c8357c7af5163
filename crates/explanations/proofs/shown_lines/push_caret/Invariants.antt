use Rattle.std.proofs.Common.{◌≡◌, ◌++◌, take}
use Rattle.std.specs.Prelude.{codes}
use Rattle.std.specs.List.{flat_map}
use Rattle.explanations.specs.Shown.{blank_below}
use Rattle.explanations.proofs.shown_lines.push_caret.Given as goal

-- what stands below the bytes so far
abbrev pub invariant-loop-byte : goal.invariant-loop-byte
invariant-loop-byte l = l.out.items ≡ l.fn.out.items ++ (codes "      | " ++ flat_map blank_below (take l.byte-index l.front))
