use Rattle.std.proofs.Common.{◌≡◌, ◌++◌, take}
use Rattle.std.specs.List.{flat_map}
use Rattle.log_texts.specs.Differing.{signed}
use Rattle.log_texts.proofs.differing.push_all_signed.Given as goal

-- the entries so far
abbrev pub invariant-loop-entry : goal.invariant-loop-entry
invariant-loop-entry l = l.out.items ≡ l.fn.out.items ++ flat_map (signed l.names l.sign) (take l.entry-index l.entries)
