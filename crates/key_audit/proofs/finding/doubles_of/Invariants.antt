use Rattle.std.proofs.Common.{◌≡◌, ◌++◌}
use Rattle.key_audit.specs.Walk.{doubles_in}
use Rattle.key_audit.proofs.finding.doubles_of.Given as goal

-- what is listed, and what is left
abbrev pub invariant-loop-key : goal.invariant-loop-key
invariant-loop-key l = l.doubles.items ++ doubles_in l.key-iterator ≡ doubles_in l.found.entries
