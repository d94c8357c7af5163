use Rattle.std.proofs.Common.{◌≡◌, ◌++◌, take}
use Rattle.table_text.specs.Values.{values_text}
use Rattle.table_text.proofs.values.push_values.Given as goal

-- the values so far
abbrev pub invariant-loop-value : goal.invariant-loop-value
invariant-loop-value l = l.out.items ≡ l.fn.out.items ++ values_text l.style (take l.value-index l.values)
