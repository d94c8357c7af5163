use Rattle.std.proofs.Common.{◌≡◌, ◌++◌, take}
use Rattle.tuple_state.proofs.showing.push_values.Given as goal

-- the values so far stand at the end
abbrev pub invariant-loop-value : goal.invariant-loop-value
invariant-loop-value l = l.list.items ≡ l.initial.list.items ++ take l.value-index l.values
