use Rattle.std.proofs.Common.{◌≡◌, ◌++◌, take}
use Rattle.confluence_checker.proofs.visibility.push_values.Given as goal

abbrev pub invariant-loop-value : goal.invariant-loop-value
invariant-loop-value l = l.list.items ≡ l.initial.list.items ++ take l.value-index l.values
