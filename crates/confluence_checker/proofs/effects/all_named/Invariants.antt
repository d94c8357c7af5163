use Rattle.std.proofs.Common.{◌≡◌, take, map}
use Rattle.table_model.specs.Verdicts.{named}
use Rattle.confluence_checker.proofs.effects.all_named.Given as goal

abbrev pub invariant-loop-value : goal.invariant-loop-value
invariant-loop-value l = l.named_values.items ≡ map (named l.id) (take l.value-index l.values)
