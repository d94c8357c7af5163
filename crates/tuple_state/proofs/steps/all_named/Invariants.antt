use Rattle.std.proofs.Common.{◌≡◌, map}
use Rattle.table_model.specs.Verdicts.{named}
use Rattle.tuple_state.proofs.steps.all_named.Given as goal

-- the values so far are named
abbrev pub invariant-loop-value : goal.invariant-loop-value
invariant-loop-value l = l.list.items ≡ map (named l.id) l.yielded
