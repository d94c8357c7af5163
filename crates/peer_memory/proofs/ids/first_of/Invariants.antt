use Rattle.std.proofs.Common.{◌≡◌, ◌≤◌, ◌++◌, length}
use Rattle.std.specs.BTreeSet.{keys}
use Rattle.peer_memory.specs.declared.limits.TheConstants.{MAX_HEADS}
use Rattle.peer_memory.proofs.ids.first_of.Given as goal

abbrev pub invariant-loop-id : goal.invariant-loop-id
invariant-loop-id l = record {
  whole : l.ids.items ++ l.id-iterator ≡ keys l.all;
  few : length l.ids.items ≤ MAX_HEADS;
}
