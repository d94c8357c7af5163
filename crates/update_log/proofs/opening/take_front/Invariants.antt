use Rattle.std.proofs.Common.{◌≡◌, ◌++◌}
use Rattle.std.specs.Vec.Iter.{into_iter_items}
use Rattle.update_check.specs.Members.{AreMembers}
use Rattle.update_log.proofs.opening.take_front.Given as goal

abbrev pub invariant-loop-update : goal.invariant-loop-update
invariant-loop-update l = record {
  list : l.graph ≡ l.fn.graph ++ l.yielded;
  members : AreMembers l.rule l.graph;
  left : l.fn.front.items ≡ l.yielded ++ into_iter_items l.update-iterator;
}
