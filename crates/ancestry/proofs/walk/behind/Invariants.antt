use Rattle.std.proofs.Common.{◌≡◌, length}
use Rattle.ancestry.proofs.Marking.{IsMarked}
use Rattle.ancestry.proofs.walk.behind.Given as goal

abbrev pub invariant-loop-position : goal.invariant-loop-position
invariant-loop-position l = record {
  long : length l.marks.items ≡ length l.members;
  marked : IsMarked l.members l.old l.position l.marks.items;
}
