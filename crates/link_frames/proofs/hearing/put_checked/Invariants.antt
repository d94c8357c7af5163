use Rattle.std.proofs.Common.{◌≡◌, ◌++◌, [], map}
use Rattle.std.specs.Vec.Iter.{into_iter_items}
use Rattle.link_frames.specs.Checking.{answered}
use Rattle.link_frames.proofs.hearing.put_checked.Given as goal

abbrev pub invariant-loop-answer : goal.invariant-loop-answer
invariant-loop-answer g l = record {
  none : l.run.items ≡ [];
  put : l.all.items ≡ l.initial.all.items ++ map answered l.yielded;
  left : into_iter_items l.initial.answer-iterator ≡ l.yielded ++ into_iter_items l.answer-iterator;
}
