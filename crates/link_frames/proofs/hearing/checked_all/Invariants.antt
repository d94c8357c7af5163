use Rattle.std.proofs.Common.{◌≡◌, ◌++◌}
use Rattle.std.specs.Vec.Iter.{into_iter_items}
use Rattle.record_check.specs.Records.{bytes_of}
use Rattle.link_frames.proofs.Checking.{Checks}
use Rattle.link_frames.proofs.hearing.checked_all.Given as goal

abbrev pub invariant-loop-frame : goal.invariant-loop-frame
invariant-loop-frame g l = record {
  checks : Checks l.rule l.yielded (bytes_of l.run.items) l.all.items;
  left : l.fn.frames.items ≡ l.yielded ++ into_iter_items l.frame-iterator;
}
