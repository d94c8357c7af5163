use Rattle.std.proofs.Common.{◌≡◌, ◌++◌}
use Rattle.std.specs.Vec.Iter.{into_iter_items}
use Rattle.record_check.specs.Records.{AreAnswers, bytes_of}
use Rattle.record_check.proofs.verifier.each_here.Given as goal

abbrev pub invariant-loop-bytes : goal.invariant-loop-bytes
invariant-loop-bytes l = record {
  said : AreAnswers l.rule (bytes_of l.yielded) l.answers.items;
  left : l.fn.records.items ≡ l.yielded ++ into_iter_items l.bytes-iterator;
}
