use Rattle.std.proofs.Common.{◌≡◌, ◌+◌, ◌≤◌, ◌++◌, length, map, Ok, vec_len}
use Rattle.std.specs.Vec.{vec_capacity}
use Rattle.std.specs.Vec.Iter.{into_iter_items}
use Rattle.record_check.proofs.verifier.take_front.Given as goal

abbrev pub invariant-loop-answer : goal.invariant-loop-answer
invariant-loop-answer l = record {
  said : l.fn.answers.items ≡ map Ok l.front.items ++ into_iter_items l.answer-iterator;
  room : vec_len l.front + length (into_iter_items l.answer-iterator) ≤ vec_capacity l.front;
}
