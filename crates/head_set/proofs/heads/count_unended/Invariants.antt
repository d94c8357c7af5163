use Rattle.std.proofs.Common.{◌≡◌, ◌+◌, length}
use Rattle.head_set.specs.Spans.{unended}
use Rattle.head_set.proofs.heads.count_unended.Given as goal

abbrev pub invariant-loop-span : goal.invariant-loop-span
invariant-loop-span l = l.count + length (unended l.span-iterator) ≡ length (unended l.spans.entries)
