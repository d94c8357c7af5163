use Rattle.std.proofs.Common.{◌≡◌, ◌<◌, ◌≤◌, ◌+◌, ◌-◌, ℕ, false, length, slice_index_or}
use Rattle.ancestry.proofs.Sweep.{IsSwept}
use Rattle.ancestry.proofs.walk.reaches.Given as goal

abbrev pub invariant-loop-offset : goal.invariant-loop-offset
invariant-loop-offset l = record {
  long : length l.marks.items ≡ l.b - l.a + 1;
  swept : IsSwept l.members l.a l.b l.offset l.marks.items;
  inside : l.low ≤ l.b - l.a;
  bare : (j : ℕ) → j < l.low → slice_index_or l.marks.items j false ≡ false;
}
