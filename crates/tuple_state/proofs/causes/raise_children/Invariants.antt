use Rattle.std.proofs.Common.{ℕ, ◌-◌, ◌==◌, ◌≤◌, length}
use Rattle.std.specs.Prelude.{count_by}
use Rattle.std.specs.Vec.{vec_capacity}
use Rattle.tuple_state.specs.Causes.{Raised, times_of}
use Rattle.tuple_state.specs.Links.{IsBelow, numbers_from}
use Rattle.tuple_state.proofs.Linking.{size_of}
use Rattle.tuple_state.proofs.causes.raise_children.Given as goal

-- the counts have grown by the numbers that are no longer left
abbrev pub invariant-loop-next : goal.invariant-loop-next
invariant-loop-next l = record {
  below : IsBelow l.next (length l.children.links);
  left : (k : ℕ) → count_by (λ n. n == k) (numbers_from l.children.links l.next) ≤ times_of l.children.links l.place k;
  raised : Raised l.children.links (λ k. times_of l.children.links l.place k - count_by (λ n. n == k) (numbers_from l.children.links l.next)) l.fn.causes l.fn.pending.items l.causes l.pending.items;
  room : vec_capacity l.fn.pending ≤ vec_capacity l.pending;
}

abbrev pub decreases-loop-next : goal.decreases-loop-next
decreases-loop-next l = size_of l.next
