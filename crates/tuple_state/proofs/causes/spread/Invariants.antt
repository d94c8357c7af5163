use Rattle.std.proofs.Common.{◌≡◌, ℕ, ◌+◌, ◌≤◌, true, length, get_or}
use Rattle.std.specs.Vec.{vec_capacity}
use Rattle.tuple_state.specs.Causes.{absent_times, are_below, pending_times, standing}
use Rattle.tuple_state.proofs.causes.spread.Given as goal

-- counts and what is pending make up what is to be added
abbrev pub invariant-loop-place : goal.invariant-loop-place
invariant-loop-place l = record {
  each : length l.causes ≡ length l.fn.causes;
  even : (k : ℕ) → get_or l.causes k 0 + pending_times l.children.links l.pending.items k + absent_times l.children.links l.fn.causes k
      ≡ get_or l.fn.causes k 0 + pending_times l.children.links l.fn.pending.items k + absent_times l.children.links l.causes k;
  inside : are_below (length l.causes) l.pending.items ≡ true;
  room : standing l.causes + length l.pending.items ≤ vec_capacity l.pending;
}

abbrev pub decreases-loop-place : goal.decreases-loop-place
decreases-loop-place l = standing l.causes + length l.pending.items
