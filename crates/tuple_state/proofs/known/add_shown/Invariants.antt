use Rattle.std.proofs.Common.{◌≡◌, ℕ, ◌≤◌, ◌==◌, ◌&&◌, get_or, length}
use Rattle.tuple_state.specs.Known.{count_to}
use Rattle.tuple_state.proofs.known.add_shown.Given as goal

-- the places so far are counted
abbrev pub invariant-loop-place : goal.invariant-loop-place
invariant-loop-place l = record {
  counts : (group : ℕ) → get_or l.shown group 0 ≡ count_to (λ k. (get_or l.causes k 0 == 0) && (get_or l.groups k 0 == group)) l.place;
  most : l.place ≤ length l.groups;
}
