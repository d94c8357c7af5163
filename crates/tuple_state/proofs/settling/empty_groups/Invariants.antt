use Rattle.std.proofs.Common.{◌≡◌, ℕ, ◌-◌, ◌<◌, true, get_or, length, None}
use Rattle.std.specs.Prelude.{slice_get}
use Rattle.tuple_state.specs.Least.{is_in}
use Rattle.tuple_state.proofs.settling.empty_groups.Given as goal

-- nothing is left for the groups of the rows before a place, and the row there is of the table
abbrev pub invariant-loop-place : goal.invariant-loop-place
invariant-loop-place l = record {
  none : (k : ℕ) → k < l.place → is_in l.members.table (slice_get l.members.rows.now k) ≡ true → get_or l.least (get_or l.groups k 0) None ≡ None;
  own : l.place < length l.members.rows.now → is_in l.members.table (slice_get l.members.rows.now l.place) ≡ true;
}

abbrev pub decreases-loop-place : goal.decreases-loop-place
decreases-loop-place l = length l.members.rows.now - l.place
