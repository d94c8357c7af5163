use Rattle.std.proofs.Common.{◌≡◌, ℕ, ◌+◌, ◌-◌, ◌<◌, true, cond, get_or, length, nat_lt}
use Rattle.std.specs.Prelude.{slice_get}
use Rattle.tuple_state.specs.Causes.{absent_times}
use Rattle.tuple_state.specs.Least.{is_in}
use Rattle.tuple_state.proofs.settling.count_in.Given as goal

-- the rows before a place are counted, and the row there is of the table
abbrev pub invariant-loop-place : goal.invariant-loop-place
invariant-loop-place l = record {
  counted : (k : ℕ) → get_or l.causes k 0 ≡ get_or l.fn.causes k 0 + cond (nat_lt k l.place) (cond (is_in l.members.table (slice_get l.grounds.rows.now k)) (absent_times l.grounds.children.now l.causes k) 0) 0;
  own : l.place < length l.grounds.rows.now → is_in l.members.table (slice_get l.grounds.rows.now l.place) ≡ true;
}

abbrev pub decreases-loop-place : goal.decreases-loop-place
decreases-loop-place l = length l.grounds.rows.now - l.place
