use Rattle.std.proofs.Common.{◌≡◌, ℕ, ◌+◌, ◌-◌, ◌<◌, true, cond, get_or, length, nat_lt}
use Rattle.std.specs.Prelude.{slice_get}
use Rattle.table_model.specs.Counts.{one_where}
use Rattle.tuple_state.specs.Least.{is_behind, is_in}
use Rattle.tuple_state.proofs.settling.count_behind.Given as goal

-- the rows before a place are counted, and the row there is of the table
abbrev pub invariant-loop-place : goal.invariant-loop-place
invariant-loop-place l = record {
  counted : (k : ℕ) → get_or l.causes k 0 ≡ get_or l.fn.causes k 0 + cond (nat_lt k l.place) (one_where (is_behind l.members.rows.now l.groups l.least l.members.table k (slice_get l.members.rows.now k))) 0;
  own : l.place < length l.members.rows.now → is_in l.members.table (slice_get l.members.rows.now l.place) ≡ true;
}

abbrev pub decreases-loop-place : goal.decreases-loop-place
decreases-loop-place l = length l.members.rows.now - l.place
