use Rattle.std.proofs.Common.{◌≡◌, ◌-◌, ◌<◌, true, length}
use Rattle.std.specs.Prelude.{slice_get}
use Rattle.tuple_state.specs.Least.{AreLeast, is_in}
use Rattle.tuple_state.proofs.settling.find_least.Given as goal

-- of the rows before a place the least ones are known, and the row there is of the table
abbrev pub invariant-loop-place : goal.invariant-loop-place
invariant-loop-place l = record {
  least : AreLeast l.members.rows.now l.causes l.groups l.members.table l.place l.least;
  own : l.place < length l.members.rows.now → is_in l.members.table (slice_get l.members.rows.now l.place) ≡ true;
}

abbrev pub decreases-loop-place : goal.decreases-loop-place
decreases-loop-place l = length l.members.rows.now - l.place
