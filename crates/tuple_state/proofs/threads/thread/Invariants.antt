use Rattle.std.proofs.Common.{◌≡◌, ◌≤◌, length}
use Rattle.tuple_state.specs.Threads.{AreThreads}
use Rattle.tuple_state.proofs.threads.thread.Given as goal

-- the rows from a place on are threaded
abbrev pub invariant-loop-place : goal.invariant-loop-place
invariant-loop-place l = record {
  low : l.place ≤ length l.rows;
  long : length l.firsts ≡ 256;
  threaded : AreThreads l.rows l.firsts l.nexts l.place;
}

abbrev pub decreases-loop-place : goal.decreases-loop-place
decreases-loop-place l = l.place
