use Rattle.std.proofs.Common.{◌≡◌}
use Rattle.tests_of_meetings.proofs.crowd.split_and_meet.Given as goal

abbrev pub invariant-loop-number : goal.invariant-loop-number
invariant-loop-number g l = l.seat.lock ≡ l.lock
