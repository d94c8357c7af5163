use Rattle.std.proofs.Common.{◌≡◌}
use Rattle.tests_of_meetings.proofs.crowd.rounds.Given as goal

abbrev pub invariant-loop : goal.invariant-loop
invariant-loop g l = l.seat.lock ≡ l.lock
