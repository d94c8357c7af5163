use Rattle.std.proofs.Common.{◌≡◌}
use Rattle.lock_bench.proofs.turns.take_turns.Given as goal

abbrev pub invariant-loop : goal.invariant-loop
invariant-loop g l = l.seat.lock ≡ l.lock
