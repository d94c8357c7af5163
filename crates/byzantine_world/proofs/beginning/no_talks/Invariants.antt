use Rattle.std.proofs.Common.{◌≡◌, ◌≤◌, length}
use Rattle.std.specs.Vec.{vec_capacity}
use Rattle.byzantine_world.specs.Begun.{AreNone}
use Rattle.byzantine_world.specs.declared.beginning.TheConstants.{SESSIONS}
use Rattle.byzantine_world.proofs.beginning.no_talks.Given as goal

-- the numbers so far have none, and there is room for all
abbrev pub invariant-talks : goal.invariant-talks
invariant-talks l = record {
  none : AreNone l.talks.items;
  many : length l.talks.items ≡ l.counter;
  room : SESSIONS ≤ vec_capacity l.talks;
}
