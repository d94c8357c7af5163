use Rattle.std.proofs.Common.{◌≡◌, ◌-◌}
use Rattle.std.specs.Prelude.{None}
use Rattle.sync_frames.specs.Reading.{ids_at}
use Rattle.sync_frames.proofs.Loops.{with_front}
use Rattle.sync_frames.proofs.payloads.ids_of.Given as goal

-- the ids so far, and those that are still read, are all of them
abbrev pub invariant-loop : goal.invariant-loop
invariant-loop l = with_front l.ids.items (ids_at (l.count - l.counter) l.last l.rest) ≡ ids_at l.count None l.bytes
