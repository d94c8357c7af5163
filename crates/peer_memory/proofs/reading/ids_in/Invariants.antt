use Rattle.std.proofs.Common.{◌≡◌, ◌++◌, ◌+◌, ◌*◌, length}
use Rattle.sync_frames.specs.Payload.{AreIds, spelled_ids}
use Rattle.peer_memory.proofs.reading.ids_in.Given as goal

-- the ids so far, and the bytes of those that are left
abbrev pub invariant-loop : goal.invariant-loop
invariant-loop l = record {
  parts : l.block ≡ spelled_ids l.ids.items ++ l.rest;
  ids : AreIds l.ids.items;
  long : length l.ids.items ≡ l.counter;
  left : length l.rest + 32 * l.counter ≡ 32 * l.count;
}
