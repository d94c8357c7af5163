use Rattle.std.proofs.Common.{take}
use Rattle.sync_frames.specs.Payload.{AreIds}
use Rattle.peer_memory.proofs.peers.are_ids.Given as goal

abbrev pub invariant-loop-id : goal.invariant-loop-id
invariant-loop-id l = AreIds (take l.id-index l.ids)
