use Rattle.std.proofs.Common.{◌≡◌, ◌++◌, take}
use Rattle.sync_frames.specs.Payload.{spelled_ids}
use Rattle.peer_memory.proofs.writing.put_ids.Given as goal

abbrev pub invariant-loop-id : goal.invariant-loop-id
invariant-loop-id l = l.out.items ≡ l.fn.out.items ++ spelled_ids (take l.id-index l.ids)
