use Rattle.std.proofs.Common.{◌≡◌, ◌++◌, take}
use Rattle.std.specs.List.{flat_map}
use Rattle.peer_memory.specs.Payload.{spelled_peer}
use Rattle.peer_memory.proofs.writing.put_peers.Given as goal

abbrev pub invariant-loop-peer : goal.invariant-loop-peer
invariant-loop-peer l = l.out.items ≡ l.fn.out.items ++ flat_map spelled_peer (take l.peer-index l.peers)
