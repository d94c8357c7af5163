use Rattle.std.proofs.Common.{List, ap, subst, sym, length, arith, length-append}
use Rattle.peer_memory.specs.declared.peer.Peer.{Peer}
use Rattle.peer_memory.specs.Peers.{ArePeers}
use Rattle.peer_memory.proofs.Telling.{payload_short}
use Rattle.peer_memory.proofs.peers.Peers.payload.Goals as goal

pub returns-clause-short : goal.returns-clause-short
returns-clause-short c =
    let are = subst (λ (peers : List Peer). ArePeers peers) (sym c.as_slice.ensures.value) c.self.invariant in
    let all = ap length c.in_ok-extend_from_slice.ensures.items in
    let none = ap length c.new-out.ensures.items in
    let two = ap length c.to_be_bytes.ensures in
    payload_short c.as_slice.result.now c.extend_from_slice.new.self.items c.put_peers.new.out.items are
    (omega (arith, length-append c.new-out.result.items c.to_be_bytes.result)) c.in_ok-put_peers.ensures
