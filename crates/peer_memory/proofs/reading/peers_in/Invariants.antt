use Rattle.std.proofs.Common.{◌≡◌, ◌≢◌, ◌++◌, All, length}
use Rattle.std.specs.Int.{w16, to_be_bytes}
use Rattle.std.specs.List.{AllPairs, flat_map}
use Rattle.peer_memory.specs.Payload.{spelled_peer}
use Rattle.peer_memory.specs.Peers.{IsPeer}
use Rattle.peer_memory.proofs.reading.peers_in.Given as goal

-- the peers so far, and what is still to be read
abbrev pub invariant-loop : goal.invariant-loop
invariant-loop l = record {
  parts : l.bytes ≡ to_be_bytes w16 l.count ++ (flat_map spelled_peer l.peers.items ++ l.rest);
  each : All IsPeer l.peers.items;
  apart : AllPairs (λ a b. a.name ≢ b.name) l.peers.items;
  long : length l.peers.items ≡ l.counter;
}
