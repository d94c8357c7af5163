-- The bytes of a part that remembers peers, and what bytes read as.
use Rattle.std.specs.Prelude.{◌≡◌, ◌⊎◌, ℕ, List, [], ◌++◌, length}
use Rattle.std.specs.Int.{w16, to_be_bytes}
use Rattle.std.specs.List.{flat_map}
use Rattle.sync_frames.specs.Payload.{counted}
use Rattle.peer_memory.specs.declared.peer.Peer.{Peer}
use Rattle.peer_memory.specs.Peers.{ArePeers}

-- the name, and the ids behind their number
abbrev pub spelled_peer : Peer → List ℕ
spelled_peer peer = peer.name ++ counted w16 peer.heads

-- the peers behind their number
abbrev pub payload_of : List Peer → List ℕ
payload_of peers = to_be_bytes w16 (length peers) ++ flat_map spelled_peer peers

-- These bytes are the payload of these peers.
pub record Spells (peers : List Peer) (bytes : List ℕ) : Type 0 where
  pub are : ArePeers peers
  pub payload : bytes ≡ payload_of peers

-- What bytes read as: the peers whose payload they are, and none where they are no payload.
abbrev pub Reads : List ℕ → List Peer → Type 0
Reads bytes peers = Spells peers bytes ⊎ ((peers ≡ []) × ((others : List Peer) → Spells others bytes → ⊥))
