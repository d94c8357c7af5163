-- Peers, and the heads that are remembered of them.
use Rattle.std.specs.Prelude.{◌≡◌, ◌≢◌, ◌≤◌, ℕ, Bool, List, [], ◌∷◌, ◌++◌, All, length, drop, find, bytes_eq, not, nat_lt, if◌then◌else◌}
use Rattle.std.specs.Option.{option_map_or}
use Rattle.std.specs.List.{AllPairs, filter}
use Rattle.std.specs.List.Sorted.{IsStrictlySortedBy}
use Rattle.session_rules.specs.Steps.{AreLeast}
use Rattle.sync_frames.specs.Payload.{AreIds}
use Rattle.update_model.specs.declared.update_id.UpdateId.{UpdateId}
use Rattle.update_model.specs.Entry.{id_cmp}
use Rattle.update_model.specs.Graph.{has}
use Rattle.peer_memory.specs.declared.limits.TheConstants.{MAX_PEERS, MAX_HEADS}
use Rattle.peer_memory.specs.declared.peer.Peer.{Peer}

-- whether it is the peer of this name
abbrev pub is_named : List ℕ → Peer → Bool
is_named name peer = bytes_eq peer.name name

-- A name of 32 bytes, and few ids of 32 bytes, which rise.
pub record IsPeer (peer : Peer) : Type 0 where
  pub name : length peer.name ≡ 32
  pub few : length peer.heads ≤ MAX_HEADS
  pub ids : AreIds peer.heads
  pub rising : IsStrictlySortedBy id_cmp peer.heads

-- Few peers, of which no two have one name.
pub record ArePeers (peers : List Peer) : Type 0 where
  pub few : length peers ≤ MAX_PEERS
  pub each : All IsPeer peers
  pub apart : AllPairs (λ a b. a.name ≢ b.name) peers

-- what is remembered of the peer of this name: nothing where there is none
abbrev pub heads_under : List Peer → List ℕ → List UpdateId
heads_under peers name = option_map_or (λ peer. peer.heads) (find (is_named name) peers) []

-- the peers but that of this name
abbrev pub others : List ℕ → List Peer → List Peer
others name peers = filter (λ peer. not (is_named name peer)) peers

-- the peers, without the oldest where there is no room for one more
abbrev pub with_room : List Peer → List Peer
with_room peers = if nat_lt (length peers) MAX_PEERS then peers else drop 1 peers

-- The peer of this name stands last, with the least of these ids. What was remembered of it before is gone, and so is the oldest peer where there
-- was no room.
pub record Remembers (old : List Peer) (name : List ℕ) (ids : List UpdateId) (new : List Peer) : Type 0 where
  pub peer : Peer
  pub named : peer.name ≡ name
  pub least : AreLeast (has ids) MAX_HEADS peer.heads
  pub last : new ≡ with_room (others name old) ++ peer ∷ []
