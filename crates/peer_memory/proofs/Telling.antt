-- A payload is that of one list of peers.
use Rattle.std.proofs.Common.{◌≡◌, ◌<◌, ◌≤◌, ◌*◌, ◌^◌, ℕ, List, [], ◌∷◌, ◌++◌, All, length, inl, inr, refl, sym, ap, ◌∙◌, arith, append_assoc}
use Rattle.std.proofs.lemmas.List.{append-nil, length-append, nil_from_length}
use Rattle.std.proofs.lemmas.List.Elements.{All-head, All-tail}
use Rattle.std.specs.Int.{w16, to_be_bytes}
use Rattle.std.specs.List.{flat_map}
use Rattle.sync_frames.specs.Payload.{counted, spelled_ids}
use Rattle.peer_memory.specs.declared.peer.Peer.{Peer}
use Rattle.peer_memory.specs.Payload.{Reads, Spells, spelled_peer}
use Rattle.peer_memory.specs.Peers.{ArePeers, IsPeer}
use Rattle.peer_memory.proofs.Fronts.{same_number, same_peer, ids_long}

-- the peers that were read are the first of those that bytes spell, and the rest spells the others
pub front_of_peers : (front others : List Peer) (rest : List ℕ) → All IsPeer front → All IsPeer others → length front ≤ length others
    → flat_map spelled_peer front ++ rest ≡ flat_map spelled_peer others → (more : List Peer) × (others ≡ front ++ more) × (rest ≡ flat_map spelled_peer more)
front_of_peers [] others rest are are' few e = (others, refl, e)
front_of_peers (p ∷ front) [] rest are are' few e = absurd (omega arith)
front_of_peers (p ∷ front) (o ∷ others) rest are are' few e =
    let first = same_peer p o (flat_map spelled_peer front ++ rest) (flat_map spelled_peer others) (All-head IsPeer p front are) (All-head IsPeer o others are')
    (sym (append_assoc (spelled_peer p) (flat_map spelled_peer front) rest) ∙ e) in
    let behind = front_of_peers front others rest (All-tail IsPeer p front are) (All-tail IsPeer o others are') (omega arith) first.1 in
    let same : p ≡ o = first.0 in
    let more : others ≡ front ++ behind.0 = behind.1 in
    (behind.0, cc, behind.2)

peer_long : (peer : Peer) → IsPeer peer → length (spelled_peer peer) ≤ 131106
peer_long peer is =
    let ids = ids_long peer.heads is.ids in let name = is.name in let few = is.few in
    omega (arith, length-append peer.name (counted w16 peer.heads), length-append (to_be_bytes w16 (length peer.heads)) (spelled_ids peer.heads))

peers_long : (peers : List Peer) → All IsPeer peers → length (flat_map spelled_peer peers) ≤ 131106 * length peers
peers_long [] are = omega arith
peers_long (p ∷ peers) are =
    let one = peer_long p (All-head IsPeer p peers are) in let rest = peers_long peers (All-tail IsPeer p peers are) in
    omega (arith, length-append (spelled_peer p) (flat_map spelled_peer peers))

-- a payload is no longer than four bytes can say
pub payload_short : (peers : List Peer) (front bytes : List ℕ) → ArePeers peers → length front ≡ 2 → bytes ≡ front ++ flat_map spelled_peer peers → length bytes < 2 ^ 32
payload_short peers front bytes are two is =
    let long = peers_long peers are.each in let few = are.few in let same = ap length is in
    omega (arith, length-append front (flat_map spelled_peer peers))

pub one_payload : (peers others : List Peer) (bytes : List ℕ) → Spells peers bytes → Spells others bytes → others ≡ peers
one_payload peers others bytes a b =
    let few = a.are.few in let few' = b.are.few in
    let number = same_number (length peers) (length others) (flat_map spelled_peer peers) (flat_map spelled_peer others) (omega arith) (omega arith) (sym a.payload ∙ b.payload) in
    let front = front_of_peers peers others [] a.are.each b.are.each (let n = number.0 in omega arith) (append-nil (flat_map spelled_peer peers) ∙ number.1) in
    front.1 ∙ ap (λ (more : List Peer). peers ++ more) (nil_from_length front.0 (let n = number.0 in let l = ap length front.1 in omega (arith, length-append peers front.0))) ∙ append-nil peers

-- what was written is what is read
pub read_again : (peers others : List Peer) (bytes : List ℕ) → Spells peers bytes → Reads bytes others → others ≡ peers
read_again peers others bytes a (inl b) = one_payload peers others bytes a b
read_again peers others bytes a (inr b) = absurd (b.1 peers a)
