-- Bytes that are refused are no payload.
use Rattle.std.proofs.Common.{◌≡◌, ◌≢◌, ◌<◌, ◌≤◌, ◌+◌, ◌*◌, ◌^◌, ℕ, true, false, List, [], ◌∷◌, ◌++◌, All, length, get_or, refl, sym, ap, subst, ◌∙◌, arith, append_assoc, length-append, Result, Ok, Err}
use Rattle.std.specs.Prelude.{IsErrOf}
use Rattle.std.specs.Result.{IsErrAnd}
use Rattle.std.specs.Int.{w16, to_be_bytes}
use Rattle.std.specs.List.{AllPairs, flat_map, list_any}
use Rattle.std.proofs.lemmas.Bool.{true≢false}
use Rattle.std.proofs.lemmas.List.{flat_map_more, get_or_append_left, get_or_at}
use Rattle.std.proofs.lemmas.List.Elements.{All-head, All-tail}
use Rattle.std.proofs.lemmas.List.Folds.{Any-from_list_any, list_any_at}
use Rattle.std.proofs.lemmas.List.Quantifiers.{all_pairs_push}
use Rattle.std.proofs.lemmas.Slice.Eq.{bytes_eq-Decides}
use Rattle.sync_frames.specs.Payload.{AreIds, counted, spelled_ids}
use Rattle.update_model.specs.declared.update_id.UpdateId.{UpdateId}
use Rattle.peer_memory.specs.declared.peer.Peer.{Peer}
use Rattle.peer_memory.specs.Payload.{Spells, spelled_peer}
use Rattle.peer_memory.specs.Peers.{IsPeer, is_named}
use Rattle.peer_memory.proofs.Fronts.{ids_long, same_front, same_ids, same_number, same_peer}
use Rattle.peer_memory.proofs.Telling.{front_of_peers}

-- an error that is handed on
pub handed : {T U E : Type 0} (r : Result T E) (e x : E) → IsErrAnd r (λ y. y ≡ e) → IsErrOf r x → (let z : Result U E = Err e in z) ≡ Err x
handed (Ok v) e x h k = absurd cc
handed (Err y) e x h k = let same : y ≡ x = cc in ap Err (sym h ∙ same)

-- ---- ids behind their number

-- the number is that of the ids, which stand behind it
pub counts : (bytes r rest : List ℕ) (n : ℕ) (ids : List UpdateId) → n < 2 ^ 16 → length ids ≤ 4096 → bytes ≡ to_be_bytes w16 n ++ r → bytes ≡ counted w16 ids ++ rest
    → (n ≡ length ids) × (r ≡ spelled_ids ids ++ rest)
counts bytes r rest n ids low few one other =
    same_number n (length ids) r (spelled_ids ids ++ rest) low (omega arith) (sym one ∙ other ∙ append_assoc (to_be_bytes w16 (length ids)) (spelled_ids ids) rest)

-- too many
pub no_more : (bytes r rest : List ℕ) (n : ℕ) (ids : List UpdateId) → n < 2 ^ 16 → length ids ≤ 4096 → bytes ≡ to_be_bytes w16 n ++ r → bytes ≡ counted w16 ids ++ rest → 4096 < n → ⊥
no_more bytes r rest n ids low few one other many = let n_is = (counts bytes r rest n ids low few one other).0 in omega arith

-- too few bytes
pub no_fewer : (bytes r rest : List ℕ) (n : ℕ) (ids : List UpdateId) → n < 2 ^ 16 → length ids ≤ 4096 → AreIds ids → bytes ≡ to_be_bytes w16 n ++ r → bytes ≡ counted w16 ids ++ rest
    → length r < 32 * n → ⊥
no_fewer bytes r rest n ids low few are one other short =
    let both = counts bytes r rest n ids low few one other in
    let n_is = both.0 in let size = ap length both.1 in let long = ids_long ids are in
    omega (arith, length-append (spelled_ids ids) rest)

-- they are those that were read
pub those : (bytes r rest block behind : List ℕ) (n : ℕ) (ids found : List UpdateId) → n < 2 ^ 16 → length ids ≤ 4096 → AreIds ids → AreIds found → length found ≡ n
    → bytes ≡ to_be_bytes w16 n ++ r → bytes ≡ counted w16 ids ++ rest → r ≡ block ++ behind → block ≡ spelled_ids found → found ≡ ids
those bytes r rest block behind n ids found low few are are' long one other parts is =
    let both = counts bytes r rest n ids low few one other in
    (same_ids found ids behind rest (long ∙ both.0) are' are (sym (parts ∙ ap (λ (b : List ℕ). b ++ behind) is) ∙ both.1)).0

-- ---- a peer

-- what stands behind a name of 32 bytes
pub behind_name : (bytes first behind rest : List ℕ) (peer : Peer) → bytes ≡ first ++ behind → length first ≡ 32 → IsPeer peer → bytes ≡ spelled_peer peer ++ rest → behind ≡ counted w16 peer.heads ++ rest
behind_name bytes first behind rest peer parts long is spelled =
    (same_front first peer.name behind (counted w16 peer.heads ++ rest) (let l = is.name in omega arith) (sym parts ∙ spelled ∙ append_assoc peer.name (counted w16 peer.heads) rest)).1

-- ---- peers behind their number

-- what is left to be read is the other peers
record Left (front others : List Peer) (rest : List ℕ) (count : ℕ) : Type 0 where
  more : List Peer
  all : others ≡ front ++ more
  bytes : rest ≡ flat_map spelled_peer more
  size : length front + length more ≡ count

left : (bytes rest : List ℕ) (count : ℕ) (front others : List Peer) → count < 2 ^ 16 → bytes ≡ to_be_bytes w16 count ++ (flat_map spelled_peer front ++ rest) → All IsPeer front → length front ≤ count
    → Spells others bytes → Left front others rest count
left bytes rest count front others low parts each few spells =
    let small = spells.are.few in
    let number = same_number count (length others) (flat_map spelled_peer front ++ rest) (flat_map spelled_peer others) low (omega arith) (sym parts ∙ spells.payload) in
    let n_is = number.0 in
    let found = front_of_peers front others rest each spells.are.each (omega arith) number.1 in
    record { more = found.0; all = found.1; bytes = found.2; size = let size = ap length found.1 in omega (arith, length-append front found.0) }

-- a payload of more peers than there may be
pub too_many : (bytes rest : List ℕ) (count : ℕ) (others : List Peer) → count < 2 ^ 16 → bytes ≡ to_be_bytes w16 count ++ rest → 256 < count → Spells others bytes → ⊥
too_many bytes rest count others low parts many spells =
    let small = spells.are.few in
    let number = same_number count (length others) rest (flat_map spelled_peer others) low (omega arith) (sym parts ∙ spells.payload) in
    let n_is = number.0 in omega arith

module _ (bytes rest : List ℕ) (count : ℕ) (front others : List Peer) (low : count < 2 ^ 16) (parts : bytes ≡ to_be_bytes w16 count ++ (flat_map spelled_peer front ++ rest))
    (each : All IsPeer front) (spells : Spells others bytes) where
  -- the next of the peers that are left
  next_of : (P : Type 0) → length front < count → ((peer : Peer) (tail : List Peer) → IsPeer peer → others ≡ front ++ peer ∷ tail → rest ≡ spelled_peer peer ++ flat_map spelled_peer tail → P) → P
  next_of P short goes_on = by (left bytes rest count front others low parts each (omega arith) spells)
    where
      by : Left front others rest count → P
      by found = cases found.more found.all found.bytes found.size
        where
          cases : (more : List Peer) → others ≡ front ++ more → rest ≡ flat_map spelled_peer more → length front + length more ≡ count → P
          cases [] all is size = absurd (omega arith)
          cases (peer ∷ tail) all is size =
              goes_on peer tail (All-head IsPeer peer tail (behind_all front (peer ∷ tail) (subst (λ (l : List Peer). All IsPeer l) all spells.are.each))) all is
            where
              behind_all : (xs ys : List Peer) → All IsPeer (xs ++ ys) → All IsPeer ys
              behind_all [] ys are = are
              behind_all (x ∷ xs) ys are = behind_all xs ys (All-tail IsPeer x (xs ++ ys) are)

  -- no peer stands where one is wanted
  pub no_next : length front < count → ((peer : Peer) (tail : List ℕ) → IsPeer peer → rest ≡ spelled_peer peer ++ tail → ⊥) → ⊥
  no_next short none = next_of ⊥ short (λ peer tail is all spelled. none peer (flat_map spelled_peer tail) is spelled)

  -- one of the same name stood before
  pub no_twice : (found : Peer) (after : List ℕ) → length front < count → IsPeer found → rest ≡ spelled_peer found ++ after → list_any (is_named found.name) front ≡ true → ⊥
  no_twice found after short is' spelled' twice = next_of ⊥ short (λ peer tail is all spelled.
      let same = (same_peer found peer after (flat_map spelled_peer tail) is' is (sym spelled' ∙ spelled)).0 in
      let there = Any-from_list_any (is_named found.name) front twice in
      let named : there.1.name ≡ found.name = (bytes_eq-Decides there.1.name found.name).0 there.4 in
      let apart : AllPairs (λ (a b : Peer). a.name ≢ b.name) (front ++ peer ∷ tail) = subst (λ (l : List Peer). AllPairs (λ (a b : Peer). a.name ≢ b.name) l) all spells.are.apart in
      let differ = apart there.0 (length front) there.1 there.2 (let n = length-append front (peer ∷ tail) in omega arith) in
      differ (ap (λ (p : Peer). p.name) (get_or_append_left front (peer ∷ tail) there.1 there.0 there.2 ∙ there.3) ∙ named
      ∙ ap (λ (p : Peer). p.name) (same ∙ sym (get_or_at front peer tail there.1 (length front) refl))))

  -- bytes stand behind the last
  pub no_bytes_behind : length front ≡ count → 0 < length rest → ⊥
  no_bytes_behind long some = by (left bytes rest count front others low parts each (omega arith) spells)
    where
      by : Left front others rest count → ⊥
      by found = cases found.more found.bytes found.size
        where
          cases : (more : List Peer) → rest ≡ flat_map spelled_peer more → length front + length more ≡ count → ⊥
          cases [] is size = let none = ap length is in omega arith
          cases (peer ∷ tail) is size = omega arith

-- ---- peers that are read

-- one more
pub apart_push : (front : List Peer) (peer : Peer) → AllPairs (λ a b. a.name ≢ b.name) front → list_any (is_named peer.name) front ≡ false → AllPairs (λ a b. a.name ≢ b.name) (front ++ peer ∷ [])
apart_push front peer apart new = all_pairs_push (λ (a b : Peer). a.name ≢ b.name) front peer apart (λ k d low same.
    true≢false (sym (list_any_at (is_named peer.name) front k d low ((bytes_eq-Decides (get_or front k d).name peer.name).1 same)) ∙ new))

pub one_more : (bytes rest after : List ℕ) (count : ℕ) (front more : List Peer) (peer : Peer) → bytes ≡ to_be_bytes w16 count ++ (flat_map spelled_peer front ++ rest) → rest ≡ spelled_peer peer ++ after
    → more ≡ front ++ peer ∷ [] → bytes ≡ to_be_bytes w16 count ++ (flat_map spelled_peer more ++ after)
one_more bytes rest after count front more peer parts is last =
    parts ∙ ap (λ (b : List ℕ). to_be_bytes w16 count ++ b) (ap (λ (r : List ℕ). flat_map spelled_peer front ++ r) is ∙ sym (append_assoc (flat_map spelled_peer front) (spelled_peer peer) after)
    ∙ ap (λ (b : List ℕ). b ++ after) (flat_map_more spelled_peer [] front peer ∙ ap (λ (l : List Peer). flat_map spelled_peer l) (sym last)))
