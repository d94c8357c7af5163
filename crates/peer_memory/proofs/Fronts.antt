-- What stands in front of bytes is told by its form.
use Rattle.std.proofs.Common.{◌≡◌, ◌<◌, ◌≤◌, ◌*◌, ◌^◌, ℕ, List, [], ◌∷◌, ◌++◌, length, refl, sym, ap, ap₂, ◌∙◌, arith, append_assoc}
use Rattle.std.proofs.lemmas.List.{length-append}
use Rattle.std.proofs.lemmas.Nat.{from_be_bytes-to_be_bytes_2}
use Rattle.std.specs.Int.{w16, to_be_bytes, from_be_bytes}
use Rattle.update_model.specs.declared.update_id.UpdateId.{UpdateId}
use Rattle.sync_frames.specs.Payload.{AreIds, counted, spelled_ids}
use Rattle.peer_memory.specs.declared.peer.Peer.{Peer}
use Rattle.peer_memory.specs.Payload.{spelled_peer}
use Rattle.peer_memory.specs.Peers.{IsPeer}

-- fronts of one length
pub same_front : (a b x y : List ℕ) → length a ≡ length b → a ++ x ≡ b ++ y → (a ≡ b) × (x ≡ y)
same_front [] [] x y long e = (refl, e)
same_front [] (b ∷ bs) x y long e = absurd (omega arith)
same_front (a ∷ rest) [] x y long e = absurd (omega arith)
same_front (a ∷ rest) (b ∷ bs) x y long e =
    let others = same_front rest bs x y (omega arith) cc in
    let first : a ≡ b = cc in
    let behind : rest ≡ bs = others.0 in
    (cc, others.1)

-- numbers in two bytes
pub same_number : (n m : ℕ) (x y : List ℕ) → n < 2 ^ 16 → m < 2 ^ 16 → to_be_bytes w16 n ++ x ≡ to_be_bytes w16 m ++ y → (n ≡ m) × (x ≡ y)
same_number n m x y n_low m_low e =
    let parts = same_front (to_be_bytes w16 n) (to_be_bytes w16 m) x y refl e in
    (sym (from_be_bytes-to_be_bytes_2 n n_low) ∙ ap (from_be_bytes w16) parts.0 ∙ from_be_bytes-to_be_bytes_2 m m_low, parts.1)

-- as many ids
pub same_ids : (ids others : List UpdateId) (x y : List ℕ) → length ids ≡ length others → AreIds ids → AreIds others → spelled_ids ids ++ x ≡ spelled_ids others ++ y
    → (ids ≡ others) × (x ≡ y)
same_ids [] [] x y long are are' e = (refl, e)
same_ids [] (o ∷ others) x y long are are' e = absurd (omega arith)
same_ids (id ∷ ids) [] x y long are are' e = absurd (omega arith)
same_ids (id ∷ ids) (o ∷ others) x y long are are' e =
    let first = same_front id.0 o.0 (spelled_ids ids ++ x) (spelled_ids others ++ y) (let l = are.0 in let m = are'.0 in omega arith)
    (sym (append_assoc id.0 (spelled_ids ids) x) ∙ e ∙ append_assoc o.0 (spelled_ids others) y) in
    let rest = same_ids ids others x y (omega arith) are.1 are'.1 first.1 in
    (ap₂ (λ (b : List ℕ) (more : List UpdateId). record { 0 = b } ∷ more) first.0 rest.0, rest.1)

pub ids_long : (ids : List UpdateId) → AreIds ids → length (spelled_ids ids) ≡ 32 * length ids
ids_long [] are = refl
ids_long (id ∷ ids) are = let rest = ids_long ids are.1 in let one = are.0 in omega (arith, length-append id.0 (spelled_ids ids))

-- ids behind their number
pub same_counted : (ids others : List UpdateId) (x y : List ℕ) → length ids ≤ 4096 → length others ≤ 4096 → AreIds ids → AreIds others → counted w16 ids ++ x ≡ counted w16 others ++ y
    → (ids ≡ others) × (x ≡ y)
same_counted ids others x y few few' are are' e =
    let number = same_number (length ids) (length others) (spelled_ids ids ++ x) (spelled_ids others ++ y) (omega arith) (omega arith)
    (sym (append_assoc (to_be_bytes w16 (length ids)) (spelled_ids ids) x) ∙ e ∙ append_assoc (to_be_bytes w16 (length others)) (spelled_ids others) y) in
    same_ids ids others x y number.0 are are' number.1

pub same_peer : (peer other : Peer) (x y : List ℕ) → IsPeer peer → IsPeer other → spelled_peer peer ++ x ≡ spelled_peer other ++ y → (peer ≡ other) × (x ≡ y)
same_peer peer other x y is is' e =
    let name = same_front peer.name other.name (counted w16 peer.heads ++ x) (counted w16 other.heads ++ y) (let l = is.name in let m = is'.name in omega arith)
    (sym (append_assoc peer.name (counted w16 peer.heads) x) ∙ e ∙ append_assoc other.name (counted w16 other.heads) y) in
    let heads = same_counted peer.heads other.heads x y is.few is'.few is.ids is'.ids name.1 in
    (ap₂ (λ (n : List ℕ) (h : List UpdateId). record { name = n; heads = h }) name.0 heads.0, heads.1)
