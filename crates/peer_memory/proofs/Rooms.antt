-- Peers after one more was remembered.
use Rattle.std.proofs.Common.{◌≡◌, ◌≢◌, ◌<◌, ◌≤◌, ℕ, zero, suc, take, length-take, Bool, true, false, List, [], ◌∷◌, ◌++◌, All, length, drop, inl, inr, refl, sym, subst, arith, ltb}
use Rattle.std.specs.Prelude.{not}
use Rattle.std.specs.List.{AllByRecursion, AllPairs}
use Rattle.std.specs.List.Sorted.{IsStrictlySortedBy}
use Rattle.std.specs.declared.cmp.Ordering.TheVariants.{Less}
use Rattle.std.proofs.lemmas.Bool.{cases_Bool, cond-true, cond-false, ltb-true, ltb-false}
use Rattle.std.proofs.lemmas.List.{length_push}
use Rattle.std.proofs.lemmas.List.Elements.{All-push, All-filter, All-drop, All-weaker, filter_passes}
use Rattle.std.proofs.lemmas.List.Filters.{length-filter_both}
use Rattle.std.proofs.lemmas.List.Kept.{AllPairs-filter}
use Rattle.std.proofs.lemmas.List.Quantifiers.{all_pairs_push, all_pairs_remove}
use Rattle.std.proofs.lemmas.Slice.Eq.{bytes_eq-Decides}
use Rattle.session_rules.specs.Steps.{AreLeast}
use Rattle.sync_frames.specs.Payload.{AreIds}
use Rattle.update_model.specs.declared.update_id.UpdateId.{UpdateId}
use Rattle.update_model.specs.Entry.{id_cmp}
use Rattle.peer_memory.specs.declared.peer.Peer.{Peer}
use Rattle.peer_memory.specs.Peers.{ArePeers, IsPeer, is_named, others, with_room}

-- the first of rising ids rise
each_take : (P : UpdateId → Type 0) (n : ℕ) (ids : List UpdateId) → AllByRecursion P ids → AllByRecursion P (take n ids)
each_take P zero ids all = tt
each_take P (suc n) [] all = tt
each_take P (suc n) (id ∷ ids) all = (all.0, each_take P n ids all.1)

rising_take : (n : ℕ) (ids : List UpdateId) → IsStrictlySortedBy id_cmp ids → IsStrictlySortedBy id_cmp (take n ids)
unfolding IsStrictlySortedBy
rising_take zero ids rise = tt
rising_take (suc n) [] rise = tt
rising_take (suc n) (id ∷ ids) rise = (each_take (λ y. id_cmp id y ≡ Less) n ids rise.0, rising_take n ids rise.1)

-- no peer of these has the name
abbrev Lacks : List ℕ → List Peer → Type 0
Lacks name peers = All (λ peer. peer.name ≢ name) peers

unnamed : (name : List ℕ) (peer : Peer) → not (is_named name peer) ≡ true → peer.name ≢ name
unnamed name peer lacks same = turned (is_named name peer) lacks ((bytes_eq-Decides peer.name name).1 same)
  where
    turned : (b : Bool) → not b ≡ true → b ≡ true → ⊥
    turned true other here = cc
    turned false other here = cc

-- one more peer, for which there is room
pushed : (peers : List Peer) (peer : Peer) → length peers < 256 → All IsPeer peers → AllPairs (λ a b. a.name ≢ b.name) peers → Lacks peer.name peers → IsPeer peer
    → ArePeers (peers ++ peer ∷ [])
pushed peers peer room each apart lacks is = record {
  few = omega (arith, length_push peers peer);
  each = All-push IsPeer peers peer each is;
  apart = all_pairs_push (λ (a b : Peer). a.name ≢ b.name) peers peer apart lacks;
}

roomy : (peers : List Peer) (peer : Peer) → length peers ≤ 256 → All IsPeer peers → AllPairs (λ a b. a.name ≢ b.name) peers → Lacks peer.name peers → IsPeer peer
    → ArePeers (with_room peers ++ peer ∷ [])
roomy peers peer few each apart lacks is = elim (cases_Bool (ltb (length peers) 256)) [
  | inl room ↦ subst (λ (rest : List Peer). ArePeers (rest ++ peer ∷ [])) (sym (cond-true (ltb (length peers) 256) peers (drop 1 peers) room))
      (pushed peers peer (ltb-true (length peers) 256 room) each apart lacks is)
  | inr full ↦ subst (λ (rest : List Peer). ArePeers (rest ++ peer ∷ [])) (sym (cond-false (ltb (length peers) 256) peers (drop 1 peers) full))
      (pushed (drop 1 peers) peer (shorter peers (ltb-false (length peers) 256 full) few) (All-drop IsPeer 1 peers each)
      (all_pairs_remove (λ (a b : Peer). a.name ≢ b.name) peers 0 (let many = ltb-false (length peers) 256 full in omega arith) apart) (All-drop (λ (other : Peer). other.name ≢ peer.name) 1 peers lacks) is)
]
  where
    shorter : (xs : List Peer) → 256 ≤ length xs → length xs ≤ 256 → length (drop 1 xs) < 256
    shorter [] many few = absurd (omega arith)
    shorter (x ∷ xs) many few = omega arith

-- Peers stay peers when one is remembered.
remembered : (old : List Peer) (peer : Peer) → ArePeers old → IsPeer peer → ArePeers (with_room (others peer.name old) ++ peer ∷ [])
remembered old peer are is =
    let kept : Peer → Bool = λ other. not (is_named peer.name other) in
    roomy (others peer.name old) peer
    (let both = length-filter_both kept (λ other. not (kept other)) (λ other. refl) old in let few = are.few in omega arith)
    (All-filter kept IsPeer old are.each) (AllPairs-filter (λ (a b : Peer). a.name ≢ b.name) kept old are.apart)
    (All-weaker (λ (other : Peer). kept other ≡ true) (λ (other : Peer). other.name ≢ peer.name) (unnamed peer.name) (others peer.name old) (filter_passes kept old)) is

-- the same, of the least of some ids
pub kept : (old new : List Peer) (peer : Peer) (test : UpdateId → Bool) → ArePeers old → length peer.name ≡ 32 → AreIds peer.heads → AreLeast test 4096 peer.heads
    → new ≡ with_room (others peer.name old) ++ peer ∷ [] → ArePeers new
kept old new peer test are name ids least last = subst (λ (l : List Peer). ArePeers l) (sym last) (remembered old peer are (record {
  name = name;
  few = rw least.front (omega (arith, length-take 4096 least.all));
  ids = ids;
  rising = rw least.front (rising_take 4096 least.all least.rising);
}))
