-- What is remembered of a peer.
use Rattle.std.proofs.Common.{◌≡◌, ◌≤◌, ℕ, Bool, true, false, List, [], ◌∷◌, All, length, refl, arith}
use Rattle.std.specs.List.Sorted.{IsStrictlySortedBy}
use Rattle.std.proofs.lemmas.List.Elements.{All-head, All-tail}
use Rattle.update_model.specs.declared.update_id.UpdateId.{UpdateId}
use Rattle.update_model.specs.Entry.{id_cmp}
use Rattle.peer_memory.specs.declared.limits.TheConstants.{MAX_HEADS}
use Rattle.peer_memory.specs.declared.peer.Peer.{Peer}
use Rattle.peer_memory.specs.Peers.{IsPeer, heads_under, is_named}

pub none_rise : IsStrictlySortedBy id_cmp []
unfolding IsStrictlySortedBy
none_rise = tt

abbrev pub FewRising : List UpdateId → Type 0
FewRising ids = (length ids ≤ MAX_HEADS) × IsStrictlySortedBy id_cmp ids

first_or : (name : List ℕ) (peer : Peer) (peers : List Peer) → IsPeer peer → FewRising (heads_under peers name) → (b : Bool) → is_named name peer ≡ b → FewRising (heads_under (peer ∷ peers) name)
first_or name peer peers is later true e = rw e (is.few, is.rising)
first_or name peer peers is later false e = rw e later

-- they are few, and rise
pub found_heads : (name : List ℕ) (peers : List Peer) → All IsPeer peers → FewRising (heads_under peers name)
found_heads name [] all = (omega arith, none_rise)
found_heads name (peer ∷ peers) all = first_or name peer peers (All-head IsPeer peer peers all) (found_heads name peers (All-tail IsPeer peer peers all)) (is_named name peer) refl
