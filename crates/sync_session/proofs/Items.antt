-- The cases of a step at an Item.
use Rattle.std.proofs.Common.{◌≡◌, ℕ, ◌+◌, Bool, true, false, map, ◌&&◌, ◌||◌, if◌then◌else◌, List, [], ◌∷◌, ◌++◌, Option, Some, None, refl, sym, ap, subst, ◌∙◌}
use Rattle.update_model.specs.declared.update_id.UpdateId.{UpdateId}
use Rattle.update_model.specs.Entry.{Entry}
use Rattle.update_model.specs.Graph.{holds, is_within}
use Rattle.session_rules.specs.declared.peer_fault.PeerFault.{PeerFault}
use Rattle.session_rules.specs.declared.peer_fault.PeerFault.TheVariants.{OutOfTurn}
use Rattle.session_rules.specs.declared.end.End.TheVariants.{Peer, Full}
use Rattle.update_model.specs.Batch.{Limits}
use Rattle.session_rules.specs.State.{Item}
use Rattle.session_rules.specs.Steps.{Takes, Unless, Gathers, gathers, takes_item, answer_fault, item_fault, in_burst, after_item, counted, silent, closing}
use Rattle.sync_session.specs.declared.out.Out.{Out}
use Rattle.std.proofs.lemmas.List.{map-append}
use Rattle.update_codec.specs.Parts.{entry_of}
use Rattle.sync_session.specs.Kept.{Kept, whole, out_of, with_end, with_item}
use Rattle.sync_session.specs.Pending.{entries_in, has_room_for}

-- a fault
pub item_ends : (limits : Limits) (start list : List Entry) (k k' : Kept) (e : Entry) (out : Out) (fault : PeerFault) → item_fault (whole start k) e ≡ Some fault
    → k' ≡ with_end (Peer fault) k → ((list : List Entry) → out_of list out ≡ closing (Peer fault)) → Takes limits (whole start k) list (Item e) (whole start k') (out_of list out) list
item_ends limits start list k k' e out fault is ended says =
    subst (λ (f : Option PeerFault). Unless f (whole start k) list (whole start k') (out_of list out) list (Gathers (is_within ((whole start k).waiting ++ gathers (whole start k) e)) (whole start k) list e (whole start k') (out_of list out) list)) (sym is)
    (ap (whole start) ended, says list, refl)

-- none: it goes on by what is gathered
pub item_goes : (limits : Limits) (start list : List Entry) (k k' : Kept) (e : Entry) (out : Out) (fits : Bool) → item_fault (whole start k) e ≡ None
    → is_within (map entry_of k.pending.waiting ++ gathers (whole start k) e) ≡ fits
    → Gathers fits (whole start k) list e (whole start k') (out_of list out) list → Takes limits (whole start k) list (Item e) (whole start k') (out_of list out) list
item_goes limits start list k k' e out fits none is g =
    subst (λ (f : Option PeerFault). Unless f (whole start k) list (whole start k') (out_of list out) list (Gathers (is_within (map entry_of k.pending.waiting ++ gathers (whole start k) e)) (whole start k) list e (whole start k') (out_of list out) list)) (sym none)
    (subst (λ (b : Bool). Gathers b (whole start k) list e (whole start k') (out_of list out) list) (sym is) g)

-- the fault that the code finds
pub fault_from : (start : List Entry) (k v : Kept) (e : Entry) (r : Option PeerFault) (id : UpdateId) → v ≡ k → id ≡ e.id
    → r ≡ (if takes_item v.state.reading v.state.items then answer_fault v.state.reading id else Some OutOfTurn) → item_fault (whole start k) e ≡ r
fault_from start k v e r id same is says =
    subst (λ (w : Kept). item_fault (whole start w) e ≡ r) same
    (sym (subst (λ (i : UpdateId). r ≡ (if takes_item v.state.reading v.state.items then answer_fault v.state.reading i else Some OutOfTurn)) is says))

-- an update that was there already
pub item_again : (limits : Limits) (start list : List Entry) (k k' : Kept) (e : Entry) (out : Out) → item_fault (whole start k) e ≡ None → is_within (entries_in k.pending) ≡ true
    → (in_burst k.state.reading && (holds (map entry_of k.pending.gathered) e.id || holds (map entry_of k.pending.waiting) e.id)) ≡ true
    → k' ≡ with_item k k.pending → ((list : List Entry) → out_of list out ≡ silent) → Takes limits (whole start k) list (Item e) (whole start k') (out_of list out) list
item_again limits start list k k' e out none within there counts says =
    item_goes limits start list k k' e out true none (rw there within) (ap (whole start) counts ∙ ap (λ (b : Bool). record (counted (whole start k)) { items = k.state.items + 1; reading = after_item k.state.reading; gathered = if b then map entry_of k.pending.gathered else map entry_of k.pending.gathered ++ e ∷ [] }) (sym there), says list, refl)

-- a new one, for which there is room or not
pub item_new : (limits : Limits) (start list : List Entry) (k k' : Kept) (sought : List UpdateId) (u : List ℕ) (out : Out) → item_fault (whole start k) (entry_of u) ≡ None → has_room_for k.pending u ≡ true
    → (in_burst k.state.reading && (holds (map entry_of k.pending.gathered) (entry_of u).id || holds (map entry_of k.pending.waiting) (entry_of u).id)) ≡ false
    → k' ≡ record (with_item k (record { waiting = k.pending.waiting; gathered = k.pending.gathered ++ u ∷ [] })) { sought = sought } → ((list : List Entry) → out_of list out ≡ silent)
    → Takes limits (whole start k) list (Item (entry_of u)) (whole start k') (out_of list out) list
item_new limits start list k k' sought u out none room fresh counts says =
    item_goes limits start list k k' (entry_of u) out true none (rw fresh room) (
      ap (whole start) counts
          ∙ ap (λ (g : List Entry). record (counted (whole start k)) { items = k.state.items + 1; reading = after_item k.state.reading; gathered = g }) (map-append entry_of k.pending.gathered (u ∷ []))
          ∙ ap (λ (b : Bool). record (counted (whole start k)) { items = k.state.items + 1; reading = after_item k.state.reading; gathered = if b then map entry_of k.pending.gathered else map entry_of k.pending.gathered ++ entry_of u ∷ [] }) (sym fresh),
      says list,
      refl,
    )

pub item_full : (limits : Limits) (start list : List Entry) (k k' : Kept) (u : List ℕ) (out : Out) → item_fault (whole start k) (entry_of u) ≡ None → has_room_for k.pending u ≡ false
    → (in_burst k.state.reading && (holds (map entry_of k.pending.gathered) (entry_of u).id || holds (map entry_of k.pending.waiting) (entry_of u).id)) ≡ false
    → k' ≡ with_end Full k → ((list : List Entry) → out_of list out ≡ closing Full) → Takes limits (whole start k) list (Item (entry_of u)) (whole start k') (out_of list out) list
item_full limits start list k k' u out none room fresh ended says =
    item_goes limits start list k k' (entry_of u) out false none (rw fresh room) (ap (whole start) ended, says list, refl)

-- what the test of an id says of the update with it
pub repeated_is : (k : Kept) (id i : UpdateId) (r b : Bool) → id ≡ i → r ≡ (in_burst k.state.reading && (holds (map entry_of k.pending.gathered) id || holds (map entry_of k.pending.waiting) id)) → r ≡ b
    → (in_burst k.state.reading && (holds (map entry_of k.pending.gathered) i || holds (map entry_of k.pending.waiting) i)) ≡ b
repeated_is k id i r b same says is = subst (λ (j : UpdateId). (in_burst k.state.reading && (holds (map entry_of k.pending.gathered) j || holds (map entry_of k.pending.waiting) j)) ≡ b) same (sym says ∙ is)
