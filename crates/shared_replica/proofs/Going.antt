-- What a pass that sees more still has.
use Rattle.std.proofs.Common.{◌≡◌, ◌≤◌, ℕ, Bool, true, List, ◌∷◌, ◌++◌, length, Option, Some, None, option_map, Result, Ok, Err, IfOk, refl, sym, ap, ◌∙◌, subst}
use Rattle.std.specs.declared.alloc.AllocError.{AllocError}
use mathlib.Core.List.{IsPrefix}
use Rattle.bec_disk.specs.Disk.{IsSameDisk}
use Rattle.bec_disk.specs.Slot.{Slot, slot}
use Rattle.bec_disk.specs.declared.part.Part.{Part}
use Rattle.replica.specs.Replicas.{IsSameStore, ReplicaState}
use Rattle.session_rules.specs.declared.end.End.{End}
use Rattle.session_rules.specs.declared.end.End.TheVariants.{Done, Peer, Full, Store}
use Rattle.sync_session.proofs.Growing.{belongs_grown}
use Rattle.sync_session.specs.Kept.{Kept, BelongsTo, IsFrameUnder}
use Rattle.sync_session.specs.declared.checked_frame.CheckedFrame.{CheckedFrame}
use Rattle.sync_session.specs.declared.out.Out.{Out}
use Rattle.turn_lock.proofs.Prefixes.{prefix_more, prefix_self}
use Rattle.turn_lock.specs.Seats.{Known}
use Rattle.update_model.specs.Batch.{store_limits}
use Rattle.update_model.specs.Rule.{RuleData}
use Rattle.update_model.specs.declared.limits.TheConstants.{MAX_MEMBERS}
use Rattle.shared_replica.proofs.Lists.{updates_more}
use Rattle.shared_replica.specs.declared.entry.Entry.{Entry}
use Rattle.shared_replica.specs.declared.entry.Entry.TheVariants.{First}
use Rattle.shared_replica.specs.declared.entry.Opening.{Opening}
use Rattle.shared_replica.specs.Acts.{IsAct}
use Rattle.shared_replica.specs.Entries.{HasFaults, IsStoreOf, faults_of, opening_of, place_of, updates_of}
use Rattle.shared_replica.specs.Sessions.{BelongsIn, IsRuledBy, IsUnder, is_store, met_store}

-- ---- the rule of a list

pub ruled_first : (opening : Opening) (rest : List Entry) → IsRuledBy (First opening ∷ rest) opening.schema.rule
ruled_first opening rest = record { opening = opening; rest = rest; first = refl; same = refl }

pub ruled_longer : (list longer : List Entry) (rule : RuleData) → IsPrefix list longer → IsRuledBy list rule → IsRuledBy longer rule
ruled_longer list longer rule p r =
    record { opening = r.opening; rest = r.rest ++ p.0; first = sym p.1 ∙ ap (λ (l : List Entry). l ++ p.0) r.first; same = r.same }

pub ruled_once : (list : List Entry) (rule other : RuleData) → IsRuledBy list rule → IsRuledBy list other → rule ≡ other
ruled_once list rule other r s =
    let firsts = sym r.first ∙ s.first in
    let openings : r.opening ≡ s.opening = cc in
    sym r.same ∙ ap (λ (o : Opening). o.schema.rule) openings ∙ s.same

ruled_store : (list : List Entry) (store : ReplicaState) → IsStoreOf list store → IsRuledBy list store.history.schema.rule
ruled_store list store s = record { opening = record (opening_of store) { faults = s.start }; rest = s.rest; first = s.first; same = refl }

-- ---- longer lists

prefix_then : (a b c : List Entry) → IsPrefix a b → IsPrefix b c → IsPrefix a c
prefix_then a b c p q = subst (IsPrefix a) q.1 (prefix_more a b q.0 p)

-- the list in hand begins with what was seen
pub begins_taken : (seen taken list : List Entry) → IsPrefix seen taken → list ≡ taken → IsPrefix seen list
begins_taken seen taken list p is = subst (IsPrefix seen) (sym is) p

pub belongs_longer : (list longer : List Entry) (session : Kept) → IsPrefix list longer → BelongsIn list session → BelongsIn longer session
belongs_longer list longer session p b = record {
  rule = b.rule;
  ruled = ruled_longer list longer b.rule p b.ruled;
  front = b.front;
  begins = prefix_then b.front list longer b.begins p;
  belongs = b.belongs;
}

pub under_longer : (list longer : List Entry) (frame : CheckedFrame) → IsPrefix list longer → IsUnder list frame → IsUnder longer frame
under_longer list longer frame p u = record { rule = u.rule; ruled = ruled_longer list longer u.rule p u.ruled; under = u.under }

-- ---- acts

module _ (before after : Known Entry) (P : List Entry) (old new : ReplicaState) (fault : Bool) where
  began_after : IsAct before after P old new fault → IsPrefix P after.seen
  began_after a = subst (IsPrefix P) (sym a.ended) (prefix_more P P _ (prefix_self P))

  pub seen_after : IsAct before after P old new fault → IsPrefix before.seen after.seen
  seen_after a = prefix_then before.seen P after.seen a.began (began_after a)

  module _ (session : Kept) (a : IsAct before after P old new fault) where
    ruled_after : IsRuledBy after.seen old.history.schema.rule
    ruled_after = ruled_longer P after.seen old.history.schema.rule (began_after a) (ruled_store P old a.stood)

    pub begun_after : BelongsTo store_limits old.history.schema.rule session (updates_of P) → BelongsIn after.seen session
    begun_after b = record { rule = old.history.schema.rule; ruled = ruled_after; front = P; begins = began_after a; belongs = b }

    pub stepped_after : BelongsTo store_limits old.history.schema.rule session (updates_of after.seen) → BelongsIn after.seen session
    stepped_after b = record { rule = old.history.schema.rule; ruled = ruled_after; front = after.seen; begins = prefix_self after.seen; belongs = b }

-- ---- faults

store_is : (end : Option End) → is_store end ≡ true → end ≡ Some Store
store_is None met = cc
store_is (Some Done) met = cc
store_is (Some (Peer fault)) met = cc
store_is (Some Full) met = cc
store_is (Some Store) met = refl

-- what holds where the session ended by the store
pub store_then : (answer : Result Out AllocError) (X : Type 0) → IfOk answer (λ out. out.end ≡ Some Store → X) → met_store answer ≡ true → X
store_then (Ok out) X then met = then (store_is out.end met)
store_then (Err fault) X then met = absurd cc

-- ---- a store and its list

module _ (list : List Entry) (store : ReplicaState) (is : IsStoreOf list store) where
  -- a session belongs to all updates of the store
  pub belongs_now : (session : Kept) → length store.history.members ≤ MAX_MEMBERS → BelongsIn list session → BelongsTo store_limits store.history.schema.rule session store.history.members
  belongs_now session few b =
      let rules = ruled_once list b.rule store.history.schema.rule b.ruled (ruled_store list store is) in
      let behind = b.begins.0 in
      let all : updates_of b.front ++ updates_of behind ≡ store.history.members = sym (updates_more b.front behind) ∙ ap updates_of b.begins.1 ∙ is.updates in
      let grown = belongs_grown store_limits b.rule session (updates_of b.front) (updates_of behind) b.belongs (subst (λ (us : List (List ℕ)). length us ≤ MAX_MEMBERS) (sym all) few) in
      subst (λ (z : RuleData × List (List ℕ)). BelongsTo store_limits z.0 session z.1) (λ i. (rules i, all i)) grown

  pub under_now : (frame : CheckedFrame) → IsUnder list frame → IsFrameUnder store.history.schema.rule frame
  under_now frame u = subst (λ (rule : RuleData). IsFrameUnder rule frame) (ruled_once list u.rule store.history.schema.rule u.ruled (ruled_store list store is)) u.under

-- ---- a store and the replica of the first entry

abbrev slot_at : List ℕ × Part → Slot
slot_at place = slot place.0 place.1

slot_again : (place : Option Slot) → option_map slot_at (option_map place_of place) ≡ place
slot_again None = refl
slot_again (Some place) = refl

module _ (replica store : ReplicaState) (rest last : List Entry) (begins : IsPrefix (First (opening_of replica) ∷ rest) last) (is : IsStoreOf last store) where
  opened_as : record (opening_of store) { faults = is.start } ≡ opening_of replica
  opened_as = let firsts = sym is.first ∙ sym begins.1 in cc

  pub store_stays : IsSameStore replica store
  store_stays = record { node = ap (λ (o : Opening). o.node) opened_as; schema = ap (λ (o : Opening). o.schema) opened_as }

  pub disk_stays : IsSameDisk replica.log.disk store.log.disk
  disk_stays = record {
    tells = ap (λ (o : Opening). o.tells) opened_as;
    slot = sym (slot_again store.log.disk.slot) ∙ ap (λ (o : Opening). option_map slot_at o.place) opened_as ∙ slot_again replica.log.disk.slot;
  }

  pub faults_rise : HasFaults replica.log.faults (faults_of last) store.log.faults
  faults_rise = subst (λ (start : ℕ). HasFaults start (faults_of last) store.log.faults) (ap (λ (o : Opening). o.faults) opened_as) is.faults

pub updates_stay : (seen last : List Entry) (store : ReplicaState) → IsPrefix seen last → IsStoreOf last store → IsPrefix (updates_of seen) store.history.members
updates_stay seen last store begins is = (updates_of begins.0, sym (updates_more seen begins.0) ∙ ap updates_of begins.1 ∙ is.updates)
