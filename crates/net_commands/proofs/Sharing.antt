-- What becomes of a store that is shared for sessions.
use Rattle.std.proofs.Common.{◌≡◌, inl, inr, ℕ, ◌<◌, ◌≤◌, Bool, true, List, [], ◌∷◌, ◌++◌, append-nil, append_assoc, Option, map, IsTrue, refl, sym, ap, subst, ◌∙◌, arith}
use mathlib.Core.List.{IsPrefix}
use Rattle.bec_bytes.specs.Causes.{Rose}
use Rattle.update_model.specs.Rule.{RuleData}
use Rattle.session_rules.specs.declared.role.Role.{Role}
use Rattle.peer_memory.specs.declared.peer.Peer.{Peer}
use Rattle.replica.specs.Replicas.{ReplicaState}
use Rattle.turn_lock.specs.Seats.{Known}
use Rattle.turn_lock.proofs.Prefixes.{prefix_more}
use Rattle.shared_replica.specs.declared.entry.Entry.{Entry}
use Rattle.shared_replica.specs.declared.entry.Entry.TheVariants.{Added, Fault, First, Opened}
use Rattle.shared_replica.specs.Entries.{IsStoreOf, entries_by, faults_of, opening_of, updates_of}
use Rattle.shared_replica.proofs.Going.{disk_stays, store_stays, updates_stay}
use Rattle.shared_replica.proofs.Lists.{updates_opened}
use Rattle.session_server.specs.declared.ending.Ending.{Ending}
use Rattle.session_server.specs.declared.ending.Ending.TheVariants as endings
use Rattle.session_server.specs.declared.served.Served.{Served}
use Rattle.session_server.specs.Sessions.{HasCause, HasMetFault, IsSession}
use Rattle.store_directory.specs.Holding.{HoldsOn}
use Rattle.update_log.specs.Log.{IsClean}
use Rattle.store_directory.specs.Standing.{Stands}
use Rattle.net_commands.specs.Meetings.{Passes}
use Rattle.store_directory.specs.Settling.{KeepsGrowing}
use Rattle.net_commands.specs.Open.{opening_list}
use Rattle.outcomes.specs.OpenStores.{opened_store}

-- ---- why a session ended so

module _ (rule : RuleData) (role : Role) (peers : List Peer) (name : Option (List ℕ)) (before after : Known Entry) (left left' held held' : Option (List ℕ)) (faults faults' : ℕ) (served : Served) where
  -- a link that failed counted it
  pub broken_rose : IsSession rule role peers name before after left left' held held' faults faults' served → served.ending ≡ endings.Broken → Rose faults faults'
  broken_rose (inl runs) is = subst (λ (e : Ending). HasCause e runs.reached before after faults faults') is runs.cause
  broken_rose (inr never) is = let e = never.ending in absurd (cc (is, e))

  -- a disk that failed stands in what the pass has seen
  pub store_met : IsSession rule role peers name before after left left' held held' faults faults' served → served.ending ≡ endings.Store → HasMetFault before after
  store_met (inl runs) is = (subst (λ (e : Ending). HasCause e runs.reached before after faults faults') is runs.cause).1
  store_met (inr never) is = let e = never.ending in absurd (cc (is, e))

-- an act that met a fault counts one, wherever it stands
fault_in : (front rest : List Entry) (seat act : ℕ) (added : List (List ℕ)) → 1 ≤ faults_of (front ++ (entries_by seat act added true ++ rest))
fault_in [] rest seat act [] = omega arith
fault_in [] rest seat act (u ∷ added) = fault_in [] rest seat act added
fault_in (First opening ∷ front) rest seat act added = fault_in front rest seat act added
fault_in (Opened u ∷ front) rest seat act added = fault_in front rest seat act added
fault_in (Added u seat' act' ∷ front) rest seat act added = fault_in front rest seat act added
fault_in (Fault seat' act' ∷ front) rest seat act added = omega arith

-- a fault that was met is counted by the log
pub met_counted : (before after : Known Entry) (last : List Entry) (now : ReplicaState) → HasMetFault before after → IsPrefix after.seen last → IsStoreOf last now → 0 < now.log.faults
met_counted before after last now met begins store =
    let own = entries_by met.seat met.act met.added true in
    let whole : last ≡ met.point ++ (own ++ (met.rest ++ begins.0)) =
    sym begins.1 ∙ ap (λ (l : List Entry). l ++ begins.0) met.ended ∙ append_assoc met.point (own ++ met.rest) begins.0 ∙ ap (λ (l : List Entry). met.point ++ l) (append_assoc own met.rest begins.0) in
    let some = fault_in met.point (met.rest ++ begins.0) met.seat met.act met.added in
    let counted = ap faults_of whole in
    let faults = store.faults in
    omega (arith, some, counted, faults)

pub prefix_then : (a b c : List Entry) → IsPrefix a b → IsPrefix b c → IsPrefix a c
prefix_then a b c p q = subst (IsPrefix a) q.1 (prefix_more a b q.0 p)

-- ---- how it grows

abbrev pub grows_none : (replica : ReplicaState) → KeepsGrowing replica replica
grows_none replica = record { store = record { node = refl; schema = refl }; disk = record { tells = refl; slot = refl }; added = []; members = sym (append-nil replica.history.members) }

pub grows_then : (old mid now : ReplicaState) → KeepsGrowing old mid → KeepsGrowing mid now → KeepsGrowing old now
grows_then old mid now a b = record {
  store = record { node = b.store.node ∙ a.store.node; schema = b.store.schema ∙ a.store.schema };
  disk = record { tells = b.disk.tells ∙ a.disk.tells; slot = b.disk.slot ∙ a.disk.slot };
  added = a.added ++ b.added;
  members = b.members ∙ ap (λ (l : List (List ℕ)). l ++ b.added) a.members ∙ append_assoc old.history.members a.added b.added;
}

-- the updates with which a shared replica opens
pub opened_updates : (replica : ReplicaState) (seen : List Entry) → seen ≡ opening_list replica → updates_of seen ≡ replica.history.members
opened_updates replica seen is = ap updates_of is ∙ updates_opened replica.history.members

-- it comes back as the same store, grown
pub grown : (old now : ReplicaState) (first seen last : List Entry) → first ≡ opening_list old → IsPrefix first seen → IsPrefix seen last → IsStoreOf last now → KeepsGrowing old now
grown old now first seen last is more begins store =
    let whole : IsPrefix (opening_list old) last = subst (λ (l : List Entry). IsPrefix l last) is (prefix_then first seen last more begins) in
    let p = updates_stay (opening_list old) last now whole store in
    record {
      store = store_stays old now (map Opened old.history.members) last whole store;
      disk = disk_stays old now (map Opened old.history.members) last whole store;
      added = p.0;
      members = sym p.1 ∙ ap (λ (l : List (List ℕ)). l ++ p.0) (updates_opened old.history.members);
    }

pub holds_grown : (old now : ReplicaState) (done : Bool) (grows : KeepsGrowing old now) → Stands now → (done ≡ true → IsTrue now.log.disk.tells → IsClean now.log.end now.log.disk) → HoldsOn old now grows.added done
holds_grown old now done grows stands clean = record {
  schema = grows.store.schema;
  members = grows.members;
  closed = stands.history_is.members;
  disk = grows.disk;
  on_disk = stands.on_disk;
  log = λ is. stands.log_is;
  clean = clean;
}

-- what a pass went through, of a store that grew after it
pub passes_by : (old mid now : ReplicaState) (first last : Known Entry) (whole : KeepsGrowing old now) → KeepsGrowing mid now → first.seen ≡ opening_list old → IsPrefix first.seen last.seen
    → IsPrefix (updates_of last.seen) mid.history.members → Passes (opened_store old) whole.added first last
passes_by old mid now first last whole later opened seen within =
    let began = opened_updates old first.seen opened in
    record {
      opened = record { opening = opening_of old; rest = map Opened old.history.members; first = opened; node = refl; schema = refl; updates = ([], append-nil old.history.members ∙ sym began) };
      began = began;
      seen = seen;
      held = subst (λ (l : List (List ℕ)). IsPrefix (updates_of last.seen) l) (sym later.members ∙ whole.members) (prefix_more (updates_of last.seen) mid.history.members later.added within);
    }
