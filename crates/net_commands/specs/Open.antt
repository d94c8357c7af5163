-- What is done to a store that is open, in the middle of `sync` and `serve`.
use Rattle.std.specs.Prelude.{◌≡◌, ◌≢◌, ◌⊎◌, ℕ, ◌<◌, ◌≤◌, true, List, ◌∷◌, map, IsTrue, IfErr, OnOk, Some, Result, Ok, Err}
use mathlib.Core.List.{IsPrefix}
use Rattle.bec_bytes.specs.Causes.{Rose}
use Rattle.bec_disk.specs.Shelf.{ShelfState}
use Rattle.bec_links.specs.Nets.{NetState}
use Rattle.update_log.specs.Log.{IsClean}
use Rattle.session_rules.specs.declared.role.Role.TheVariants.{Initiator}
use Rattle.peer_memory.specs.declared.peer.Peer.{Peer as PeerEntry}
use Rattle.replica.specs.Replicas.{ReplicaState}
use Rattle.store_directory.specs.Holding.{HoldsOn}
use Rattle.store_directory.specs.Settling.{KeepsGrowing}
use Rattle.shared_replica.specs.declared.entry.Entry.{Entry}
use Rattle.shared_replica.specs.declared.entry.Entry.TheVariants.{First, Opened}
use Rattle.shared_replica.specs.Entries.{opening_of, updates_of}
use Rattle.session_server.specs.declared.ending.Ending.TheVariants as endings
use Rattle.session_server.specs.declared.served.Served.{Served}
use Rattle.session_server.specs.Serving.{Ran}
use Rattle.session_server.specs.Sessions.{IsSession}
use Rattle.outcomes.specs.declared.refusal.Refusal.{Refusal}
use Rattle.outcomes.specs.declared.refusal.Refusal.TheVariants as refusals
use Rattle.schema_verdict.specs.declared.status.TheConstants.{STORE_FAULT, STREAM_FAULT}
use Rattle.store_directory.specs.Remembering.{KeepsPeers, RemembersIn, memory_in}
use Rattle.outcomes.specs.OpenStores.{opened_store}
use Rattle.net_commands.specs.Meetings.{Concluded, Dials, HandsNone, HandsOver, MeetingOf}
use Rattle.outcomes.specs.Told.{Told, told_done, told_status}

-- the list of a shared replica as it opens
abbrev pub opening_list : ReplicaState → List Entry
opening_list replica = First (opening_of replica) ∷ map Opened replica.history.members

-- ---- `sync`

-- A session was held over a link that the net handed out, as the end that begins it. A fault that it met is counted.
pub record HoldsSession (peers : List PeerEntry) (name : List ℕ) (net net_new : NetState) (net_faults net_faults_new : ℕ) (old now : ReplicaState) (ran : Ran) : Type 0 where
  pub handed : HandsOver net ran net_new
  pub opened : ran.before.seen ≡ opening_list old
  pub seen : IsPrefix ran.before.seen ran.after.seen
  pub within : IsPrefix (updates_of ran.after.seen) now.history.members
  pub session : IsSession old.history.schema.rule Initiator peers (Some name) ran.before ran.after ran.left ran.left' ran.held ran.held' ran.faults ran.faults' ran.served
  pub broken : ran.served.ending ≡ endings.Broken → Rose net_faults net_faults_new
  pub stored : ran.served.ending ≡ endings.Store → 0 < now.log.faults

-- What meeting the node at an address comes to. Without a session the store is what it was.
pub data MeetsBy (peers : List PeerEntry) (name : List ℕ) (net net_new : NetState) (net_faults net_faults_new : ℕ) (old now : ReplicaState) (result : Result Served Refusal) : Type 0 where
  no_memory : Dials net net_new → now ≡ old → result ≡ Err refusals.Memory → MeetsBy peers name net net_new net_faults net_faults_new old now result
  not_dialled : HandsNone net net_new → Rose net_faults net_faults_new → now ≡ old → result ≡ Err refusals.Stream → MeetsBy peers name net net_new net_faults net_faults_new old now result
  held : (ran : Ran) → result ≡ Ok ran.served → HoldsSession peers name net net_new net_faults net_faults_new old now ran → MeetsBy peers name net net_new net_faults net_faults_new old now result

pub record MeetsOpen (peers : List PeerEntry) (name : List ℕ) (net net_new : NetState) (net_faults net_faults_new : ℕ) (old now : ReplicaState) (result : Result Served Refusal) : Type 0 where
  pub grows : KeepsGrowing old now
  pub comes : MeetsBy peers name net net_new net_faults net_faults_new old now result

-- What is left after a session of the store and of what is remembered: after one that is done its ids are, and the log has nothing else than the store's updates;
-- after another nothing is.
pub record AreKept (dir : List ℕ) (before after : ShelfState) (now : ReplicaState) (peers : List PeerEntry) (name : List ℕ) (served : Served) : Type 0 where
  pub remembers : served.ending ≡ endings.Done → IsTrue before.tells → RemembersIn peers name served.heads (memory_in after dir)
  pub forgets : served.ending ≢ endings.Done → IsTrue before.tells → memory_in after dir ≡ memory_in before dir
  pub clean : served.ending ≡ endings.Done → IsTrue now.log.disk.tells → IsClean now.log.end now.log.disk

-- Why it is not: memory ran out; or a disk failed, after a session that is done.
abbrev pub IsKeepFault : ℕ → ℕ → ReplicaState → Served → Refusal → Type 0
IsKeepFault faults faults_new now served refusal =
    (refusal ≡ refusals.Memory) ⊎ ((refusal ≡ refusals.StoreFault) × (served.ending ≡ endings.Done) × (Rose faults faults_new ⊎ (0 < now.log.faults)))

pub record Keeps (dir : List ℕ) (before after : ShelfState) (faults faults_new : ℕ) (old now : ReplicaState) (peers : List PeerEntry) (name : List ℕ) (served : Served) {T : Type 0} (result : Result T Refusal) : Type 0 where
  pub grows : KeepsGrowing old now
  pub keeps : KeepsPeers dir before after
  pub kept : OnOk result (AreKept dir before after now peers name served)
  pub failed : IfErr result (IsKeepFault faults faults_new now served)
  pub later : faults ≤ faults_new
  pub log_later : old.log.faults ≤ now.log.faults

-- How the session is told, or that memory ran out.
pub record Concludes (dir : List ℕ) (before after : ShelfState) (faults faults_new : ℕ) (old now : ReplicaState) (peers : List PeerEntry) (name : List ℕ) (served : Served) (told : Told) : Type 0 where
  pub grows : KeepsGrowing old now
  pub clean : told_done told ≡ true → IsTrue now.log.disk.tells → IsClean now.log.end now.log.disk
  pub keeps : KeepsPeers dir before after
  pub comes : Concluded before.tells peers name (memory_in before dir) (memory_in after dir) served told ⊎ (told ≡ Err refusals.Memory)
  pub later : faults ≤ faults_new
  pub log_later : old.log.faults ≤ now.log.faults
  pub store_fault : told_status told ≡ STORE_FAULT → (served.ending ≡ endings.Store) ⊎ (Rose faults faults_new ⊎ (0 < now.log.faults))
  pub stream_fault : told_status told ≡ STREAM_FAULT → served.ending ≡ endings.Broken

-- `sync` over a store that is open.
pub record SyncsOpen (dir address : List ℕ) (before after : ShelfState) (net net_new : NetState) (faults faults_new net_faults net_faults_new : ℕ) (old now : ReplicaState) (told : Told) : Type 0 where
  pub added : List (List ℕ)
  pub holds : HoldsOn old now added (told_done told)
  pub comes : MeetingOf before.tells (opened_store old) address (memory_in before dir) (memory_in after dir) net net_new added told ⊎ (told ≡ Err refusals.Memory)
  pub dials : Dials net net_new
  pub keeps : KeepsPeers dir before after
  pub later : faults ≤ faults_new
  pub store_fault : told_status told ≡ STORE_FAULT → Rose faults faults_new ⊎ (0 < now.log.faults)
  pub stream_fault : told_status told ≡ STREAM_FAULT → Rose net_faults net_faults_new
