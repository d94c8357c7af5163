-- What is done to a store that is open, in the middle of `serve`.
use Rattle.std.specs.Prelude.{◌≡◌, ◌⊎◌, ℕ, ◌<◌, ◌≤◌, Bool, true, false, List, IsTrue, IfErr, OnOk, Result, Ok, Err}
use Rattle.std.specs.declared.alloc.AllocError.{AllocError}
use mathlib.Core.List.{IsPrefix}
use Rattle.bec_bytes.specs.Causes.{Rose}
use Rattle.bec_disk.specs.Shelf.{ShelfState}
use Rattle.bec_links.specs.Nets.{NetState}
use Rattle.update_log.specs.Log.{IsClean}
use Rattle.peer_memory.specs.declared.peer.Peer.{Peer as PeerEntry}
use Rattle.replica.specs.Replicas.{ReplicaState}
use Rattle.turn_lock.specs.Seats.{Known}
use Rattle.store_directory.specs.Holding.{HoldsOn}
use Rattle.shared_replica.specs.declared.entry.Entry.{Entry}
use Rattle.shared_replica.specs.Entries.{updates_of}
use Rattle.session_server.specs.declared.served.Served.{Served}
use Rattle.session_server.specs.Serving.{Serves}
use Rattle.outcomes.specs.declared.refusal.Refusal.{Refusal}
use Rattle.outcomes.specs.declared.refusal.Refusal.TheVariants as refusals
use Rattle.schema_verdict.specs.declared.status.TheConstants.{OUT_OF_MEMORY, STORE_FAULT, STREAM_FAULT}
use Rattle.store_directory.specs.Remembering.{KeepsPeers, memory_in}
use Rattle.outcomes.specs.OpenStores.{opened_store}
use Rattle.net_commands.specs.declared.serving.Met.{Met}
use Rattle.net_commands.specs.Meetings.{RemembersSessions, ServingOf}
use Rattle.outcomes.specs.Told.{Tells, Told, told_done, told_status}
use Rattle.store_directory.specs.Settling.{KeepsGrowing}
use Rattle.net_commands.specs.Open.{opening_list}
use Rattle.net_commands.specs.Words.{has_status, serve_status, serve_text}

-- The peers that dialled were served. A fault that a session met is counted.
pub record HoldsSessions (peers : List PeerEntry) (asked : ℕ) (net net_new : NetState) (net_faults net_faults_new : ℕ) (old now : ReplicaState) (met : Met) : Type 0 where
  pub first : Known Entry
  pub last : Known Entry
  pub opened : first.seen ≡ opening_list old
  pub within : IsPrefix (updates_of last.seen) now.history.members
  pub serves : Serves old.history.schema.rule peers asked first last net net_new net_faults net_faults_new met.sessions met.net_failed false
  pub starved : has_status OUT_OF_MEMORY met.sessions ≡ false
  pub broken : has_status STREAM_FAULT met.sessions ≡ true → Rose net_faults net_faults_new
  pub stored : has_status STORE_FAULT met.sessions ≡ true → 0 < now.log.faults

-- What serving the peers of a replica comes to: nothing else than want of memory may come in its place.
pub record ServesPeersOpen (peers : List PeerEntry) (asked : ℕ) (net net_new : NetState) (net_faults net_faults_new : ℕ) (old now : ReplicaState) (result : Result Met AllocError) : Type 0 where
  pub grows : KeepsGrowing old now
  pub out : net_new.out ≡ net.out
  pub held : (met : Met) → result ≡ Ok met → HoldsSessions peers asked net net_new net_faults net_faults_new old now met

-- What is left where sessions were held: the log has the updates of the store alone, and the directory remembers the peers of those that are done.
pub record KeepsSessions (dir : List ℕ) (before after : ShelfState) (faults faults_new : ℕ) (old now : ReplicaState) (peers : List PeerEntry) (sessions : List Served) {T : Type 0} (result : Result T Refusal) : Type 0 where
  pub grows : KeepsGrowing old now
  pub clean : OnOk result (IsTrue now.log.disk.tells → IsClean now.log.end now.log.disk)
  pub keeps : KeepsPeers dir before after
  pub remembers : OnOk result (IsTrue before.tells → RemembersSessions peers sessions (memory_in before dir) (memory_in after dir))
  pub failed : IfErr result (λ refusal. (refusal ≡ refusals.Memory) ⊎ ((refusal ≡ refusals.StoreFault) × (Rose faults faults_new ⊎ (0 < now.log.faults))))
  pub later : faults ≤ faults_new
  pub log_later : old.log.faults ≤ now.log.faults

-- Whether a disk failed while something was kept.
abbrev pub HasFailed : {T : Type 0} → Result T Refusal → Bool → Type 0
HasFailed (Ok kept) failed = failed ≡ false
HasFailed (Err refusal) failed = (refusal ≡ refusals.StoreFault) × (failed ≡ true)

-- How the sessions ended is told, and what failed besides.
pub record ConcludesAllAs (dir : List ℕ) (before after : ShelfState) (peers : List PeerEntry) (met : Met) (told : Told) : Type 0 where
  pub store_failed : Bool
  pub tells : Tells told (serve_text met.sessions store_failed met.net_failed) (serve_status met.sessions store_failed met.net_failed)
  pub remembers : store_failed ≡ false → IsTrue before.tells → RemembersSessions peers met.sessions (memory_in before dir) (memory_in after dir)

-- Or memory ran out.
pub record ConcludesAll (dir : List ℕ) (before after : ShelfState) (faults faults_new : ℕ) (old now : ReplicaState) (peers : List PeerEntry) (met : Met) (told : Told) : Type 0 where
  pub grows : KeepsGrowing old now
  pub clean : told_done told ≡ true → IsTrue now.log.disk.tells → IsClean now.log.end now.log.disk
  pub keeps : KeepsPeers dir before after
  pub comes : ConcludesAllAs dir before after peers met told ⊎ (told ≡ Err refusals.Memory)
  pub later : faults ≤ faults_new
  pub log_later : old.log.faults ≤ now.log.faults
  pub store_fault : told_status told ≡ STORE_FAULT → (has_status STORE_FAULT met.sessions ≡ true) ⊎ (Rose faults faults_new ⊎ (0 < now.log.faults))
  pub stream_fault : told_status told ≡ STREAM_FAULT → (has_status STREAM_FAULT met.sessions ≡ true) ⊎ (met.net_failed ≡ true)

-- `serve` over a store that is open.
pub record ServesOpen (dir : List ℕ) (asked : ℕ) (before after : ShelfState) (net net_new : NetState) (faults faults_new net_faults net_faults_new : ℕ) (old now : ReplicaState) (told : Told) : Type 0 where
  pub added : List (List ℕ)
  pub holds : HoldsOn old now added (told_done told)
  pub comes : ServingOf before.tells (opened_store old) asked (memory_in before dir) (memory_in after dir) net net_new net_faults net_faults_new added told ⊎ (told ≡ Err refusals.Memory)
  pub out : net_new.out ≡ net.out
  pub keeps : KeepsPeers dir before after
  pub later : faults ≤ faults_new
  pub store_fault : told_status told ≡ STORE_FAULT → Rose faults faults_new ⊎ (0 < now.log.faults)
  pub stream_fault : told_status told ≡ STREAM_FAULT → Rose net_faults net_faults_new
