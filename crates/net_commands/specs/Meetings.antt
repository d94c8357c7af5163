-- What the commands `sync` and `serve` come to, and what they leave.
use Rattle.std.specs.Prelude.{◌≡◌, ◌≢◌, ◌⊎◌, ℕ, Bool, true, false, List, [], ◌∷◌, ◌++◌, IsTrue, Option, Some, Err}
use mathlib.Core.List.{IsPrefix}
use Rattle.sha2.specs.Sha256.{sha256}
use Rattle.row_check.specs.Checksum.{is_luhn}
use Rattle.bec_bytes.specs.Causes.{Rose}
use Rattle.bec_disk.specs.Shelf.{ShelfState}
use Rattle.bec_links.specs.Nets.{IsFirst, NetState, with_held}
use Rattle.update_model.specs.declared.update_id.UpdateId.{UpdateId}
use Rattle.session_rules.specs.declared.role.Role.TheVariants.{Initiator}
use Rattle.peer_memory.specs.declared.peer.Peer.{Peer as PeerEntry}
use Rattle.peer_memory.specs.Payload.{Reads, Spells}
use Rattle.peer_memory.specs.Peers.{Remembers}
use Rattle.turn_lock.specs.Seats.{Known}
use Rattle.key_directory.specs.Parts.{IsHome, KeepsAllBut}
use Rattle.store_directory.specs.Stores.{HoldsRun, StoreData}
use Rattle.shared_replica.specs.declared.entry.Entry.{Entry}
use Rattle.shared_replica.specs.declared.entry.Entry.TheVariants.{First}
use Rattle.shared_replica.specs.declared.entry.Opening.{Opening}
use Rattle.shared_replica.specs.Entries.{updates_of}
use Rattle.session_server.specs.declared.ending.Ending.{Ending}
use Rattle.session_server.specs.declared.ending.Ending.TheVariants as endings
use Rattle.session_server.specs.declared.served.Served.{Served}
use Rattle.session_server.specs.Serving.{Ran, Serves}
use Rattle.session_server.specs.Sessions.{IsSession}
use Rattle.outcomes.specs.declared.refusal.Refusal.{Refusal}
use Rattle.outcomes.specs.declared.refusal.Refusal.TheVariants as refusals
use Rattle.schema_verdict.specs.declared.status.TheConstants.{DONE, OUT_OF_MEMORY, STORE_FAULT, STREAM_FAULT}
use Rattle.outcomes.specs.Comes.{readings}
use Rattle.store_directory.specs.Remembering.{RemembersIn, memory_in, touched}
use Rattle.outcomes.specs.StoreAnswers.{HasStore, Readings, RefusesStore}
use Rattle.net_commands.specs.Words.{has_status, serve_status, serve_text, exit_status, sync_text}
use Rattle.outcomes.specs.Told.{Told, told_status, told_done, Tells}

-- ---- sessions

-- The list is that of a store of this node with this schema, whose updates it had in front.
pub record IsListOf (store : StoreData) (list : List Entry) : Type 0 where
  pub opening : Opening
  pub rest : List Entry
  pub first : list ≡ First opening ∷ rest
  pub node : opening.node ≡ store.node
  pub schema : opening.schema ≡ store.schema
  pub updates : IsPrefix store.members (updates_of list)

-- A pass went through a store, from its opening on. What it has seen at its end stands in front of what the store has then.
pub record Passes (store : StoreData) (added : List (List ℕ)) (first last : Known Entry) : Type 0 where
  pub opened : IsListOf store first.seen
  pub began : updates_of first.seen ≡ store.members
  pub seen : IsPrefix first.seen last.seen
  pub held : IsPrefix (updates_of last.seen) (store.members ++ added)

-- ---- nets

-- A link was handed out that had these bytes left and these put on it, and put back with these on it.
pub record HandsLink (before : NetState) (left held held' : Option (List ℕ)) (after : NetState) : Type 0 where
  pub first : IsFirst before.coming left held after.coming
  pub given : after.given ≡ with_held before.given held'
  pub out : after.out ≡ before.out
  pub failed : after.failed ≡ before.failed

-- A link was handed out, and put back after this session.
abbrev pub HandsOver : NetState → Ran → NetState → Type 0
HandsOver before ran after = HandsLink before ran.left ran.held ran.held' after

-- No link was handed out, and that counts as a call that failed.
pub record HandsNone (before after : NetState) : Type 0 where
  pub coming : after.coming ≡ before.coming
  pub given : after.given ≡ before.given
  pub out : after.out ≡ before.out
  pub failed : Rose before.failed after.failed

-- What `sync` does to the net: nothing; or it asks for a link, and gets none; or it gets one, and puts it back.
pub data Dials (before after : NetState) : Type 0 where
  not_asked : after ≡ before → Dials before after
  refused : HandsNone before after → Dials before after
  handed : (left held held' : Option (List ℕ)) → HandsLink before left held held' after → Dials before after

-- The refusal is one of a store that is not opened.
abbrev pub IsOfStore : Refusal → Type 0
IsOfStore refusal = (refusal ≡ refusals.NoStore) ⊎ (refusal ≡ refusals.BadStore)

-- ---- `sync`

-- How a session is told: by what it came to, and after one that is done its ids are remembered, and after another nothing; or, after one that is done, by the disk that
-- failed as the log was settled or the ids were to be remembered.
pub data Concluded (tells : Bool) (peers : List PeerEntry) (name : List ℕ) (memory memory_new : List ℕ) (served : Served) (told : Told) : Type 0 where
  kept : Tells told (sync_text served) (exit_status served.ending) → (served.ending ≡ endings.Done → IsTrue tells → RemembersIn peers name served.heads memory_new)
      → (served.ending ≢ endings.Done → IsTrue tells → memory_new ≡ memory) → Concluded tells peers name memory memory_new served told
  not_kept : served.ending ≡ endings.Done → told ≡ Err refusals.StoreFault → Concluded tells peers name memory memory_new served told

-- The store met the peer at the address, whose name is the digest of that word: in a session over the net's next link, which it began. What the directory remembers is
-- told where the shelf tells what it has.
pub record Meets (tells : Bool) (store : StoreData) (address : List ℕ) (memory memory_new : List ℕ) (net net_new : NetState) (added : List (List ℕ)) (told : Told) : Type 0 where
  pub peers : List PeerEntry
  pub reads : IsTrue tells → Reads memory peers
  pub ran : Ran
  pub handed : HandsOver net ran net_new
  pub passes : Passes store added ran.before ran.after
  pub session : IsSession store.schema.rule Initiator peers (Some (sha256 address)) ran.before ran.after ran.left ran.left' ran.held ran.held' ran.faults ran.faults' ran.served
  pub concluded : Concluded tells peers (sha256 address) memory memory_new ran.served told

-- What comes of a store that is open: a disk failed before a link was asked for; or none was handed out; or it met the peer. Only a peer brings updates.
pub data MeetingOf (tells : Bool) (store : StoreData) (address : List ℕ) (memory memory_new : List ℕ) (net net_new : NetState) (added : List (List ℕ)) (told : Told) : Type 0 where
  not_read : net_new ≡ net → added ≡ [] → told ≡ Err refusals.StoreFault → MeetingOf tells store address memory memory_new net net_new added told
  not_dialled : HandsNone net net_new → added ≡ [] → told ≡ Err refusals.Stream → MeetingOf tells store address memory memory_new net net_new added told
  met : Meets tells store address memory memory_new net net_new added told → MeetingOf tells store address memory memory_new net net_new added told

-- What `sync` answers to what the parts of a directory read as, where the shelf tells it: the store is refused, or a disk failed as it was taken, and the net is left
-- alone; or what comes of the open store.
pub data SyncAnswer (tells : Bool) (parts : Readings) (address : List ℕ) (memory memory_new : List ℕ) (net net_new : NetState) (added : List (List ℕ)) (told : Told) : Type 0 where
  no_meeting : (refusal : Refusal) → IsOfStore refusal → (IsTrue tells → RefusesStore parts refusal) → net_new ≡ net → added ≡ [] → told ≡ Err refusal
      → SyncAnswer tells parts address memory memory_new net net_new added told
  not_taken : net_new ≡ net → added ≡ [] → told ≡ Err refusals.StoreFault → SyncAnswer tells parts address memory memory_new net net_new added told
  opened : (store : StoreData) → (IsTrue tells → HasStore parts store) → MeetingOf tells store address memory memory_new net net_new added told
      → SyncAnswer tells parts address memory memory_new net net_new added told

-- A run of `sync` over a directory and a net. What is told is the answer, and only want of memory may come in its place. These were added to the list of the store, in
-- whatever way it ends. No part but these is touched, and each is put back.
pub record SyncsStore (dir address : List ℕ) (before after : ShelfState) (net net_new : NetState) (faults faults_new net_faults net_faults_new : ℕ) (told : Told) : Type 0 where
  pub added : List (List ℕ)
  pub comes : SyncAnswer before.tells (readings before dir) address (memory_in before dir) (memory_in after dir) net net_new added told ⊎ (told ≡ Err refusals.Memory)
  pub dials : Dials net net_new
  pub run : IsTrue before.tells → HoldsRun is_luhn before after dir added (told_done told)
  pub others : IsTrue before.tells → KeepsAllBut touched dir before after
  pub home : IsTrue before.tells → IsHome after
  pub store_fault : told_status told ≡ STORE_FAULT → Rose faults faults_new
  pub stream_fault : told_status told ≡ STREAM_FAULT → Rose net_faults net_faults_new

-- ---- `serve`

-- what is remembered of peers after one session: of one that is done its ids, under the peer's node
abbrev pub RemembersOne : List PeerEntry → Ending → Option (List ℕ) → List UpdateId → List PeerEntry → Type 0
RemembersOne peers endings.Done (Some node) ids peers_new = Remembers peers node ids peers_new
RemembersOne peers ending whose ids peers_new = peers_new ≡ peers

-- and after all of them, in their order
abbrev pub RemembersAll : List PeerEntry → List Served → List PeerEntry → Type 0
RemembersAll peers [] peers_new = peers_new ≡ peers
RemembersAll peers (served ∷ others) peers_new = (between : List PeerEntry) × RemembersOne peers served.ending served.peer served.heads between × RemembersAll between others peers_new

-- The payload after the sessions: where one of them is done it is made anew, and else it stays.
pub record RemembersSessions (peers : List PeerEntry) (sessions : List Served) (memory memory_new : List ℕ) : Type 0 where
  pub peers_new : List PeerEntry
  pub all : RemembersAll peers sessions peers_new
  pub written : has_status DONE sessions ≡ true → Spells peers_new memory_new
  pub stays : has_status DONE sessions ≡ false → memory_new ≡ memory

-- The store served so many peers, each in a session over one of the net's next links, which the peer began. None of them ran out of memory: where one does, `serve`
-- tells that and nothing else. What failed outside of the sessions is told behind their lines.
pub record ServesPeers (tells : Bool) (store : StoreData) (asked : ℕ) (memory memory_new : List ℕ) (net net_new : NetState) (net_faults net_faults_new : ℕ) (added : List (List ℕ)) (told : Told) : Type 0 where
  pub peers : List PeerEntry
  pub reads : IsTrue tells → Reads memory peers
  pub first : Known Entry
  pub last : Known Entry
  pub passes : Passes store added first last
  pub sessions : List Served
  pub net_failed : Bool
  pub store_failed : Bool
  pub serves : Serves store.schema.rule peers asked first last net net_new net_faults net_faults_new sessions net_failed false
  pub starved : has_status OUT_OF_MEMORY sessions ≡ false
  pub said : Tells told (serve_text sessions store_failed net_failed) (serve_status sessions store_failed net_failed)
  pub remembers : store_failed ≡ false → IsTrue tells → RemembersSessions peers sessions memory memory_new

-- What comes of a store that is open: a disk failed before a link was asked for, and nothing was added; or it served.
pub data ServingOf (tells : Bool) (store : StoreData) (asked : ℕ) (memory memory_new : List ℕ) (net net_new : NetState) (net_faults net_faults_new : ℕ) (added : List (List ℕ)) (told : Told) : Type 0 where
  not_read : net_new ≡ net → added ≡ [] → told ≡ Err refusals.StoreFault → ServingOf tells store asked memory memory_new net net_new net_faults net_faults_new added told
  served : ServesPeers tells store asked memory memory_new net net_new net_faults net_faults_new added told → ServingOf tells store asked memory memory_new net net_new net_faults net_faults_new added told

-- What `serve` answers to what the parts of a directory read as, where the shelf tells it: the store is refused, or a disk failed as it was taken, and the net is left
-- alone; or what comes of the open store.
pub data ServeAnswer (tells : Bool) (parts : Readings) (asked : ℕ) (memory memory_new : List ℕ) (net net_new : NetState) (net_faults net_faults_new : ℕ) (added : List (List ℕ)) (told : Told) : Type 0 where
  not_served : (refusal : Refusal) → IsOfStore refusal → (IsTrue tells → RefusesStore parts refusal) → net_new ≡ net → added ≡ [] → told ≡ Err refusal
      → ServeAnswer tells parts asked memory memory_new net net_new net_faults net_faults_new added told
  not_taken : net_new ≡ net → added ≡ [] → told ≡ Err refusals.StoreFault → ServeAnswer tells parts asked memory memory_new net net_new net_faults net_faults_new added told
  opened : (store : StoreData) → (IsTrue tells → HasStore parts store) → ServingOf tells store asked memory memory_new net net_new net_faults net_faults_new added told
      → ServeAnswer tells parts asked memory memory_new net net_new net_faults net_faults_new added told

-- A run of `serve` over a directory and a net, as one of `sync`.
pub record ServesStore (dir : List ℕ) (asked : ℕ) (before after : ShelfState) (net net_new : NetState) (faults faults_new net_faults net_faults_new : ℕ) (told : Told) : Type 0 where
  pub added : List (List ℕ)
  pub comes : ServeAnswer before.tells (readings before dir) asked (memory_in before dir) (memory_in after dir) net net_new net_faults net_faults_new added told ⊎ (told ≡ Err refusals.Memory)
  pub out : net_new.out ≡ net.out
  pub run : IsTrue before.tells → HoldsRun is_luhn before after dir added (told_done told)
  pub others : IsTrue before.tells → KeepsAllBut touched dir before after
  pub home : IsTrue before.tells → IsHome after
  pub store_fault : told_status told ≡ STORE_FAULT → Rose faults faults_new
  pub stream_fault : told_status told ≡ STREAM_FAULT → Rose net_faults net_faults_new
