-- What a run of the program does, with what it does over a net.
use Rattle.std.specs.Prelude.{◌≡◌, ◌⊎◌, ℕ, ◌<◌, List, [], map, String}
use Rattle.std.specs.declared.alloc.Global.{Global}
use Rattle.std.specs.Io.KnownBytes.{Appends}
use Rattle.std.specs.String.{string_bytes}
use Rattle.bec_bytes.specs.Causes.{Rose}
use Rattle.bec_disk.specs.Shelf.{ShelfState}
use Rattle.bec_links.specs.Nets.{NetState}
use Rattle.command_words.specs.NetRequests.{AsksNet, NetText, sync, serve}
use Rattle.schema_verdict.specs.declared.status.TheConstants.{OUT_OF_MEMORY, STORE_FAULT, STREAM_FAULT}
use Rattle.outcomes.specs.Outside.{IsUntouched, Outside}
use Rattle.schema_verdict.specs.Written.{SinkState}
use Rattle.bec_node.specs.Beside.{RunsBeside}
use Rattle.net_commands.specs.Meetings.{ServesStore, SyncsStore}
use Rattle.outcomes.specs.Told.{Told, EndsTold}

-- the words ask for this over a net
abbrev pub IsNetCommand : NetText → List (String Global) → Type 0
IsNetCommand request words = AsksNet (map string_bytes words) request

-- Where a request asks for sessions, it asks for one at least.
abbrev pub AsksForSome : NetText → Type 0
AsksForSome (sync dir address) = Unit {0}
AsksForSome (serve dir address sessions) = 0 < sessions

-- A net: the net itself, what it tells, and its count of faults.
pub record NetSeen (N : Type 0) : Type 0 where
  pub net : N
  pub state : NetState
  pub faults : ℕ

-- a net, by the members of `Net`
abbrev pub seen_net : {N : Type 0} → record { faults : N → ℕ; state : N → NetState } → N → NetSeen N
seen_net members net = record { net = net; state = members.state net; faults = members.faults net }

-- What a request of a net comes to. It uses neither the source nor the generator.
pub record ComesOver {S H R : Type 0} (Does : Told → Type 0) (before after : Outside S H R) (sink sink_new : SinkState) (status : ℕ) : Type 0 where
  pub told : Told
  pub does : Does told
  pub source : after.source ≡ before.source
  pub random : after.random ≡ before.random
  pub said : EndsTold sink.faults sink_new.faults sink.held sink_new.held told status

-- What a request of a net does, by what is told.
abbrev pub DoesOver : NetText → (store store_new : ShelfState) (net net_new : NetState) (faults faults_new net_faults net_faults_new : ℕ) → Told → Type 0
DoesOver (sync dir address) store store_new net net_new faults faults_new net_faults net_faults_new told = SyncsStore dir address store store_new net net_new faults faults_new net_faults net_faults_new told
DoesOver (serve dir address sessions) store store_new net net_new faults faults_new net_faults net_faults_new told = ServesStore dir sessions store store_new net net_new faults faults_new net_faults net_faults_new told

-- A run of the program. Words that ask for something over a net come to that; other words do what they do without a net, and leave the net as it was; and without
-- memory for reading the words nothing is done.
pub data RunsOver {S H R N : Type 0} (words : List (String Global)) (before after : Outside S H R) (net net_new : NetSeen N) (sink sink_new : SinkState) (status : ℕ) : Type 0 where
  over_net : (request : NetText) → IsNetCommand request words
      → ComesOver (DoesOver request before.store after.store net.state net_new.state before.shelf_faults after.shelf_faults net.faults net_new.faults) before after sink sink_new status
      → RunsOver words before after net net_new sink sink_new status
  beside : ((request : NetText) → IsNetCommand request words → ⊥) → RunsBeside words before after sink sink_new status → net_new ≡ net → RunsOver words before after net net_new sink sink_new status
  unread : IsUntouched before after → net_new ≡ net → status ≡ OUT_OF_MEMORY → Appends sink.held sink_new.held [] → RunsOver words before after net net_new sink sink_new status

-- What every run leaves, whatever it comes to and whether the shelf and the net tell what they have or not: no link of the net is handed out that was not before. A store fault is told only
-- where the shelf counted one, and a stream fault only where the source, the net or the sink did.
pub record Leaves {S H R N : Type 0} (before after : Outside S H R) (net net_new : NetSeen N) (sink sink_new : SinkState) (status : ℕ) : Type 0 where
  pub links : net_new.state.out ≡ net.state.out
  pub store_fault : status ≡ STORE_FAULT → Rose before.shelf_faults after.shelf_faults
  pub stream_fault : status ≡ STREAM_FAULT → Rose before.source_faults after.source_faults ⊎ (Rose net.faults net_new.faults ⊎ Rose sink.faults sink_new.faults)
