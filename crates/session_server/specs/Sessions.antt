-- What a session over a link comes to.
use Rattle.std.specs.Prelude.{◌≡◌, ◌≢◌, ◌⊎◌, ℕ, ◌+◌, true, List, [], ◌++◌, map, Option, None, Some, option_map}
use Rattle.std.specs.List.{list_all}
use mathlib.Core.List.{IsPrefix}
use Rattle.bec_bytes.specs.Causes.{Rose}
use Rattle.std.specs.Io.KnownBytes.{Appends, Consumes, IsAtEnd}
use Rattle.update_codec.specs.Parts.{entry_of}
use Rattle.update_model.specs.declared.update_id.UpdateId.{UpdateId}
use Rattle.update_model.specs.Batch.{store_limits}
use Rattle.update_model.specs.Graph.{holds}
use Rattle.update_model.specs.Rule.{RuleData}
use Rattle.session_rules.specs.Course.{Remembers}
use Rattle.session_rules.specs.State.{FrameData, SessionData}
use Rattle.session_rules.specs.declared.role.Role.{Role}
use Rattle.session_rules.specs.declared.end.End.TheVariants as ends
use Rattle.session_rules.specs.Steps.{heads_in}
use Rattle.sync_frames.specs.Stream.{IsBegun}
use Rattle.sync_session.specs.Starts.{node_of}
use Rattle.peer_memory.specs.declared.peer.Peer.{Peer}
use Rattle.turn_lock.specs.Seats.{Known}
use Rattle.shared_replica.specs.declared.entry.Entry.{Entry}
use Rattle.shared_replica.specs.Entries.{added_by, entries_by, updates_of}
use Rattle.shared_replica.specs.Sessions.{IsRuledBy}
use Rattle.session_server.specs.declared.ending.Ending.{Ending}
use Rattle.session_server.specs.declared.ending.Ending.TheVariants.{Done, Peer as BadPeer, Cut, Full, Broken, Store, Memory}
use Rattle.session_server.specs.declared.served.Served.{Served}
use Rattle.link_frames.specs.Course.{Comes}
use Rattle.session_server.specs.Recalling.{recalled}
use Rattle.link_frames.specs.Hearing.{AreFrontOf, AreSaid, Hears}

-- An act of the pass since then met a fault of the disk.
pub record HasMetFault (before after : Known Entry) : Type 0 where
  pub point : List Entry
  pub added : List (List ℕ)
  pub seat : ℕ
  pub act : ℕ
  pub rest : List Entry
  pub began : IsPrefix before.seen point
  pub ended : after.seen ≡ point ++ (entries_by seat act added true ++ rest)
  pub own : after.number ≡ Some seat

-- Since then the seat of the pass, which has this number, added so many updates to the list.
pub record HasAdded (before after : Known Entry) (count : ℕ) : Type 0 where
  pub seat : ℕ
  pub own : after.number ≡ Some seat
  pub all : added_by seat after.seen ≡ added_by seat before.seen + count

-- Why a session ended so: by the rules of sessions; because the link ended before; because a call of the link failed; or because a call of the disk failed.
-- Want of memory needs no cause.
abbrev pub HasCause : Ending → SessionData → Known Entry → Known Entry → ℕ → ℕ → Type 0
HasCause Done s before after faults now = s.ended ≡ Some ends.Done
HasCause (BadPeer fault) s before after faults now = s.ended ≡ Some (ends.Peer fault)
HasCause Cut s before after faults now = s.ended ≡ None
HasCause Full s before after faults now = s.ended ≡ Some ends.Full
HasCause Broken s before after faults now = Rose faults now
HasCause Store s before after faults now = (s.ended ≡ Some ends.Store) × HasMetFault before after
HasCause Memory s before after faults now = Unit {0}

-- What was put on the link is all that was said; where the link failed or memory ran out it is a front of it.
abbrev pub IsPut : Ending → List FrameData → List ℕ → Type 0
IsPut Done said bytes = AreSaid said bytes
IsPut (BadPeer fault) said bytes = AreSaid said bytes
IsPut Cut said bytes = AreSaid said bytes
IsPut Full said bytes = AreSaid said bytes
IsPut Broken said bytes = AreFrontOf said bytes
IsPut Store said bytes = AreSaid said bytes
IsPut Memory said bytes = AreFrontOf said bytes

-- Where the link ended first, all of it was read, and no whole frame is left in what was read and not heard.
abbrev pub IsAllRead : Ending → List ℕ → Option (List ℕ) → Type 0
IsAllRead Done later left = Unit {0}
IsAllRead (BadPeer fault) later left = Unit {0}
IsAllRead Cut later left = IsBegun later × IsAtEnd left
IsAllRead Full later left = Unit {0}
IsAllRead Broken later left = Unit {0}
IsAllRead Store later left = Unit {0}
IsAllRead Memory later left = Unit {0}

-- What is to be remembered of the peer: of a session that is done what the rules say, and else nothing.
abbrev pub IsToRemember : Ending → SessionData → List UpdateId → Type 0
IsToRemember Done s ids = Remembers s ids
IsToRemember (BadPeer fault) s ids = ids ≡ []
IsToRemember Cut s ids = ids ≡ []
IsToRemember Full s ids = ids ≡ []
IsToRemember Broken s ids = ids ≡ []
IsToRemember Store s ids = ids ≡ []
IsToRemember Memory s ids = ids ≡ []

-- What the session counts. Where memory ran out nothing is said of it.
pub record Counts (s : SessionData) (served : Served) : Type 0 where
  pub gained : served.gained ≡ s.gained
  pub turns : served.turns ≡ s.turns
  pub peer : served.peer ≡ option_map node_of s.peer

-- A session ran over a link, as the end of this role, from a pass to a pass that has seen more: it came to a state by the rules of sessions. The frames that it
-- heard are those that were read of the link. The lists over which it went are growing fronts of the updates that the pass has seen, and begin with those that it had seen before.
-- What it said was put on the link. It counts as gained what its seat added to the list.
pub record Runs (rule : RuleData) (role : Role) (peers : List Peer) (name : Option (List ℕ)) (before after : Known Entry) (left left' held held' : Option (List ℕ)) (faults faults' : ℕ) (served : Served) : Type 0 where
  pub same_lock : after.lock ≡ before.lock
  pub seen : IsPrefix before.seen after.seen
  pub ruled : IsRuledBy before.seen rule
  pub reached : SessionData
  pub members : List (List ℕ)
  pub heard : List FrameData
  pub said : List FrameData
  pub course : Comes store_limits role rule.database ruled.opening.node (recalled role peers name heard) (updates_of before.seen) reached members heard said
  pub within : IsPrefix members (updates_of after.seen)
  pub read : List ℕ
  pub later : List ℕ
  pub took : Consumes left left' read
  pub hears : Hears rule read later heard
  pub all_read : IsAllRead served.ending later left'
  pub put : List ℕ
  pub grew : Appends held held' put
  pub is_put : IsPut served.ending said put
  pub cause : HasCause served.ending reached before after faults faults'
  pub counts : served.ending ≢ Memory → Counts reached served
  pub gained : served.ending ≢ Memory → HasAdded before after served.gained
  pub remembers : IsToRemember served.ending reached served.heads
  pub held_all : served.ending ≡ Done → list_all (holds (map entry_of (updates_of after.seen))) (heads_in reached.peer) ≡ true

-- There was no memory to begin it. Nothing was read and nothing was put.
pub record NeverBegins (before after : Known Entry) (left left' held held' : Option (List ℕ)) (served : Served) : Type 0 where
  pub same_lock : after.lock ≡ before.lock
  pub seen : IsPrefix before.seen after.seen
  pub ending : served.ending ≡ Memory
  pub heads : served.heads ≡ []
  pub gained : served.gained ≡ 0
  pub turns : served.turns ≡ 0
  pub peer : served.peer ≡ None
  pub unread : left' ≡ left
  pub unsaid : held' ≡ held

-- What a session over a link comes to.
abbrev pub IsSession : RuleData → Role → List Peer → Option (List ℕ) → Known Entry → Known Entry → Option (List ℕ) → Option (List ℕ) → Option (List ℕ) → Option (List ℕ) → ℕ → ℕ → Served → Type 0
IsSession rule role peers name before after left left' held held' faults faults' served =
    Runs rule role peers name before after left left' held held' faults faults' served ⊎ NeverBegins before after left left' held held' served
