-- A session over a link, while it runs and where it ends.
use Rattle.std.specs.Prelude.{◌≡◌, ◌≢◌, ◌⊎◌, ℕ, ◌≤◌, Bool, true, false, List, [], ◌∷◌, ◌++◌, Option, None, Some, option_map, Result, Ok, Err}
use Rattle.std.specs.Io.KnownBytes.{Appends, Consumes}
use mathlib.Core.List.{IsPrefix}
use Rattle.update_model.specs.declared.update_id.UpdateId.{UpdateId}
use Rattle.update_model.specs.Batch.{store_limits}
use Rattle.update_model.specs.Rule.{RuleData}
use Rattle.session_rules.specs.State.{FrameData, Hello, OtherVersion, Item, BadItem, Turn, NoFrame, SessionData}
use Rattle.session_rules.specs.declared.role.Role.{Role}
use Rattle.session_rules.specs.declared.role.Role.TheVariants.{Initiator, Responder}
use Rattle.session_rules.specs.declared.end.End.{End}
use Rattle.session_rules.specs.declared.end.End.TheVariants as ends
use Rattle.sync_frames.specs.declared.frame.Frame.{Frame}
use Rattle.sync_frames.specs.Fed.{FedData}
use Rattle.sync_session.specs.Kept.{Kept, BelongsTo, Stands, seen}
use Rattle.sync_session.specs.Starts.{RemembersBy, StartsAs, node_of}
use Rattle.sync_session.specs.declared.out.Out.{Out}
use Rattle.replica.specs.Replicas.{ReplicaState}
use Rattle.shared_replica.specs.Acts.{IsAct}
use Rattle.peer_memory.specs.declared.peer.Peer.{Peer}
use Rattle.turn_lock.specs.Seats.{Known}
use Rattle.shared_replica.specs.declared.entry.Entry.{Entry}
use Rattle.shared_replica.specs.Entries.{added_by, updates_of}
use Rattle.shared_replica.specs.Sessions.{BelongsIn, IsRuledBy}
use Rattle.session_server.specs.declared.ending.Ending.{Ending}
use Rattle.session_server.specs.declared.ending.Ending.TheVariants.{Done, Peer as BadPeer, Cut, Full, Broken, Store, Memory}
use Rattle.session_server.specs.declared.served.Served.{Served}
use Rattle.link_frames.specs.declared.saying.Halt.{Halt}
use Rattle.link_frames.specs.declared.saying.Halt.TheVariants as halts
use Rattle.link_frames.specs.Course.{Comes}
use Rattle.session_server.specs.Recalling.{recalled}
use Rattle.link_frames.specs.Hearing.{AllArrive, AreSaid, Hears, Reads}
use Rattle.session_server.specs.Sessions.{HasAdded, HasCause, IsAllRead, IsPut}

-- how a session over a link ended, by how the session of the rules did
abbrev pub ending_of : End → Ending
ending_of ends.Done = Done
ending_of (ends.Peer fault) = BadPeer fault
ending_of ends.Full = Full
ending_of ends.Store = Store

-- how it ended, by whether all was said and by how the session of the rules ended, if it did
abbrev pub over_by : {T : Type 0} → Result T Halt → Option End → Option Ending
over_by (Err halts.Broken) end = Some Broken
over_by (Err halts.Memory) end = Some Memory
over_by (Ok t) end = option_map ending_of end

-- What a session that runs, or that ended so, has put on the link.
abbrev pub IsPutBy : Option Ending → List FrameData → List ℕ → Type 0
IsPutBy None said bytes = AreSaid said bytes
IsPutBy (Some ending) said bytes = IsPut ending said bytes

-- whether the link ended first
abbrev pub is_cut : Option Ending → Bool
is_cut None = false
is_cut (Some Done) = false
is_cut (Some (BadPeer fault)) = false
is_cut (Some Cut) = true
is_cut (Some Full) = false
is_cut (Some Broken) = false
is_cut (Some Store) = false
is_cut (Some Memory) = false

-- A session that runs has not ended by the rules. One that ended has its cause.
abbrev pub HasCauseBy : Option Ending → SessionData → Known Entry → Known Entry → ℕ → ℕ → Type 0
HasCauseBy None s first pass faults now = s.ended ≡ None
HasCauseBy (Some ending) s first pass faults now = HasCause ending s first pass faults now

-- Whether no frame was heard.
abbrev pub IsFresh : Bool → List FrameData → Type 0
IsFresh true heard = heard ≡ []
IsFresh false heard = (frame : FrameData) × (more : List FrameData) × (heard ≡ frame ∷ more)

-- What a session began with: the pass, the name of its peer where it has one, and what was on the link.
pub record Start : Type 0 where
  pub first : Known Entry
  pub name : Option (List ℕ)
  pub held : Option (List ℕ)
  pub faults : ℕ

-- Its seat added nothing meanwhile.
abbrev pub IsQuiet : Known Entry → Known Entry → Type 0
IsQuiet pass after = (seat : ℕ) → pass.number ≡ Some seat → added_by seat after.seen ≡ added_by seat pass.seen

-- A session of this rule over a link, as the end of this role, which began with these remembered ids and has heard these frames.
pub record IsTalk (rule : RuleData) (role : Role) (start : Start) (old : List UpdateId) (pass : Known Entry) (k : Kept) (fresh : Bool) (held : Option (List ℕ)) (faults : ℕ) (heard : List FrameData) (ending : Option Ending) : Type 0 where
  pub same_lock : pass.lock ≡ start.first.lock
  pub seen_more : IsPrefix start.first.seen pass.seen
  pub numbered : (n : ℕ) → start.first.number ≡ Some n → pass.number ≡ Some n
  pub ruled : IsRuledBy start.first.seen rule
  pub reached : SessionData
  pub members : List (List ℕ)
  pub said : List FrameData
  pub course : Comes store_limits role rule.database ruled.opening.node old (updates_of start.first.seen) reached members heard said
  pub within : IsPrefix members (updates_of pass.seen)
  pub stands : k.failed ≡ false → (reached ≡ seen members k) × Stands rule k members
  pub put : List ℕ
  pub grew : Appends start.held held put
  pub is_put : IsPutBy ending said put
  pub cause : HasCauseBy ending reached start.first pass start.faults faults
  pub later : start.faults ≤ faults
  pub is_fresh : IsFresh fresh heard
  pub failed : k.failed ≡ true → ending ≡ Some Memory
  pub counts : ending ≢ Some Memory → HasAdded start.first pass reached.gained

-- The same, which began with what is remembered of its peer.
abbrev pub IsTalkWith : RuleData → Role → List Peer → Start → Known Entry → Kept → Bool → Option (List ℕ) → ℕ → List FrameData → Option Ending → Type 0
IsTalkWith rule role peers start pass k fresh held faults heard ending =
    (old : List UpdateId) × (old ≡ recalled role peers start.name heard) × IsTalk rule role start old pass k fresh held faults heard ending

-- A frame was heard, or memory ran out before.
abbrev pub HeardOne : FrameData → List FrameData → Option Ending → List FrameData → Type 0
HeardOne frame heard ending all = (all ≡ heard ++ frame ∷ []) ⊎ ((ending ≡ Some Memory) × (all ≡ heard))

-- A frame was taken; or memory ran out before, and nothing was said.
abbrev pub TookOne : FrameData → List FrameData → Option Ending → List FrameData → Kept → Bool → Bool → Option (List ℕ) → Option (List ℕ) → ℕ → ℕ → Type 0
TookOne frame heard ending all next fresh fresh' held held' faults faults' =
    (all ≡ heard ++ frame ∷ []) ⊎ ((ending ≡ Some Memory) × (all ≡ heard) × (next.failed ≡ true) × (fresh' ≡ fresh) × (held' ≡ held) × (faults' ≡ faults))

-- Of these frames a front was heard: all of them, where the session goes on.
abbrev pub HeardFront : RuleData → List Frame → List FrameData → Option Ending → List FrameData → Type 0
HeardFront rule frames heard ending all = (front : List Frame) × (rest : List Frame) × (more : List FrameData) × (frames ≡ front ++ rest) × AllArrive rule front more × (all ≡ heard ++ more) × (ending ≡ None → rest ≡ [])

-- The pass is of the same lock, has the number that it had, and has seen at least as much.
pub record IsStill (pass after : Known Entry) : Type 0 where
  pub lock : after.lock ≡ pass.lock
  pub seen : IsPrefix pass.seen after.seen
  pub numbered : (n : ℕ) → pass.number ≡ Some n → after.number ≡ Some n

-- A pass went on, and a session belongs to what it has seen.
pub record Goes (pass after : Known Entry) (k : Kept) : Type 0 where
  pub still : IsStill pass after
  pub belongs : BelongsIn after.seen k

-- A session began, in a turn of its own.
pub record Begins (pass after : Known Entry) (role : Role) (old : List UpdateId) (k : Kept) (out : Out) : Type 0 where
  pub point : List Entry
  pub store : ReplicaState
  pub act : IsAct pass after point store store false
  pub starts : StartsAs role store.history.schema.rule.database store.node old (updates_of point) k out
  pub belongs : BelongsTo store_limits store.history.schema.rule k (updates_of point)

-- ---- what was read

-- What was read so far begins with the frames that were heard; where the link ended first, all that were whole were heard.
pub record ReadsTo (rule : RuleData) (before left : Option (List ℕ)) (heard : List FrameData) (ending : Ending) : Type 0 where
  pub read : List ℕ
  pub later : List ℕ
  pub took : Consumes before left read
  pub hears : Hears rule read later heard
  pub all_read : IsAllRead ending later left

-- what was read, of a session that runs or ended so
abbrev pub ReadsBy : Option Ending → RuleData → Option (List ℕ) → Option (List ℕ) → FedData → List FrameData → Type 0
ReadsBy None rule before left fed heard = Reads rule before left fed heard
ReadsBy (Some ending) rule before left fed heard = ReadsTo rule before left heard ending

-- the node of the first frame that a responder hears, where it is a Hello
abbrev pub first_node_of : Role → Bool → FrameData → Option (List ℕ)
first_node_of Initiator fresh frame = None
first_node_of Responder false frame = None
first_node_of Responder true (Hello hello) = Some hello.node
first_node_of Responder true OtherVersion = None
first_node_of Responder true (Item e) = None
first_node_of Responder true (BadItem why) = None
first_node_of Responder true (Turn turn) = None
first_node_of Responder true (NoFrame place) = None

-- ---- what a session came to

-- The ids to keep where a session ended so. Of one that is done the rules say which.
abbrev pub IsToKeep : Ending → Kept → List UpdateId → Type 0
IsToKeep Done k ids = RemembersBy k.failed k ids
IsToKeep (BadPeer fault) k ids = ids ≡ []
IsToKeep Cut k ids = ids ≡ []
IsToKeep Full k ids = ids ≡ []
IsToKeep Broken k ids = ids ≡ []
IsToKeep Store k ids = ids ≡ []
IsToKeep Memory k ids = ids ≡ []

-- What a session came to that ended so, or that had no memory left to say so.
pub record Concludes (k : Kept) (ending : Ending) (served : Served) : Type 0 where
  pub ends : (served.ending ≡ ending) ⊎ (served.ending ≡ Memory)
  pub heads : IsToKeep served.ending k served.heads
  pub gained : served.gained ≡ k.state.gained
  pub turns : served.turns ≡ k.state.turns
  pub peer : served.peer ≡ option_map node_of k.state.peer
