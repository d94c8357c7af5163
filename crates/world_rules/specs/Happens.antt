-- What happens in a world.
use Rattle.std.specs.Prelude.{◌≡◌, ◌⊎◌, ℕ, ◌+◌, ◌^◌, ◌<◌, ◌≤◌, ◌==◌, ◌&&◌, Bool, true, false, not, IsTrue, List, [], ◌∷◌, ◌++◌, length, map, is_some, is_none, nat_lt, Option, Some, None, Result, Ok, Err, slice_set, slice_index_or, if◌then◌else◌}
use Rattle.bec_disk.specs.Disk.{DiskState, IsImage, IsSettled, LeavesOnly, EveryImage, synced_at}
use Rattle.bec_bytes.specs.Causes.{Rose}
use Rattle.bec_bytes.specs.Framed.{stream_of}
use Rattle.confluence_test.specs.Taking.{TakesSchema}
use Rattle.key_index.specs.Creating.{CreatesKey}
use Rattle.update_model.specs.Rule.{RuleData}
use Rattle.key_index.specs.KeyState.{KeyState}
use Rattle.key_index.specs.Opening.{Holds, OpensKey}
use Rattle.key_index.specs.Used.{IsUsed, least_unused}
use Rattle.lms_tree.specs.SecretKey.{SecretData, public_key}
use Rattle.replica.specs.Holding.{KeepsOn}
use Rattle.replica.specs.Making.{AfterAllHeads, IsMakeCause, Makes, body_by}
use Rattle.replica.specs.Opening.{IsCreated, IsOpened, KeepsStore}
use Rattle.replica.specs.Replicas.{IsSameStore, ReplicaState}
use Rattle.replica.specs.Signing.{KeyAfter}
use Rattle.replica.specs.declared.make_fault.MakeFault.{MakeFault}
use Rattle.replica.specs.declared.make_fault.MakeFault.TheVariants.{NotListed, TooManyHeads, Invalid, TooLong, Full, Spent, Taken, DiskFault, Memory}
use Rattle.replica.specs.declared.make_fault.Side.TheVariants.{Key, Log}
use Rattle.schema.specs.Data.{Meaning, SchemaData}
use Rattle.session_rules.specs.Course.{Remembers, opened}
use Rattle.session_rules.specs.Pair.{frames_of}
use Rattle.session_rules.specs.State.{HelloData, FrameData, Hello, OtherVersion, Item, BadItem, Turn, NoFrame, SessionData, OutData}
use Rattle.session_rules.specs.Steps.{IsHello, Steps}
use Rattle.session_rules.specs.declared.end.End.{End}
use Rattle.session_rules.specs.declared.end.End.TheVariants as endings
use Rattle.session_rules.specs.declared.role.Role.TheVariants.{Initiator, Responder}
use Rattle.link_frames.specs.Hearing.{AllArrive}
use Rattle.sync_frames.specs.Fed.{FedData, Feeds}
use Rattle.sync_frames.specs.Stream.{IsBroken}
use Rattle.sync_frames.specs.declared.frame.Frame.{Frame}
use Rattle.update_codec.specs.Parts.{entry_of}
use Rattle.update_model.specs.Form.{IsBody}
use Rattle.update_log.specs.Logset.{BeginsWith}
use Rattle.update_model.specs.declared.op.Op.{Op}
use Rattle.update_model.specs.declared.update_id.UpdateId.{UpdateId}
use Rattle.update_model.specs.Batch.{store_limits}
use Rattle.world_rules.specs.declared.event.Event.{Event}
use Rattle.world_rules.specs.declared.event.Event.TheVariants.{Make, Start, Carry, Cut, Feed, Stop, Restart}
use Rattle.world_rules.specs.declared.event.Stepped.{Stepped}
use Rattle.world_rules.specs.declared.event.Stepped.TheVariants as stepped
use Rattle.world_rules.specs.Meetings.{EndData, TwoEnds, seen_from}
use Rattle.world_rules.specs.Worlds.{SiteData, OneEnd, SessionOf, Both, Liar, SignedData, MetData, WorldData, site_at, held_by, session_at, is_up, is_over, cut_if, cut, cut_with, sunk}

-- ---- what an event finds

abbrev pub is_free : WorldData → ℕ → Bool
is_free w s = nat_lt s (length w.sessions) && is_none (session_at w s)

abbrev pub has_frame : List FrameData → Bool
has_frame [] = false
has_frame (frame ∷ frames) = true

abbrev pub can_start : WorldData → ℕ → Option ℕ → Bool
can_start w first None = is_up (site_at w first)
can_start w first (Some second) = is_up (site_at w first) && (is_up (site_at w second) && not (first == second))

abbrev pub can_carry : Bool → Option SessionOf → Bool
can_carry forward None = false
can_carry forward (Some (Both m)) = has_frame (seen_from forward m).to_a && not (is_over (seen_from forward m).a)
can_carry forward (Some (Liar m)) = false

abbrev pub can_cut : Option SessionOf → Bool
can_cut None = false
can_cut (Some (Both m)) = not (is_over m.a && is_over m.b)
can_cut (Some (Liar m)) = not (is_over m.end)

abbrev pub can_feed : Option SessionOf → Bool
can_feed None = false
can_feed (Some (Both m)) = false
can_feed (Some (Liar m)) = not (is_over m.end)

-- Whether the event names what it can happen to: a replica that is up, for a Restart also one that is down; a session that was started, with an end that
-- has not ended.
abbrev pub finds : WorldData → Event → Bool
finds w (Make r ops) = is_up (site_at w r)
finds w (Start s first second) = is_free w s && can_start w first second
finds w (Carry s forward) = can_carry forward (session_at w s)
finds w (Cut s) = can_cut (session_at w s)
finds w (Feed s bytes) = can_feed (session_at w s)
finds w (Stop r calls) = is_up (site_at w r)
finds w (Restart r choice) = is_some (site_at w r)

-- ---- what is left

-- Where a replica failed it is down, and its sessions are cut.
abbrev pub ending : Bool → ℕ → SiteData → WorldData → WorldData
ending true r site w = record w { sites = slice_set w.sites r (sunk site); sessions = map (cut_with r) w.sessions; event = w.event + 1 }
ending false r site w = record w { sites = slice_set w.sites r site; event = w.event + 1 }

-- ---- Make

abbrev pub has_failed : Result UpdateId MakeFault → Bool
has_failed (Ok id) = false
has_failed (Err NotListed) = false
has_failed (Err (TooManyHeads n)) = false
has_failed (Err (Invalid reason operation)) = false
has_failed (Err (TooLong len)) = false
has_failed (Err Full) = false
has_failed (Err Spent) = false
has_failed (Err (Taken id)) = false
has_failed (Err (DiskFault side)) = true
has_failed (Err Memory) = false

-- what the event answers; want of memory is no answer of an event
abbrev pub Answers : Result UpdateId MakeFault → Stepped → Type 0
Answers (Ok id) answer = answer ≡ stepped.Done
Answers (Err NotListed) answer = answer ≡ stepped.Refused 6
Answers (Err (TooManyHeads n)) answer = answer ≡ stepped.Refused 2
Answers (Err (Invalid reason operation)) answer = answer ≡ stepped.Refused 1
Answers (Err (TooLong len)) answer = answer ≡ stepped.Refused 7
Answers (Err Full) answer = answer ≡ stepped.Refused 4
Answers (Err Spent) answer = answer ≡ stepped.Refused 3
Answers (Err (Taken id)) answer = answer ≡ stepped.Refused 8
Answers (Err (DiskFault side)) answer = answer ≡ stepped.Refused 5
Answers (Err Memory) answer = ⊥

-- A replica makes an update with its own key, or is refused. A disk is the cause only where it counted a fault.
pub record MakesBy (ask : Meaning) (old : ReplicaState) (key : KeyState) (ops : List Op) (c : List ℕ) (result : Result UpdateId MakeFault) (new : ReplicaState) (key' : KeyState) : Type 0 where
  pub made : (id : UpdateId) → result ≡ Ok id → Makes ask old.history key.secret key.taken ops c id new.history
  pub refused : (why : MakeFault) → result ≡ Err why → IsMakeCause ask old.history key.secret key.taken ops c why × (new.history ≡ old.history)
  pub store : IsSameStore old new
  pub key_after : KeyAfter key result key'
  pub any_moment : LeavesOnly old.log.disk new.log.disk (BeginsWith (stream_of old.history.members))
  pub used : (index : ℕ) → (IsTrue key.parts.used.tells → EveryImage key.parts.used.now (IsUsed index)) → LeavesOnly key.parts.used key'.parts.used (IsUsed index)
  pub on_disk : IsTrue new.log.disk.tells → EveryImage new.log.disk.now (BeginsWith (stream_of new.history.members))
  pub key_failed : result ≡ Err (DiskFault Key) → Rose key.parts.used_faults key'.parts.used_faults
  pub log_failed : result ≡ Err (DiskFault Log) → Rose old.log.faults new.log.faults

-- The message of the update that names all heads was signed, at the least index that was not used.
pub record SignsOne (r event : ℕ) (old : ReplicaState) (key : KeyState) (ops : List Op) (signs : List SignedData) : Type 0 where
  pub preds : List UpdateId
  pub index : ℕ
  pub after : AfterAllHeads old.history preds
  pub least : least_unused key.taken ≡ Some index
  pub form : IsBody (body_by old.history (public_key key.secret) preds ops)
  pub is : signs ≡ record { replica = r; index = index; body = body_by old.history (public_key key.secret) preds ops; event = event; held = length old.history.members } ∷ []

-- what was signed
abbrev pub Signs : Result UpdateId MakeFault → ℕ → ℕ → ReplicaState → KeyState → List Op → List SignedData → Type 0
Signs (Ok id) r event old key ops signs = SignsOne r event old key ops signs
Signs (Err NotListed) r event old key ops signs = signs ≡ []
Signs (Err (TooManyHeads n)) r event old key ops signs = signs ≡ []
Signs (Err (Invalid reason operation)) r event old key ops signs = signs ≡ []
Signs (Err (TooLong len)) r event old key ops signs = signs ≡ []
Signs (Err Full) r event old key ops signs = signs ≡ []
Signs (Err Spent) r event old key ops signs = signs ≡ []
Signs (Err (Taken id)) r event old key ops signs = SignsOne r event old key ops signs
Signs (Err (DiskFault Key)) r event old key ops signs = signs ≡ []
Signs (Err (DiskFault Log)) r event old key ops signs = SignsOne r event old key ops signs
Signs (Err Memory) r event old key ops signs = signs ≡ []

pub record MakesIn (ask : Meaning) (w : WorldData) (r : ℕ) (ops : List Op) (answer : Stepped) (w' : WorldData) : Type 0 where
  pub site : SiteData
  pub there : site_at w r ≡ Some site
  pub c : List ℕ
  pub result : Result UpdateId MakeFault
  pub store : ReplicaState
  pub key : KeyState
  pub signs : List SignedData
  pub makes : MakesBy ask site.store site.key ops c result store key
  pub signed : Signs result r w.event site.store site.key ops signs
  pub answers : Answers result answer
  pub is : w' ≡ ending (has_failed result) r (record site { store = store; key = key }) (record w { signed = w.signed ++ signs })

-- ---- Start

-- an end that begins over what a replica holds
abbrev pub began : Bool → SiteData → List UpdateId → EndData
began true site old = record { state = opened Initiator site.store.history.schema.rule.database site.store.node old (map entry_of (held_by site)); is_cut = false }
began false site old = record { state = opened Responder site.store.history.schema.rule.database site.store.node old (map entry_of (held_by site)); is_cut = false }

-- what a replica remembers of another
abbrev pub recalled : SiteData → ℕ → List UpdateId
recalled site other = slice_index_or site.remembered other []

abbrev pub Starts : WorldData → ℕ → ℕ → Option ℕ → SessionOf → Type 0
Starts w s first None m = (site : SiteData) × (site_at w first ≡ Some site)
    × (m ≡ Liar (record { first = first; end = began true site []; fed = record { place = 0; rest = [] } }))
Starts w s first (Some second) m = (site : SiteData) × (site_at w first ≡ Some site) × ((other : SiteData) × (site_at w second ≡ Some other) × ((hello : HelloData)
    × IsHello (began true site (recalled site second)).state hello
    × (m ≡ Both (record { first = first; second = second; a = began true site (recalled site second); b = began false other (recalled other first); to_a = []; to_b = Hello hello ∷ [] }))))

pub record StartsIn (w : WorldData) (s first : ℕ) (second : Option ℕ) (answer : Stepped) (w' : WorldData) : Type 0 where
  pub session : SessionOf
  pub starts : Starts w s first second session
  pub done : answer ≡ stepped.Done
  pub is : w' ≡ record w { sessions = slice_set w.sessions s (Some session); event = w.event + 1 }

-- ---- Carry and Feed

abbrev pub is_store : Option End → Bool
is_store None = false
is_store (Some endings.Done) = false
is_store (Some (endings.Peer fault)) = false
is_store (Some endings.Full) = false
is_store (Some endings.Store) = true

-- whether an end ended other than done
abbrev pub is_broken_off : Option End → Bool
is_broken_off None = false
is_broken_off (Some endings.Done) = false
is_broken_off (Some (endings.Peer fault)) = true
is_broken_off (Some endings.Full) = true
is_broken_off (Some endings.Store) = true

abbrev pub is_done : Option End → Bool
is_done None = false
is_done (Some endings.Done) = true
is_done (Some (endings.Peer fault)) = false
is_done (Some endings.Full) = false
is_done (Some endings.Store) = false

-- the update that a frame brings
abbrev pub met_in : ℕ → FrameData → List MetData
met_in event (Hello hello) = []
met_in event OtherVersion = []
met_in event (Item e) = record { event = event; update = e.bytes } ∷ []
met_in event (BadItem why) = []
met_in event (Turn turn) = []
met_in event (NoFrame place) = []

-- An end takes a frame by the rules of sessions, over what its replica holds. It ends by its store only where the store's disk counted a fault.
pub record TakesOne (old : ReplicaState) (s : SessionData) (frame : FrameData) (next : SessionData) (out : OutData) (new : ReplicaState) : Type 0 where
  pub step : Steps store_limits s (map entry_of old.history.members) frame next out (map entry_of new.history.members)
  pub keeps : KeepsOn old new
  pub store : out.end ≡ Some endings.Store → Rose old.log.faults new.log.faults

-- Where the session is done, the replica remembers heads of the other.
pub record RemembersOf (site : SiteData) (other : ℕ) (next : SessionData) (remembered : List (List UpdateId)) : Type 0 where
  pub ids : List UpdateId
  pub remembers : Remembers next ids
  pub is : remembered ≡ (if is_done next.ended then slice_set site.remembered other ids else site.remembered)

pub record CarriesIn (w : WorldData) (s : ℕ) (forward : Bool) (answer : Stepped) (w' : WorldData) : Type 0 where
  pub ends : TwoEnds
  pub there : session_at w s ≡ Some (Both ends)
  pub site : SiteData
  pub reads : site_at w (seen_from forward ends).first ≡ Some site
  pub frame : FrameData
  pub rest : List FrameData
  pub next_frame : (seen_from forward ends).to_a ≡ frame ∷ rest
  pub next : SessionData
  pub out : OutData
  pub store : ReplicaState
  pub takes : TakesOne site.store (seen_from forward ends).a.state frame next out store
  pub remembered : List (List UpdateId)
  pub remembers : RemembersOf site (seen_from forward ends).second next remembered
  pub done : answer ≡ stepped.Done
  pub is : w' ≡ ending (is_store next.ended) (seen_from forward ends).first (record site { store = store; remembered = remembered })
      (record w {
        sessions = slice_set w.sessions s (Some (Both (seen_from forward (record (seen_from forward ends) {
          a = record (seen_from forward ends).a { state = next };
          b = cut_if (is_broken_off next.ended) (seen_from forward ends).b;
          to_a = rest;
          to_b = (seen_from forward ends).to_b ++ frames_of out;
        }))));
        met = w.met ++ met_in w.event frame;
      })

-- an end takes frames one after another
pub data TakesAll (old : ReplicaState) (s : SessionData) : List FrameData → SessionData → ReplicaState → Type 0 where
  none : (next : SessionData) (new : ReplicaState) → next ≡ s → new ≡ old → TakesAll old s [] next new
  one_more : (frames : List FrameData) (frame : FrameData) (mid next : SessionData) (between new : ReplicaState) (out : OutData)
      → TakesAll old s frames mid between → TakesOne between mid frame next out new → TakesAll old s (frames ++ frame ∷ []) next new

abbrev pub all_met : ℕ → List FrameData → List MetData
all_met event [] = []
all_met event (frame ∷ frames) = met_in event frame ++ all_met event frames

-- Behind the frames that were heard stands one that says so where what is left is no frame.
abbrev pub HeardOf : List ℕ → ℕ → List FrameData → List FrameData → Type 0
HeardOf rest place arrived heard = (heard ≡ arrived × (IsBroken rest → ⊥)) ⊎ ((heard ≡ arrived ++ NoFrame place ∷ []) × IsBroken rest)

-- Bytes of a liar, behind those that came before, are heard as the frames that they complete, each update as the check of updates finds it.
pub record HearsFrames (rule : RuleData) (fed : FedData) (bytes : List ℕ) (fed' : FedData) (heard : List FrameData) : Type 0 where
  pub frames : List Frame
  pub arrived : List FrameData
  pub feeds : Feeds fed fed' bytes frames
  pub arrive : AllArrive rule frames arrived
  pub are : HeardOf fed'.rest fed'.place arrived heard

pub record FeedsIn (w : WorldData) (s : ℕ) (bytes : List ℕ) (answer : Stepped) (w' : WorldData) : Type 0 where
  pub one : OneEnd
  pub there : session_at w s ≡ Some (Liar one)
  pub site : SiteData
  pub reads : site_at w one.first ≡ Some site
  pub fed : FedData
  pub heard : List FrameData
  pub hears : HearsFrames site.store.history.schema.rule one.fed bytes fed heard
  pub next : SessionData
  pub store : ReplicaState
  pub takes : TakesAll site.store one.end.state heard next store
  pub done : answer ≡ stepped.Done
  pub is : w' ≡ ending (is_store next.ended) one.first (record site { store = store })
      (record w { sessions = slice_set w.sessions s (Some (Liar (record one { end = record one.end { state = next }; fed = fed }))); met = w.met ++ all_met w.event heard })

-- ---- Cut, Stop and Restart

pub record CutsIn (w : WorldData) (s : ℕ) (answer : Stepped) (w' : WorldData) : Type 0 where
  pub session : SessionOf
  pub there : session_at w s ≡ Some session
  pub done : answer ≡ stepped.Done
  pub is : w' ≡ record w { sessions = slice_set w.sessions s (Some (cut session)); event = w.event + 1 }

-- Which calls of its disks will fail is no part of this state.
pub record StopsIn (w : WorldData) (answer : Stepped) (w' : WorldData) : Type 0 where
  pub done : answer ≡ stepped.Done
  pub is : w' ≡ record w { event = w.event + 1 }

-- a disk that was begun with these bytes and had no call
abbrev pub fresh : List ℕ → DiskState
fresh bytes = record { tells = true; slot = None; seen = bytes; now = synced_at bytes; past = [] }

-- What a crash leaves of a disk by this number: one of its images, for 0 what was synced last, and for 1 what it reads as.
pub record IsLeftBy (choice : ℕ) (disk : DiskState) (image : List ℕ) : Type 0 where
  pub is_image : IsImage disk.now image
  pub synced : choice ≡ 0 → image ≡ disk.now.synced
  pub reads : choice ≡ 1 → image ≡ disk.seen

-- A replica opens what a crash leaves of its parts by this number.
pub record Restarts (ask : Meaning) (choice : ℕ) (old new : SiteData) : Type 0 where
  pub schema : List ℕ
  pub updates : List ℕ
  pub key : List ℕ
  pub used : List ℕ
  pub left_schema : IsLeftBy choice old.schema schema
  pub left_updates : IsLeftBy choice old.store.log.disk updates
  pub left_key : IsLeftBy choice old.key.parts.key key
  pub left_used : IsLeftBy choice old.key.parts.used used
  pub schema_is : new.schema ≡ fresh schema
  pub opened : IsOpened ask (fresh schema) (fresh updates) new.store
  pub any_moment : KeepsStore ask (fresh schema) (fresh updates) new.store.log.disk
  pub on_disk : EveryImage new.store.log.disk.now (BeginsWith (stream_of (held_by new)))
  pub opens_key : OpensKey (record { key = fresh key; key_faults = 0; used = fresh used; used_faults = 0 }) new.key
  pub up : new.is_down ≡ false
  pub remembered : new.remembered ≡ map (λ ids. []) old.remembered

abbrev pub met_by : ℕ → List (List ℕ) → List MetData
met_by event updates = map (λ u. record { event = event; update = u }) updates

pub record RestartsIn (ask : Meaning) (w : WorldData) (r choice : ℕ) (answer : Stepped) (w' : WorldData) : Type 0 where
  pub site : SiteData
  pub there : site_at w r ≡ Some site
  pub new : SiteData
  pub restarts : Restarts ask choice site new
  pub done : answer ≡ stepped.Done
  pub is : w' ≡ record w { sites = slice_set w.sites r new; sessions = map (cut_with r) w.sessions; met = w.met ++ met_by w.event (held_by new); event = w.event + 1 }

-- ---- one event, and one after another

abbrev pub HappensTo : Bool → Meaning → WorldData → Event → Stepped → WorldData → Type 0
HappensTo false ask w event answer w' = (answer ≡ stepped.NoSuch) × (w' ≡ w)
HappensTo true ask w (Make r ops) answer w' = MakesIn ask w r ops answer w'
HappensTo true ask w (Start s first second) answer w' = StartsIn w s first second answer w'
HappensTo true ask w (Carry s forward) answer w' = CarriesIn w s forward answer w'
HappensTo true ask w (Cut s) answer w' = CutsIn w s answer w'
HappensTo true ask w (Feed s bytes) answer w' = FeedsIn w s bytes answer w'
HappensTo true ask w (Stop r calls) answer w' = StopsIn w answer w'
HappensTo true ask w (Restart r choice) answer w' = RestartsIn ask w r choice answer w'

-- One event: it happens where it finds what it names, and else nothing changes.
abbrev pub Happens : Meaning → WorldData → Event → Stepped → WorldData → Type 0
Happens ask w event answer w' = HappensTo (finds w event) ask w event answer w'

-- one event after another
pub data Reaches (ask : Meaning) (first : WorldData) : WorldData → Type 0 where
  begins : (w : WorldData) → w ≡ first → Reaches ask first w
  goes : (w w' : WorldData) (event : Event) (answer : Stepped) → Reaches ask first w → Happens ask w event answer w' → Reaches ask first w'

-- ---- the beginning

-- A replica whose store and whose key were created over empty disks.
pub record IsNewSite (ask : Meaning) (schema : SchemaData) (site : SiteData) : Type 0 where
  pub schema_is : site.store.history.schema ≡ schema
  pub created : IsCreated ask (fresh []) (fresh []) site.store.node schema.text site.store site.schema
  pub schema_tells : IsTrue site.schema.tells
  pub size : length site.store.node ≡ 32
  pub short : length (site.store.node ++ schema.text) < 2 ^ 32
  pub log_tells : IsTrue site.store.log.disk.tells
  pub secret : SecretData
  pub key : CreatesKey secret (record { key = fresh []; key_faults = 0; used = fresh []; used_faults = 0 }) site.key
  pub used_tells : IsTrue site.key.parts.used.tells
  pub key_tells : IsTrue site.key.parts.key.tells
  pub key_settled : IsSettled site.key.parts.key
  pub key_holds : Holds site.key.parts.key.seen site.key.secret
  pub up : site.is_down ≡ false

-- A world in which nothing happened yet, of replicas of one schema.
pub record IsNew (ask : Meaning) (schema : SchemaData) (w : WorldData) : Type 0 where
  pub taken : TakesSchema ask schema.text schema
  pub some_sites : 1 ≤ length w.sites
  pub few_sites : length w.sites ≤ 16
  pub numbers : length w.sessions ≡ 256
  pub sites : (r : ℕ) (site : SiteData) → site_at w r ≡ Some site → IsNewSite ask schema site
  pub sessions : (s : ℕ) → session_at w s ≡ None
  pub signed : w.signed ≡ []
  pub met : w.met ≡ []

-- The world came about from a new one of this schema.
abbrev pub IsReached : Meaning → SchemaData → WorldData → Type 0
IsReached ask schema w = (first : WorldData) × IsNew ask schema first × Reaches ask first w
