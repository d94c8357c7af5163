-- What a session keeps, and how the code's values are seen by the rules.
use Rattle.std.specs.Prelude.{◌≡◌, ◌≤◌, ◌<◌, ℕ, ◌+◌, Bool, true, false, not, ◌&&◌, ◌||◌, if◌then◌else◌, List, [], ◌++◌, length, map, take, filter_map, slice_get, find, bytes_eq, All, Contains, Option, Some, None, option_map}
use Rattle.std.specs.VecDeque.{deque_items}
use Rattle.update_codec.specs.Parts.{entry_of}
use Rattle.update_check.specs.Signed.{IsChecked}
use Rattle.update_check.specs.declared.check_error.CheckFault.{CheckFault}
use Rattle.update_check.specs.declared.check_error.CheckFault.TheVariants as check_faults
use Rattle.update_model.specs.declared.update_id.UpdateId.{UpdateId}
use Rattle.update_model.specs.Batch.{Limits}
use Rattle.update_model.specs.Entry.{Entry}
use Rattle.update_model.specs.Graph.{has, holds, names}
use Rattle.update_model.specs.Rule.{RuleData}
use Rattle.session_rules.specs.declared.limits.TheConstants.{MAX_TURNS}
use Rattle.bloom_summary.specs.Bloom.{is_member}
use Rattle.std.specs.List.{list_all}
use Rattle.session_rules.specs.Burst.{IsBurst}
use Rattle.session_rules.specs.declared.role.Role.TheVariants.{Responder}
use Rattle.session_rules.specs.Course.{Continues}
use Rattle.session_rules.specs.declared.role.Role.{Role}
use Rattle.session_rules.specs.declared.end.End.{End}
use Rattle.session_rules.specs.declared.peer_fault.PeerFault.{PeerFault}
use Rattle.session_rules.specs.declared.peer_fault.PeerFault.TheVariants.{OutOfTurn, Stalled, TakenBack, WrongDatabase}
use Rattle.session_rules.specs.State.{Reading as ReadingData, HelloData, TurnData, FrameData, SessionData, OutData}
use Rattle.session_rules.specs.State as state
use Rattle.session_rules.specs.Steps.{begun, heads_in, is_wanted, AreNeeds, IsHello, after_item, again_fault, counted, due_fault, first_of, is_empty, silent, takes_hello, takes_turn, unknown_fault, Steps}
use Rattle.sync_frames.specs.Payload as payload
use Rattle.sync_session.specs.Pending.{PendingData, nothing}
use Rattle.sync_session.specs.Wants.{AreSought, SeeksToo, StaySought}
use Rattle.sync_session.specs.declared.checked_frame.CheckedFrame.{CheckedFrame}
use Rattle.sync_session.specs.declared.checked_frame.CheckedFrame.TheVariants as frames
use Rattle.sync_session.specs.declared.out.Out.{Out}
use Rattle.sync_session.specs.declared.reading.Reading.{Reading}
use Rattle.sync_session.specs.declared.reading.Reading.TheVariants.{Opening, Burst, Answers}

-- ---- values of the code

-- what may come next
abbrev pub reading_of : Reading → ReadingData
reading_of Opening = state.Opening
reading_of Burst = state.Burst
reading_of (Answers ids) = state.Answers (deque_items ids)

-- what a Hello says
abbrev pub hello_of : payload.HelloData → HelloData
hello_of hello = record { database = hello.database; node = hello.node; heads = hello.heads; old = hello.old; filter = hello.filter }

-- what a Turn says
abbrev pub turn_of : payload.TurnData → TurnData
turn_of turn = record { have = turn.have; needs = turn.needs }

-- the number of a fault of the check of updates
abbrev pub number_of : CheckFault → ℕ
number_of (check_faults.Codec fault) = 1
number_of check_faults.WrongDatabase = 2
number_of check_faults.AuthorNotListed = 3
number_of check_faults.BadSignature = 4

-- a frame as the rules see it
abbrev pub frame_of : CheckedFrame → FrameData
frame_of (frames.Hello hello) = state.Hello (hello_of hello)
frame_of (frames.OtherVersion version) = state.OtherVersion
frame_of (frames.Item update) = state.Item (entry_of update)
frame_of (frames.BadItem fault) = state.BadItem (number_of fault)
frame_of (frames.Turn turn) = state.Turn (turn_of turn)
frame_of (frames.BadFrame place) = state.NoFrame place

-- An Item is under the rule.
abbrev pub IsFrameUnder : RuleData → CheckedFrame → Type 0
IsFrameUnder rule (frames.Hello hello) = Unit {0}
IsFrameUnder rule (frames.OtherVersion version) = Unit {0}
IsFrameUnder rule (frames.Item update) = IsChecked rule update
IsFrameUnder rule (frames.BadItem fault) = Unit {0}
IsFrameUnder rule (frames.Turn turn) = Unit {0}
IsFrameUnder rule (frames.BadFrame place) = Unit {0}

-- what is handed out, by the holder's list
abbrev pub out_of : List Entry → Out → OutData
out_of list out = record { hello = option_map hello_of out.hello; send = filter_map (slice_get list) out.send; turn = option_map turn_of out.turn; end = out.end }

-- ---- the state of a session

-- The state but for the start set, which is the first `below` members of its holder's list, and for what was gathered and what
-- waits, which is pending; the heads of the own Hello; the ids among which is each one that is to be asked for; and whether
-- memory ran out in an earlier call, after which a session is over.
pub record Kept : Type 0 where
  pub state : SessionData
  pub below : ℕ
  pub pending : PendingData
  pub heads : List UpdateId
  pub sought : List UpdateId
  pub failed : Bool

-- the state with its start set, with what was gathered and with what waits
abbrev pub whole : List Entry → Kept → SessionData
whole start k = record k.state { start = start; gathered = map entry_of k.pending.gathered; waiting = map entry_of k.pending.waiting }

-- the state over its holder's list
abbrev pub seen : List (List ℕ) → Kept → SessionData
seen members k = whole (take k.below (map entry_of members)) k

-- the updates that its holder does not have
abbrev pub updates_in : Kept → List (List ℕ)
updates_in k = k.pending.waiting ++ k.pending.gathered

-- The list grows by some of these updates.
pub record GrowsBy (from before after : List (List ℕ)) : Type 0 where
  pub added : List (List ℕ)
  pub behind : after ≡ before ++ added
  pub of : All (Contains from) added

-- What a holder is left as: its list has grown by some of these updates, its count of faults has not fallen, and its limits
-- and its rule are what they were.
pub record Moves (from : List (List ℕ)) (limits : Limits) (rule : RuleData) (before : List (List ℕ)) (faults : ℕ) (limits_now : Limits) (rule_now : RuleData) (after : List (List ℕ)) (faults_now : ℕ) : Type 0 where
  pub grows : GrowsBy from before after
  pub later : faults ≤ faults_now
  pub same_limits : limits_now ≡ limits
  pub same_rule : rule_now ≡ rule

-- the session ended so
abbrev pub with_end : End → Kept → Kept
with_end ending k = record k { state = record k.state { ended = Some ending } }

-- one more Item was read, and this is gathered now
abbrev pub with_item : Kept → PendingData → Kept
with_item k pending = record k { state = record (counted k.state) { items = k.state.items + 1; reading = after_item k.state.reading }; pending = pending }

-- an end that has not ended has read fewer turns than a word counts
pub record IsRunning (k : Kept) : Type 0 where
  pub running : k.state.ended ≡ None
  pub turns : k.state.turns < MAX_TURNS

-- The session seeks each id that it is to ask for over this list.
abbrev pub Seeks : List Entry → Kept → Type 0
Seeks list k = AreSought (heads_in k.state.peer) list k.pending k.state.asked k.sought

-- So does one that has not ended.
abbrev pub IsSeeking : List Entry → Kept → Type 0
IsSeeking list k = k.state.ended ≡ None → Seeks list k

-- What the session wanted is sought still, unless this Turn asks for it.
abbrev pub LeavesSought : List Entry → TurnData → Kept → List UpdateId → Type 0
LeavesSought list own k sought = StaySought (is_wanted (heads_in k.state.peer) list (map entry_of k.pending.waiting) k.state.asked) own.needs sought

-- The session stands over this list: the first `below` members are its start set, of which it keeps the heads; what it has
-- gathered and what waits is under the rule; and it seeks what it is to ask for.
pub record Stands (rule : RuleData) (k : Kept) (members : List (List ℕ)) : Type 0 where
  pub below : k.below ≤ length members
  pub heads : (id : UpdateId) → has k.heads id ≡ (holds (take k.below (map entry_of members)) id && not (names (take k.below (map entry_of members)) id))
  pub under : All (IsChecked rule) (updates_in k)
  pub seeks : IsSeeking (map entry_of members) k

-- The session stands over this list, and is what the rules have made of it.
pub record Belongs (limits : Limits) (rule : RuleData) (k : Kept) (members : List (List ℕ)) : Type 0 where
  pub stands : Stands rule k members
  pub continues : Continues limits (seen members k) (map entry_of members)

-- A session whose memory ran out is over, and belongs anywhere.
abbrev pub BelongsTo : Limits → RuleData → Kept → List (List ℕ) → Type 0
BelongsTo limits rule k members = k.failed ≡ false → Belongs limits rule k members

-- the Hello of the peer came, and these ids are sought
abbrev pub with_hello : payload.HelloData → List UpdateId → Kept → Kept
with_hello hello sought k = record k { state = record (counted k.state) { peer = Some (hello_of hello); reading = state.Burst }; sought = sought }

-- the peer's Hello is kept
abbrev pub with_peer : payload.HelloData → Kept → Kept
with_peer hello k = record k { state = record k.state { peer = Some (hello_of hello) } }

-- the own Hello was made over so many members, the burst and the first Turn are sent, and these ids are sought
abbrev pub with_greeting : payload.HelloData → List UpdateId → ℕ → List UpdateId → Bool → Kept → Kept
with_greeting hello heads below sought have k = record k {
  state = record k.state { peer = Some (hello_of hello); reading = state.Burst; turns = k.state.turns + 2; sent_have = have };
  below = below;
  heads = heads;
  sought = sought;
}

-- The responder has sent its own Hello, with the burst and the first Turn for this one.
pub record GreetsOver (list : List Entry) (hello : payload.HelloData) (k next : Kept) (gives : Out) : Type 0 where
  pub own : payload.HelloData
  pub is_hello : IsHello (begun Responder k.state.database k.state.node k.state.old list) (hello_of own)
  pub send : List Entry
  pub is_burst : IsBurst list hello.old (is_member hello.filter) send
  pub state : next ≡ with_greeting hello own.heads next.below next.sought (list_all (holds list) hello.heads) k
  pub sought : SeeksToo k.sought hello.heads next.sought
  pub out : out_of list gives ≡ record { hello = Some (hello_of own); send = send; turn = Some (record { have = list_all (holds list) hello.heads; needs = [] }); end = None }

-- a commit added so many, and these wait
abbrev pub with_commit : ℕ → List (List ℕ) → Bool → Kept → Kept
with_commit added waiting have k = record k {
  state = record (counted k.state) { gained = k.state.gained + added; got_have = have };
  pending = record { waiting = waiting; gathered = [] };
}

-- nothing is gathered and nothing waits
abbrev pub emptied : Kept → Kept
emptied k = record k { pending = nothing }

-- a commit was refused
abbrev pub with_refusal : End → Kept → Kept
with_refusal ending k = record k { state = record (counted k.state) { ended = Some ending }; pending = nothing }

-- The Turn of an end that is to have these heads, and that asked for these ids before.
pub record TurnsFor (heads : List UpdateId) (held waiting : List Entry) (asked : List UpdateId) (own : TurnData) : Type 0 where
  pub have : own.have ≡ list_all (holds held) heads
  pub needs : AreNeeds own.have (is_wanted heads held waiting asked) own.needs

-- the fault that a Hello shows
abbrev pub hello_fault_at : List ℕ → ReadingData → List ℕ → Option PeerFault
hello_fault_at own reading database = if bytes_eq database own then (if takes_hello reading then None else Some OutOfTurn) else Some WrongDatabase

-- the fault that a Turn shows after its commit
abbrev pub late_fault_at : Bool → List Entry → List UpdateId → TurnData → TurnData → Option PeerFault
late_fault_at first start peer_asked turn own =
    if (not first && (not turn.have && is_empty turn.needs)) || (not own.have && is_empty own.needs)
    then Some Stalled
    else first_of (unknown_fault (find (λ id. not (holds start id)) turn.needs)) (again_fault (find (has peer_asked) turn.needs))

-- the fault that a Turn shows before its commit
abbrev pub turn_fault_at : Role → ReadingData → Bool → TurnData → Option PeerFault
turn_fault_at role reading got_have turn =
    if takes_turn role reading turn.needs
    then first_of (due_fault reading) (if got_have && not turn.have then Some TakenBack else None)
    else Some OutOfTurn

-- A frame that comes to a session that is over changes nothing. To any other it does what the rules say.
abbrev pub StepsBy : Bool → Limits → Kept → List (List ℕ) → CheckedFrame → Kept → Out → List (List ℕ) → Type 0
StepsBy true limits k before frame next out after = (next ≡ k) × (out_of (map entry_of after) out ≡ silent) × (after ≡ before)
StepsBy false limits k before frame next out after =
    Steps limits (seen before k) (map entry_of before) (frame_of frame) (seen after next) (out_of (map entry_of after) out) (map entry_of after)

-- one frame to a session
abbrev pub StepsTo : Limits → Kept → List (List ℕ) → CheckedFrame → Kept → Out → List (List ℕ) → Type 0
StepsTo limits k before frame next out after = StepsBy k.failed limits k before frame next out after × (next.failed ≡ k.failed)
