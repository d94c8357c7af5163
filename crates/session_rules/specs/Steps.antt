-- What one frame does to one end of a session.
--
-- Turn 0 is the initiator's Hello. Turn 1 is the responder's Hello, its burst, and a Turn without needs. Turn 2 is the
-- initiator's burst and a Turn. Every later turn is the updates that the other end's last Turn asked for, in that order, and
-- a Turn.
use Rattle.std.specs.Prelude.{◌≡◌, ℕ, ◌+◌, Bool, true, false, not, ◌&&◌, ◌||◌, cond, if◌then◌else◌, List, [], ◌∷◌, ◌++◌, length, map, find, filter_map, take, Option, None, Some, nat_lt, bytes_eq}
use Rattle.std.specs.List.{list_all}
use Rattle.std.specs.List.Sorted.{IsStrictlySortedBy}
use Rattle.update_model.specs.declared.update_id.UpdateId.{UpdateId}
use Rattle.update_model.specs.Entry.{Entry, same_id, id_cmp}
use Rattle.update_model.specs.Graph.{has, holds, names, is_within, AreHeads}
use Rattle.session_rules.specs.declared.limits.TheConstants.{MAX_ITEMS, MAX_NEEDS}
use Rattle.bloom_summary.specs.Bloom.{AreBits, is_member}
use Rattle.update_model.specs.Since.{AreSince}
use Rattle.session_rules.specs.Burst.{IsBurst}
use Rattle.update_model.specs.Batch.{Limits}
use Rattle.session_rules.specs.Commit.{Committed, Added, TooMuch, DiskFault, Commits}
use Rattle.session_rules.specs.State.{Role, Initiator, Responder, HelloData, TurnData, FrameData, Hello, OtherVersion, Item, BadItem, Turn, NoFrame, PeerFault, BadFrame, WrongDatabase, BadUpdate, Unanswered, AskedUnknown, AskedAgain, Stalled, TakenBack, OutOfTurn, Version, End, Done, Peer, Full, Store, Reading, Opening, Burst, Answers, SessionData, OutData}

-- ---- small words

-- whether there is none
abbrev pub is_empty : {X : Type 0} → List X → Bool
is_empty [] = true
is_empty (x ∷ xs) = false

-- The Hello of an end has its database, its node, the heads of its start set, the heads that it remembers of the other, and
-- a summary of the members since those.
pub record IsHello (s : SessionData) (hello : HelloData) : Type 0 where
  pub database : hello.database ≡ s.database
  pub node : hello.node ≡ s.node
  pub heads : AreHeads s.start hello.heads
  pub old : hello.old ≡ s.old
  pub since : List Entry
  pub are_since : AreSince s.start s.old since
  pub filter : AreBits (map (λ e. e.id) since) hello.filter

-- the heads of the peer's Hello
abbrev pub heads_in : Option HelloData → List UpdateId
heads_in None = []
heads_in (Some hello) = hello.heads

-- an end before its first frame: an initiator has made its Hello
abbrev pub begun : Role → List ℕ → List ℕ → List UpdateId → List Entry → SessionData
begun role database node old start = record {
  role = role;
  database = database;
  node = node;
  old = old;
  start = start;
  peer = None;
  reading = Opening;
  began = false;
  items = 0;
  gathered = [];
  waiting = [];
  asked = [];
  peer_asked = [];
  sent_have = false;
  got_have = false;
  turns = 0;
  gained = 0;
  ended = None;
}

abbrev pub silent : OutData
silent = record { hello = None; send = []; turn = None; end = None }

abbrev pub closing : End → OutData
closing ending = record { hello = None; send = []; turn = None; end = Some ending }

-- A frame of the turn that is read has come. `turns` counts the turns of which the end has sent or taken a frame. A frame that
-- ends the session before any commit is not counted.
abbrev pub counted : SessionData → SessionData
counted s = record s { began = true; turns = s.turns + cond s.began 0 1 }

-- whether the Turn that comes is the responder's first, which is turn 1
abbrev pub is_first : Role → Reading → Bool
is_first Initiator Burst = true
is_first Initiator Opening = false
is_first Initiator (Answers ids) = false
is_first Responder reading = false

-- ---- faults. The first that applies ends the session: at a Hello another version, another database, out of turn; at an Item
-- out of turn, a bad update, another update than the one that is due; at a Turn out of turn, an update that is still due, a
-- `have` that is taken back, then what its commit answers, and then no progress, an unknown need, a need that came before

-- Whether an Item may come: not before the Hello, no more than were asked for, and no more than a turn has.
abbrev pub takes_item : Reading → ℕ → Bool
takes_item Opening items = false
takes_item Burst items = nat_lt items MAX_ITEMS
takes_item (Answers []) items = false
takes_item (Answers (id ∷ ids)) items = nat_lt items MAX_ITEMS

-- another update than the one that has to come
abbrev pub answer_fault : Reading → UpdateId → Option PeerFault
answer_fault Opening id = None
answer_fault Burst id = None
answer_fault (Answers []) id = None
answer_fault (Answers (due ∷ ids)) id = if same_id due id then None else Some (Unanswered due)

-- the fault of an Item that the check of updates lets pass
abbrev pub item_fault : SessionData → Entry → Option PeerFault
item_fault s e = if takes_item s.reading s.items then answer_fault s.reading e.id else Some OutOfTurn

-- the fault of one that it refuses
abbrev pub bad_item_fault : SessionData → ℕ → PeerFault
bad_item_fault s why = if takes_item s.reading s.items then BadUpdate why else OutOfTurn

-- whether a Hello may come: it is the first frame, and the only one
abbrev pub takes_hello : Reading → Bool
takes_hello Opening = true
takes_hello Burst = false
takes_hello (Answers ids) = false

-- another database comes before out of turn
abbrev pub hello_fault : SessionData → HelloData → Option PeerFault
hello_fault s hello = if bytes_eq hello.database s.database then (if takes_hello s.reading then None else Some OutOfTurn) else Some WrongDatabase

-- Whether a Turn with these needs may come. Turn 1 has none.
abbrev pub takes_turn : Role → Reading → List UpdateId → Bool
takes_turn role Opening needs = false
takes_turn Initiator Burst needs = is_empty needs
takes_turn Responder Burst needs = true
takes_turn role (Answers ids) needs = true

-- an update that still has to come
abbrev pub due_fault : Reading → Option PeerFault
due_fault Opening = None
due_fault Burst = None
due_fault (Answers []) = None
due_fault (Answers (due ∷ ids)) = Some (Unanswered due)

-- the first fault, or else the other
abbrev pub first_of : Option PeerFault → Option PeerFault → Option PeerFault
first_of None other = other
first_of (Some fault) other = Some fault

-- What a Turn shows before its commit. Once the other end said that it has all, it says so in every Turn.
abbrev pub turn_fault : SessionData → TurnData → Option PeerFault
turn_fault s turn =
    if takes_turn s.role s.reading turn.needs
    then first_of (due_fault s.reading) (if s.got_have && not turn.have then Some TakenBack else None)
    else Some OutOfTurn

-- the fault of a need that is not in the start set, where there is one
abbrev pub unknown_fault : Option UpdateId → Option PeerFault
unknown_fault None = None
unknown_fault (Some id) = Some (AskedUnknown id)

-- the fault of a need that came before, where there is one
abbrev pub again_fault : Option UpdateId → Option PeerFault
again_fault None = None
again_fault (Some id) = Some (AskedAgain id)

-- What a Turn shows after its commit, where this end then has this Turn to send. A Turn other than turn 1 says that all is
-- held or asks for something; and an end that lacks a head of the other's has something to ask for. Only members of the start
-- set are asked for, and each once. Needs rise, so the first one found is the least.
abbrev pub late_fault : SessionData → TurnData → TurnData → Option PeerFault
late_fault s turn own =
    if (not (is_first s.role s.reading) && (not turn.have && is_empty turn.needs)) || (not own.have && is_empty own.needs)
    then Some Stalled
    else first_of (unknown_fault (find (λ id. not (holds s.start id)) turn.needs)) (again_fault (find (has s.peer_asked) turn.needs))

-- ---- the Turn of an end

-- a head of the peer's Hello, or a predecessor of what waits, that is neither held nor waiting and was not asked for
abbrev pub is_wanted : List UpdateId → List Entry → List Entry → List UpdateId → UpdateId → Bool
is_wanted heads now waiting asked id = (has heads id || names waiting id) && (not (holds now id) && (not (holds waiting id) && not (has asked id)))

-- the least n ids that pass a test, rising
pub record AreLeast (test : UpdateId → Bool) (n : ℕ) (ids : List UpdateId) : Type 0 where
  pub all : List UpdateId
  pub rising : IsStrictlySortedBy id_cmp all
  pub exact : (id : UpdateId) → has all id ≡ test id
  pub front : ids ≡ take n all

-- Where all heads are held nothing is asked for, and else the least ids that pass the test, as many as a turn asks for.
abbrev pub AreNeeds : Bool → (UpdateId → Bool) → List UpdateId → Type 0
AreNeeds true test needs = needs ≡ []
AreNeeds false test needs = AreLeast test MAX_NEEDS needs

-- The Turn of an end that holds this list, while this waits. `have` says that every head of the other's Hello is held now.
pub record IsTurn (s : SessionData) (now waiting : List Entry) (own : TurnData) : Type 0 where
  pub have : own.have ≡ list_all (holds now) (heads_in s.peer)
  pub needs : AreNeeds own.have (is_wanted (heads_in s.peer) now waiting s.asked) own.needs

-- the members of the start set with these ids, in this order
abbrev pub answers : List Entry → List UpdateId → List Entry
answers start needs = filter_map (λ id. find (λ e. same_id id e.id) start) needs

-- The burst for this Hello; before a Hello there is none.
abbrev pub IsBurstFor : List Entry → Option HelloData → List Entry → Type 0
IsBurstFor start None send = send ≡ []
IsBurstFor start (Some hello) send = IsBurst start hello.old (is_member hello.filter) send

-- what a turn begins with: after turn 1 the burst for the other's Hello, and after a later turn the answers
abbrev pub IsSent : Bool → SessionData → TurnData → List Entry → Type 0
IsSent true s turn send = IsBurstFor s.start s.peer send
IsSent false s turn send = send ≡ answers s.start turn.needs

-- ---- the cases of a step. Each leads from an end and its holder's list to the same afterwards, and hands something out

-- The session ends, and the holder is not touched.
abbrev pub Ends : SessionData → List Entry → End → SessionData → OutData → List Entry → Type 0
Ends s before ending next out after = (next ≡ record s { ended = Some ending }) × (out ≡ closing ending) × (after ≡ before)

-- A Hello in its place. The initiator keeps it, and reads on. The responder makes its own Hello now, from the list that its
-- holder has now, which is its start set, and sends it with its burst and a Turn without needs.
abbrev pub Greets : Role → SessionData → List Entry → HelloData → SessionData → OutData → List Entry → Type 0
Greets Initiator s before hello next out after =
    (next ≡ record (counted s) { peer = Some hello; reading = Burst }) × (out ≡ silent) × (after ≡ before)
Greets Responder s before hello next out after =
    (own : HelloData) × (send : List Entry) × IsHello (record s { start = before }) own × IsBurst before hello.old (is_member hello.filter) send
    × (let have = list_all (holds before) hello.heads in
    (next ≡ record s { start = before; peer = Some hello; reading = Burst; turns = s.turns + 2; sent_have = have })
    × (out ≡ record { hello = Some own; send = send; turn = Some (record { have = have; needs = [] }); end = None }))
    × (after ≡ before)

-- whether updates of the other's burst may come
abbrev pub in_burst : Reading → Bool
in_burst Opening = false
in_burst Burst = true
in_burst (Answers ids) = false

-- Updates are gathered, and the holder is not touched. One that repeats a gathered or waiting one inside a burst is passed over.
abbrev pub gathers : SessionData → Entry → List Entry
gathers s e = if in_burst s.reading && (holds s.gathered e.id || holds s.waiting e.id) then s.gathered else s.gathered ++ e ∷ []

-- an update that was asked for is no longer due
abbrev pub after_item : Reading → Reading
after_item Opening = Opening
after_item Burst = Burst
after_item (Answers []) = Answers []
after_item (Answers (id ∷ ids)) = Answers ids

-- An update in its place is gathered, unless what is gathered and what waits would pass a limit then.
abbrev pub Gathers : Bool → SessionData → List Entry → Entry → SessionData → OutData → List Entry → Type 0
Gathers true s before e next out after =
    (next ≡ record (counted s) { items = s.items + 1; reading = after_item s.reading; gathered = gathers s e }) × (out ≡ silent) × (after ≡ before)
Gathers false s before e next out after = Ends s before Full next out after

-- The end once its commit added these, and these wait.
abbrev pub committed : SessionData → TurnData → List Entry → List Entry → SessionData
committed s turn added waiting = record (counted s) {
  gathered = [];
  waiting = waiting;
  gained = s.gained + length added;
  got_have = turn.have;
}

-- The end whose commit was refused. The batch is given up.
abbrev pub refused : SessionData → End → SessionData
refused s ending = record (counted s) { gathered = []; waiting = []; ended = Some ending }

-- the rising list of what is in the one or the other
pub record Joins (old new both : List UpdateId) : Type 0 where
  pub rising : IsStrictlySortedBy id_cmp both
  pub exact : (id : UpdateId) → has both id ≡ (has old id || has new id)

-- The end once its own Turn is sent. Then these were asked for, by this end and by the other. An end is done at the moment
-- when it has both sent and received a Turn with `have`.
abbrev pub replied : SessionData → TurnData → TurnData → List UpdateId → List UpdateId → SessionData
replied s turn own asked peer_asked = record s {
  reading = Answers own.needs;
  began = false;
  items = 0;
  turns = s.turns + 1;
  sent_have = own.have;
  asked = asked;
  peer_asked = peer_asked;
  ended = if own.have && turn.have then Some Done else None;
}

-- A Turn without a fault: where this end had said before that it has all, and the Turn says so too, the session is done. Else
-- this end sends the next turn. `first` tells whether that one begins with the burst.
abbrev pub Replies : Bool → Bool → SessionData → TurnData → TurnData → SessionData → OutData → Type 0
Replies true first s turn own next out = (next ≡ record s { ended = Some Done }) × (out ≡ closing Done)
Replies false first s turn own next out = (send : List Entry) × (asked : List UpdateId) × (peer_asked : List UpdateId) × IsSent first s turn send
    × Joins s.asked own.needs asked × Joins s.peer_asked turn.needs peer_asked
    × (out ≡ record { hello = None; send = send; turn = Some own; end = if own.have && turn.have then Some Done else None })
    × (next ≡ replied s turn own asked peer_asked)

-- after the commit, by the fault that the Turn shows then
abbrev pub Judges : Option PeerFault → SessionData → SessionData → TurnData → TurnData → SessionData → OutData → Type 0
Judges (Some fault) old s turn own next out = (next ≡ record s { ended = Some (Peer fault) }) × (out ≡ closing (Peer fault))
Judges None old s turn own next out = Replies (old.sent_have && turn.have) (is_first old.role old.reading) s turn own next out

-- what a Turn leads to, by the answer of its commit
abbrev pub Concludes : Committed → SessionData → TurnData → List Entry → SessionData → OutData → Type 0
Concludes (Added added waiting) s turn after next out =
    (own : TurnData) × IsTurn s after waiting own × Judges (late_fault s turn own) s (committed s turn added waiting) turn own next out
Concludes TooMuch s turn after next out = (next ≡ refused s Full) × (out ≡ closing Full)
Concludes DiskFault s turn after next out = (next ≡ refused s Store) × (out ≡ closing Store)

-- A Turn in its place: what waited and what was gathered is committed as one batch. What the commit does not add waits.
abbrev pub Settles : Limits → SessionData → List Entry → TurnData → SessionData → OutData → List Entry → Type 0
Settles limits s before turn next out after =
    (answer : Committed) × Commits limits before (s.waiting ++ s.gathered) answer after × Concludes answer s turn after next out

-- Where there is a fault the session ends by it, and else it goes on.
abbrev pub Unless : Option PeerFault → SessionData → List Entry → SessionData → OutData → List Entry → Type 0 → Type 0
Unless (Some fault) s before next out after goes_on = Ends s before (Peer fault) next out after
Unless None s before next out after goes_on = goes_on

-- one frame to an end that has not ended
abbrev pub Takes : Limits → SessionData → List Entry → FrameData → SessionData → OutData → List Entry → Type 0
Takes limits s before (Hello hello) next out after = Unless (hello_fault s hello) s before next out after (Greets s.role s before hello next out after)
Takes limits s before OtherVersion next out after = Ends s before (Peer Version) next out after
Takes limits s before (Item e) next out after = Unless (item_fault s e) s before next out after
    (Gathers (is_within (s.waiting ++ gathers s e)) s before e next out after)
Takes limits s before (BadItem why) next out after = Ends s before (Peer (bad_item_fault s why)) next out after
Takes limits s before (Turn turn) next out after = Unless (turn_fault s turn) s before next out after (Settles limits s before turn next out after)
Takes limits s before (NoFrame place) next out after = Ends s before (Peer (BadFrame place)) next out after

-- After an end nothing is answered, and the holder is not touched.
abbrev pub StepsBy : Option End → Limits → SessionData → List Entry → FrameData → SessionData → OutData → List Entry → Type 0
StepsBy (Some ending) limits s before frame next out after = (next ≡ s) × (out ≡ silent) × (after ≡ before)
StepsBy None limits s before frame next out after = Takes limits s before frame next out after

-- one frame to an end
abbrev pub Steps : Limits → SessionData → List Entry → FrameData → SessionData → OutData → List Entry → Type 0
Steps limits s before frame next out after = StepsBy s.ended limits s before frame next out after
