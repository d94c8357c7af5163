-- Two ends between whose holders the frames are carried in memory, each holder under a rule of its own.
use Rattle.std.specs.Prelude.{◌≡◌, ◌≢◌, ◌⊎◌, ◌≤◌, ◌&&◌, ℕ, true, false, max, if◌then◌else◌, List, [], ◌∷◌, ◌++◌, length, map, Option, None, Some, option_map}
use Rattle.update_check.specs.Causes.{IsCause}
use Rattle.update_check.specs.Signed.{IsChecked}
use Rattle.update_check.specs.declared.check_error.CheckFault.{CheckFault}
use Rattle.update_codec.specs.Parts.{entry_of}
use Rattle.update_model.specs.Batch.{Limits, fits}
use Rattle.update_model.specs.Entry.{Entry}
use Rattle.update_model.specs.Graph.{HaveSameMembers}
use Rattle.update_model.specs.Rule.{RuleData}
use Rattle.session_rules.specs.Course.{Remembers, opened}
use Rattle.session_rules.specs.Pair.{PairData, bound, frames_of, hello_frames, missing, swapped}
use Rattle.session_rules.specs.declared.role.Role.TheVariants.{Initiator, Responder}
use Rattle.session_rules.specs.declared.end.End.{End}
use Rattle.session_rules.specs.declared.end.End.TheVariants.{Done, Peer, Full, Store}
use Rattle.session_rules.specs.State.{HelloData, FrameData, Hello, OtherVersion, Item, BadItem, Turn, NoFrame, TurnData, SessionData, OutData}
use Rattle.session_rules.specs.Steps.{IsHello, closing, silent, Steps}
use Rattle.sync_session.specs.Kept.{number_of, out_of, seen, updates_in, Belongs, GrowsBy, Kept}
use Rattle.sync_session.specs.Starts.{RemembersBy}
use Rattle.sync_session.specs.declared.out.Out.{Out}
use Rattle.bec_bytes.specs.Causes.{Rose}
use Rattle.update_model.specs.declared.limits.TheConstants.{MAX_MEMBERS}
use Rattle.sync_session.specs.declared.pair.PairStart.{PairStart}
use Rattle.sync_session.specs.declared.pair.PairEnd.{PairEnd}

-- How a frame arrives at an end of this rule. An update that is refused there arrives as a bad Item with the number of its
-- fault, and any other frame as it was sent.
abbrev pub Arrives : RuleData → FrameData → FrameData → Type 0
Arrives rule (Item e) arrived = ((arrived ≡ Item e) × IsChecked rule e.bytes) ⊎ ((fault : CheckFault) × (arrived ≡ BadItem (number_of fault)) × IsCause rule e.bytes fault)
Arrives rule (Hello hello) arrived = arrived ≡ Hello hello
Arrives rule OtherVersion arrived = arrived ≡ OtherVersion
Arrives rule (BadItem why) arrived = arrived ≡ BadItem why
Arrives rule (Turn turn) arrived = arrived ≡ Turn turn
Arrives rule (NoFrame place) arrived = arrived ≡ NoFrame place

-- The end runs, or is done.
abbrev pub IsGoing : SessionData → Type 0
IsGoing s = (s.ended ≡ None) ⊎ (s.ended ≡ Some Done)

-- The next frame to the first end, whose holder has this rule, is handed to it. That end runs, the other one runs or is done,
-- and nothing is on its way to that one.
pub record Hands (limits : Limits) (rule : RuleData) (p q : PairData) : Type 0 where
  pub running : p.a.ended ≡ None
  pub other : IsGoing p.b
  pub alone : p.to_b ≡ []
  pub frame : FrameData
  pub rest : List FrameData
  pub arrived : FrameData
  pub next : SessionData
  pub out : OutData
  pub after : List Entry
  pub first : p.to_a ≡ frame ∷ rest
  pub arrives : Arrives rule frame arrived
  pub step : Steps limits p.a p.list_a arrived next out after
  pub is : q ≡ record { a = next; list_a = after; b = p.b; list_b = p.list_b; to_a = rest; to_b = p.to_b ++ frames_of out }

-- frames are handed to either end, one after another
pub data HandsOn (limits_a limits_b : Limits) (rule_a rule_b : RuleData) (p : PairData) : PairData → Type 0 where
  at_first : (q : PairData) → q ≡ p → HandsOn limits_a limits_b rule_a rule_b p q
  then_a : (q r : PairData) → HandsOn limits_a limits_b rule_a rule_b p q → Hands limits_a rule_a q r → HandsOn limits_a limits_b rule_a rule_b p r
  then_b : (q r : PairData) → HandsOn limits_a limits_b rule_a rule_b p q → Hands limits_b rule_b (swapped q) (swapped r) → HandsOn limits_a limits_b rule_a rule_b p r

-- what two ends begin with, which they keep
abbrev pub start_of : Kept → Kept → PairStart
start_of a b = record {
  database_a = a.state.database;
  database_b = b.state.database;
  node_a = a.state.node;
  node_b = b.state.node;
  old_a = a.state.old;
  old_b = b.state.old;
}

-- Two ends as they begin over their holders' lists: the first has made its Hello, which is on its way.
pub record Begins (start : PairStart) (list_a list_b : List Entry) (p : PairData) : Type 0 where
  pub hello : HelloData
  pub is_hello : IsHello (opened Initiator start.database_a start.node_a start.old_a list_a) hello
  pub is : p ≡ record {
    a = opened Initiator start.database_a start.node_a start.old_a list_a;
    list_a = list_a;
    b = opened Responder start.database_b start.node_b start.old_b list_b;
    list_b = list_b;
    to_a = [];
    to_b = Hello hello ∷ [];
  }

-- Both ends are done; or one of them ended otherwise, and with it the session of both.
abbrev pub EndsBy : End → PairData → Type 0
EndsBy Done p = (p.a.ended ≡ Some Done) × (p.b.ended ≡ Some Done)
EndsBy (Peer fault) p = (p.a.ended ≡ Some (Peer fault)) ⊎ (p.b.ended ≡ Some (Peer fault))
EndsBy Full p = (p.a.ended ≡ Some Full) ⊎ (p.b.ended ≡ Some Full)
EndsBy Store p = (p.a.ended ≡ Some Store) ⊎ (p.b.ended ≡ Some Store)

-- What syncing two holders answers and leaves: two ends begin over the lists before, frames are handed to either until the
-- session has ended, and the lists after are those of the two ends then.
pub record Syncs (limits_a limits_b : Limits) (rule_a rule_b : RuleData) (start : PairStart) (before_a before_b : List (List ℕ)) (ended : PairEnd) (after_a after_b : List (List ℕ)) : Type 0 where
  pub first : PairData
  pub last : PairData
  pub begins : Begins start (map entry_of before_a) (map entry_of before_b) first
  pub run : HandsOn limits_a limits_b rule_a rule_b first last
  pub list_a : last.list_a ≡ map entry_of after_a
  pub list_b : last.list_b ≡ map entry_of after_b
  pub ends : EndsBy ended.a last
  pub both : ended.b ≡ ended.a
  pub gained_a : ended.gained_a ≡ last.a.gained
  pub gained_b : ended.gained_b ≡ last.b.gained
  pub turns : ended.turns ≡ max last.a.turns last.b.turns
  pub remembered_a : Remembers last.a ended.remembered_a
  pub remembered_b : Remembers last.b ended.remembered_b

-- What an end's holder has and what it lacks of the other's are together within its limits.
abbrev pub HasRoom : Limits → List (List ℕ) → List (List ℕ) → Type 0
HasRoom limits own other = fits limits (map entry_of own ++ missing (map entry_of own) (map entry_of other)) ≡ true

-- Both ends are done, within the bound on turns; both lists are the union of what both were, and each end has counted what
-- it lacked.
pub record Unites (before_a before_b : List (List ℕ)) (ended : PairEnd) (after_a after_b : List (List ℕ)) : Type 0 where
  pub done_a : ended.a ≡ Done
  pub done_b : ended.b ≡ Done
  pub turns : ended.turns ≤ bound (length (missing (map entry_of before_a) (map entry_of before_b))) (length (missing (map entry_of before_b) (map entry_of before_a)))
  pub list_a : HaveSameMembers (map entry_of after_a) (map entry_of before_a ++ map entry_of before_b)
  pub list_b : HaveSameMembers (map entry_of after_b) (map entry_of before_a ++ map entry_of before_b)
  pub gained_a : ended.gained_a ≡ length (missing (map entry_of before_a) (map entry_of before_b))
  pub gained_b : ended.gained_b ≡ length (missing (map entry_of before_b) (map entry_of before_a))

-- ---- how the code goes

-- An end is handed a frame, where there is one.
abbrev pub IsHanded : Limits → RuleData → SessionData → List Entry → Option FrameData → SessionData → OutData → List Entry → Type 0
IsHanded limits rule s before None next out after = (next ≡ s) × (out ≡ silent) × (after ≡ before)
IsHanded limits rule s before (Some frame) next out after = (arrived : FrameData) × Arrives rule frame arrived × Steps limits s before arrived next out after

-- An end is handed frames, and answers nothing to any of them. Its list stays.
abbrev pub Hears : Limits → RuleData → SessionData → List Entry → List FrameData → SessionData → Type 0
Hears limits rule s list [] t = t ≡ s
Hears limits rule s list (frame ∷ frames) t = (arrived : FrameData) × (u : SessionData) × Arrives rule frame arrived × Steps limits s list arrived u silent list × Hears limits rule u list frames t

-- An end has ended otherwise than done.
pub record Stops (ending : End) (next : SessionData) (out : OutData) : Type 0 where
  pub says : out ≡ closing ending
  pub ended : next.ended ≡ Some ending
  pub undone : ending ≢ Done

-- An end is handed updates: all of them, to none of which it answers anything; or up to the one at which it ends.
pub data AreHanded (limits : Limits) (rule : RuleData) (s : SessionData) (list send : List Entry) (next : SessionData) (out : OutData) : Type 0 where
  all_heard : out ≡ silent → Hears limits rule s list (map Item send) next → AreHanded limits rule s list send next out
  one_ends : (first rest : List Entry) (e : Entry) (t : SessionData) (ending : End) → send ≡ first ++ e ∷ rest → Hears limits rule s list (map Item first) t
      → IsHanded limits rule t list (Some (Item e)) next out list → Stops ending next out → AreHanded limits rule s list send next out

-- An end is handed what the other handed out: up to the Turn, which it answers; or up to an earlier frame, at which it ends.
pub data IsCarried (limits : Limits) (rule : RuleData) (s : SessionData) (before : List Entry) (sent : OutData) (next : SessionData) (answer : OutData) (after : List Entry) : Type 0 where
  to_turn : (t : SessionData) → Hears limits rule s before (hello_frames sent.hello ++ map Item sent.send) t → IsHanded limits rule t before (option_map Turn sent.turn) next answer after
      → IsCarried limits rule s before sent next answer after
  to_end : (first rest : List FrameData) (frame : FrameData) (t : SessionData) (ending : End) → frames_of sent ≡ first ++ frame ∷ rest → Hears limits rule s before first t
      → IsHanded limits rule t before (Some frame) next answer after → Stops ending next answer → IsCarried limits rule s before sent next answer after

-- what is handed out before the Turn
abbrev pub before_turn : Option HelloData → List Entry → OutData
before_turn hello send = record { hello = hello; send = send; turn = None; end = None }

-- What one end handed out is on its way to the other, which runs.
pub record IsOnItsWay (to from : SessionData) (sent : OutData) : Type 0 where
  pub turn : TurnData
  pub is_turn : sent.turn ≡ Some turn
  pub hello : (sent.hello ≡ None) ⊎ (to.role ≡ Initiator)
  pub running : to.ended ≡ None
  pub sent_have : from.sent_have ≡ turn.have
  pub got_have : from.got_have ≡ to.sent_have
  pub ended : from.ended ≡ (if from.sent_have && from.got_have then Some Done else None)

-- the pair of these ends, while frames are on the way to the first
abbrev pub facing : SessionData → List Entry → SessionData → List Entry → List FrameData → PairData
facing a list_a b list_b to_a = record { a = a; list_a = list_a; b = b; list_b = list_b; to_a = to_a; to_b = [] }

-- Where two ends have got to once the second has answered: its turn is on its way to the first, or the session has ended.
pub data HasGot (limits_a limits_b : Limits) (rule_a rule_b : RuleData) (first : PairData) (a : SessionData) (list_a : List Entry) (b : SessionData) (list_b : List Entry) (out : OutData) : Type 0 where
  on : IsOnItsWay a b out → HandsOn limits_a limits_b rule_a rule_b first (facing a list_a b list_b (frames_of out)) → HasGot limits_a limits_b rule_a rule_b first a list_a b list_b out
  over : (q : PairData) (ending : End) → out.turn ≡ None → out.end ≡ Some ending → HandsOn limits_a limits_b rule_a rule_b first q → q.a ≡ a → q.list_a ≡ list_a → q.b ≡ b → q.list_b ≡ list_b
      → EndsBy ending q → HasGot limits_a limits_b rule_a rule_b first a list_a b list_b out

-- A session that is not over for want of memory belongs to its holder's list.
pub record IsWell (limits : Limits) (rule : RuleData) (k : Kept) (members : List (List ℕ)) : Type 0 where
  pub fine : k.failed ≡ false
  pub belongs : Belongs limits rule k members

-- the updates that an end may gain as the other one's are carried to it: what it has gathered, and what either list has
abbrev pub at_hand : Kept → List (List ℕ) → List (List ℕ) → List (List ℕ)
at_hand k from to = updates_in k ++ (from ++ to)

-- What rounds have made of two ends so far.
pub record Going (start : PairStart) (limits_a limits_b : Limits) (rule_a rule_b : RuleData) (before_a before_b : List (List ℕ)) (faults_a faults_b : ℕ)
    (k_a : Kept) (now_a : List (List ℕ)) (limits_now_a : Limits) (rule_now_a : RuleData) (faults_now_a : ℕ)
    (k_b : Kept) (now_b : List (List ℕ)) (limits_now_b : Limits) (rule_now_b : RuleData) (faults_now_b : ℕ) (out : Out) : Type 0 where
  pub first : PairData
  pub begins : Begins start (map entry_of before_a) (map entry_of before_b) first
  pub got : HasGot limits_a limits_b rule_a rule_b first (seen now_a k_a) (map entry_of now_a) (seen now_b k_b) (map entry_of now_b) (out_of (map entry_of now_b) out)
  pub well_a : IsWell limits_a rule_a k_a now_a
  pub well_b : IsWell limits_b rule_b k_b now_b
  pub grows_a : GrowsBy (before_a ++ before_b) before_a now_a
  pub grows_b : GrowsBy (before_a ++ before_b) before_b now_b
  pub later_a : faults_a ≤ faults_now_a
  pub later_b : faults_b ≤ faults_now_b
  pub store : out.end ≡ Some Store → Rose faults_a faults_now_a ⊎ Rose faults_b faults_now_b
  pub same_limits_a : limits_now_a ≡ limits_a
  pub same_limits_b : limits_now_b ≡ limits_b
  pub same_rule_a : rule_now_a ≡ rule_a
  pub same_rule_b : rule_now_b ≡ rule_b
  pub small_a : limits_a.updates ≤ MAX_MEMBERS
  pub small_b : limits_b.updates ≤ MAX_MEMBERS

-- No commit behind this answer was refused: it sends a turn, or its end is neither for want of room nor by the store.
abbrev pub IsUnrefused : Out → Type 0
IsUnrefused out = (out.turn ≢ None) ⊎ ((out.end ≢ Some Full) × (out.end ≢ Some Store))

-- What is told of a session that ended so.
pub record Closes (k_a k_b : Kept) (ending : End) (ended : PairEnd) : Type 0 where
  pub a : ended.a ≡ ending
  pub b : ended.b ≡ ending
  pub gained_a : ended.gained_a ≡ k_a.state.gained
  pub gained_b : ended.gained_b ≡ k_b.state.gained
  pub turns : ended.turns ≡ max k_a.state.turns k_b.state.turns
  pub remembered_a : RemembersBy k_a.failed k_a ended.remembered_a
  pub remembered_b : RemembersBy k_b.failed k_b ended.remembered_b
