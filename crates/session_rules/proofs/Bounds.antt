-- One end, whatever frames come: its turns are bounded.
use Rattle.std.proofs.Common.{◌≡◌, ◌⊎◌, inl, inr, ℕ, suc, ◌+◌, ◌*◌, ◌<◌, ◌≤◌, Bool, true, false, not, ◌&&◌, ◌||◌, cond, if◌then◌else◌, List, [], ◌∷◌, ◌++◌, length, map, filter, find, Option, Some, None, refl, sym, ap, subst, ◌∙◌, arith, append-nil, length-append, length-take, bytes_eq, leb-true}
use Rattle.std.specs.List.Sorted.{IsStrictlySortedBy}
use Rattle.std.proofs.lemmas.List.{length-map}
use Rattle.update_model.specs.declared.limits.TheConstants.{MAX_MEMBERS}
use Rattle.session_rules.specs.declared.limits.TheConstants.{MAX_NEEDS, MAX_TURNS}
use Rattle.update_model.specs.declared.update_id.UpdateId.{UpdateId}
use Rattle.update_model.specs.Entry.{Entry, same_id, id_cmp}
use Rattle.update_model.specs.Graph.{has, holds, is_within}
use Rattle.update_model.proofs.Ids.{id_from_same, same_id-refl}
use Rattle.update_model.specs.Batch.{Limits, Adds, fits}
use Rattle.session_rules.specs.Commit.{Committed, Added, TooMuch, DiskFault, Commits}
use Rattle.session_rules.specs.Pair.{Feeds, unfed, fed, grown}
use Rattle.session_rules.specs.State.{Role, Initiator, Responder, HelloData, TurnData, FrameData, Hello, OtherVersion, Item, BadItem, Turn, NoFrame, End, Done, Peer, Full, Store, PeerFault, OutOfTurn, WrongDatabase, Unanswered, Stalled, Version, BadFrame, Reading, Opening, Burst, Answers, SessionData, OutData}
use Rattle.session_rules.specs.Steps.{begun, StepsBy, Takes, Unless, Greets, Gathers, gathers, in_burst, after_item, Settles, Concludes, Judges, Replies, IsTurn, AreNeeds, is_wanted, heads_in, committed, refused, replied, counted, Joins, is_empty, is_first, late_fault, hello_fault, takes_hello, item_fault, takes_item, answer_fault, turn_fault, takes_turn, due_fault, first_of, unknown_fault, again_fault}
use Rattle.session_rules.proofs.Words.{or_cases, or_left, or_right, is_either, and_both}
use Rattle.session_rules.proofs.Held.{holds_front, holds_append, has_append}
use Rattle.session_rules.proofs.Needs.{least_passes}
use Rattle.session_rules.proofs.Ends.{wanted_parts}
use Rattle.session_rules.proofs.ItemStep.{holds_gathered, holds_more}
use Rattle.session_rules.proofs.TurnStep.{has_ids, settled_turn}
use Rattle.session_rules.proofs.Pigeons.{pigeons, rising_distinct, joins_longer, joins_more}

-- the ids that still have to come in this turn
abbrev pub due : Reading → List UpdateId
due Opening = []
due Burst = []
due (Answers ids) = ids

-- how many turns there are beside those that an id pays for
abbrev pub base : Role → Reading → ℕ
base Initiator Opening = 1
base Initiator Burst = 1
base Initiator (Answers ids) = 3
base Responder Opening = 0
base Responder Burst = 2
base Responder (Answers ids) = 2

abbrev pub paid : List UpdateId → List UpdateId → ℕ
paid asked peer_asked = 2 * (length asked + length peer_asked)

-- held, waiting, gathered or still to come
abbrev pub is_met : List Entry → List Entry → List Entry → List UpdateId → UpdateId → Bool
is_met list waiting gathered ids id = holds list id || (holds waiting id || (holds gathered id || has ids id))

pub record Bounded (s : SessionData) (list : List Entry) : Type 0 where
  pub few : length list ≤ MAX_MEMBERS
  pub start : length s.start ≤ MAX_MEMBERS
  pub rising : IsStrictlySortedBy id_cmp s.asked
  pub rising_peer : IsStrictlySortedBy id_cmp s.peer_asked
  pub met : s.ended ≡ None → (id : UpdateId) → has s.asked id ≡ true → is_met list s.waiting s.gathered (due s.reading) id ≡ true
  pub asked_few : length s.asked ≤ 2 * MAX_MEMBERS + MAX_NEEDS
  pub theirs : (id : UpdateId) → has s.peer_asked id ≡ true → holds s.start id ≡ true
  pub fresh : takes_hello s.reading ≡ true → s.peer_asked ≡ []
  pub room : length (s.waiting ++ s.gathered) ≤ MAX_MEMBERS
  pub due_few : length (due s.reading) ≤ MAX_NEEDS
  pub turns : s.turns ≤ paid s.asked s.peer_asked + 6
  pub slow : s.ended ≡ None → s.turns ≤ paid s.asked s.peer_asked + (base s.role s.reading + cond s.began 1 0)

-- ---- what the counts come to

ids_of : List Entry → List UpdateId
ids_of es = map (λ e. e.id) es

-- distinct ids that are met are no more than what there is
few_met : (s : SessionData) (list : List Entry) → length list ≤ MAX_MEMBERS → IsStrictlySortedBy id_cmp s.asked → length (s.waiting ++ s.gathered) ≤ MAX_MEMBERS → length (due s.reading) ≤ MAX_NEEDS
    → ((id : UpdateId) → has s.asked id ≡ true → is_met list s.waiting s.gathered (due s.reading) id ≡ true) → length s.asked ≤ 2 * MAX_MEMBERS + MAX_NEEDS
few_met s list few rising room few_due met =
    let all = pigeons s.asked (map (λ e. e.id) list ++ (map (λ e. e.id) (s.waiting ++ s.gathered) ++ due s.reading)) (rising_distinct s.asked rising) among in
    let one = length-map list (λ (e : Entry). e.id) in
    let two = length-map (s.waiting ++ s.gathered) (λ (e : Entry). e.id) in
    let sum = length-append (map (λ (e : Entry). e.id) list) (map (λ (e : Entry). e.id) (s.waiting ++ s.gathered) ++ due s.reading) in
    let sum2 = length-append (map (λ (e : Entry). e.id) (s.waiting ++ s.gathered)) (due s.reading) in
    omega arith
  where
    among : (id : UpdateId) → has s.asked id ≡ true → has (map (λ e. e.id) list ++ (map (λ e. e.id) (s.waiting ++ s.gathered) ++ due s.reading)) id ≡ true
    among id h = has_append (map (λ e. e.id) list) (map (λ e. e.id) (s.waiting ++ s.gathered) ++ due s.reading) id
        ∙ rw (has_ids list id, has_append (map (λ e. e.id) (s.waiting ++ s.gathered)) (due s.reading) id, has_ids (s.waiting ++ s.gathered) id, holds_append s.waiting s.gathered id)
        (regroup (holds list id) (holds s.waiting id) (holds s.gathered id) (has (due s.reading) id) (met id h))
      where
        regroup : (x y z w : Bool) → (x || (y || (z || w))) ≡ true → (x || ((y || z) || w)) ≡ true
        regroup true y z w h = refl
        regroup false true z w h = refl
        regroup false false z w h = h

pub few_peer_asked : (s : SessionData) (list : List Entry) → Bounded s list → length s.peer_asked ≤ MAX_MEMBERS
few_peer_asked s list b =
    let all = pigeons s.peer_asked (map (λ e. e.id) s.start) (rising_distinct s.peer_asked b.rising_peer) (λ id h. has_ids s.start id ∙ b.theirs id h) in
    let long = length-map s.start (λ (e : Entry). e.id) in
    let start = b.start in
    omega arith

-- The turns of a session stay below 800,000.
pub few_turns : (s : SessionData) (list : List Entry) → Bounded s list → s.turns < MAX_TURNS
few_turns s list b = let one = b.asked_few in let two = few_peer_asked s list b in let turns = b.turns in omega arith

pub sorted_none : IsStrictlySortedBy id_cmp []
unfolding IsStrictlySortedBy
sorted_none = tt

-- ---- an end

low_base : (role : Role) (r : Reading) → base role r ≤ 3
low_base Initiator Opening = omega arith
low_base Initiator Burst = omega arith
low_base Initiator (Answers ids) = omega arith
low_base Responder Opening = omega arith
low_base Responder Burst = omega arith
low_base Responder (Answers ids) = omega arith

-- ended as it stands
ended_bounded : (s : SessionData) (list : List Entry) (ending : End) → Bounded s list → Bounded (record s { ended = Some ending }) list
ended_bounded s list ending b = record {
  few = b.few;
  start = b.start;
  rising = b.rising;
  rising_peer = b.rising_peer;
  met = λ h. absurd cc;
  asked_few = b.asked_few;
  theirs = b.theirs;
  fresh = b.fresh;
  room = b.room;
  due_few = b.due_few;
  turns = b.turns;
  slow = λ h. absurd cc;
}

-- one more turn begun, and then ended
counted_turns : (n k : ℕ) (began : Bool) → n ≤ k + cond began 1 0 → n + cond began 0 1 ≤ k + 1
counted_turns n k true h = omega arith
counted_turns n k false h = omega arith

-- a commit was refused
refused_bounded : (s : SessionData) (list : List Entry) (ending : End) → s.ended ≡ None → Bounded s list → Bounded (refused s ending) list
refused_bounded s list ending running b = record {
  few = b.few;
  start = b.start;
  rising = b.rising;
  rising_peer = b.rising_peer;
  met = λ h. absurd cc;
  asked_few = b.asked_few;
  theirs = b.theirs;
  fresh = b.fresh;
  room = omega arith;
  due_few = b.due_few;
  turns = let slow = b.slow running in let low = low_base s.role s.reading in
      let now = counted_turns s.turns (paid s.asked s.peer_asked + base s.role s.reading) s.began (omega arith) in omega arith;
  slow = λ h. absurd cc;
}

-- ---- a Hello

pub opens_hello : (d t : Bool) → (if d then (if t then None else Some OutOfTurn) else Some WrongDatabase) ≡ None → t ≡ true
opens_hello true true h = refl
opens_hello true false h = absurd cc
opens_hello false t h = absurd cc

at_opening : (r : Reading) → takes_hello r ≡ true → (due r ≡ []) × ((role : Role) → base role r ≡ base role Opening)
at_opening Opening h = (refl, λ role. refl)
at_opening Burst h = absurd cc
at_opening (Answers ids) h = absurd cc

greets_a : (s : SessionData) (list : List Entry) (hello : HelloData) → s.role ≡ Initiator → takes_hello s.reading ≡ true → s.ended ≡ None → Bounded s list
    → Bounded (record (counted s) { peer = Some hello; reading = Burst }) list
greets_a s list hello role opening running b =
    let at = at_opening s.reading opening in
    let slow = b.slow running in
    let is_base : base s.role s.reading ≡ 1 = ap (λ (r : Role). base r s.reading) role ∙ at.1 Initiator in
    let now = counted_turns s.turns (paid s.asked s.peer_asked + 1) s.began (omega arith) in
    record {
      few = b.few;
      start = b.start;
      rising = b.rising;
      rising_peer = b.rising_peer;
      met = λ _ id h. subst (λ (ids : List UpdateId). is_met list s.waiting s.gathered ids id ≡ true) at.0 (b.met running id h);
      asked_few = b.asked_few;
      theirs = b.theirs;
      fresh = λ h. absurd cc;
      room = b.room;
      due_few = omega arith;
      turns = omega arith;
      slow = λ _. subst (λ (r : Role). s.turns + cond s.began 0 1 ≤ paid s.asked s.peer_asked + (base r Burst + 1)) (sym role) (omega arith);
    }

greets_b : (s : SessionData) (list : List Entry) (hello : HelloData) (have : Bool) → s.role ≡ Responder → takes_hello s.reading ≡ true → s.ended ≡ None → Bounded s list
    → Bounded (record s { start = list; peer = Some hello; reading = Burst; turns = s.turns + 2; sent_have = have }) list
greets_b s list hello have role opening running b =
    let at = at_opening s.reading opening in
    let slow = b.slow running in
    let is_base : base s.role s.reading ≡ 0 = ap (λ (r : Role). base r s.reading) role ∙ at.1 Responder in
    record {
      few = b.few;
      start = b.few;
      rising = b.rising;
      rising_peer = b.rising_peer;
      met = λ _ id h. subst (λ (ids : List UpdateId). is_met list s.waiting s.gathered ids id ≡ true) at.0 (b.met running id h);
      asked_few = b.asked_few;
      theirs = λ id h. absurd (let none = b.fresh opening in let never : has [] id ≡ true = subst (λ (ids : List UpdateId). has ids id ≡ true) none h in cc);
      fresh = λ h. absurd cc;
      room = b.room;
      due_few = omega arith;
      turns = let small = at_most_one s.began in omega arith;
      slow = λ _. subst (λ (r : Role). s.turns + 2 ≤ paid s.asked s.peer_asked + (base r Burst + cond s.began 1 0)) (sym role) (omega arith);
    }
  where
    at_most_one : (b : Bool) → cond b 1 0 ≤ 1
    at_most_one true = omega arith
    at_most_one false = omega arith

greets_bounded : (s next : SessionData) (list after : List Entry) (hello : HelloData) (out : OutData) (role : Role) → s.role ≡ role → takes_hello s.reading ≡ true → s.ended ≡ None → Bounded s list
    → Greets role s list hello next out after → Bounded next after
greets_bounded s next list after hello out Initiator is opening running b g = rw (g.0, g.2) (greets_a s list hello is opening running b)
greets_bounded s next list after hello out Responder is opening running b g = rw (g.4.0, g.5) (greets_b s list hello _ is opening running b)

-- ---- an Item

item_due : (r : Reading) (items : ℕ) (e : Entry) → (if takes_item r items then answer_fault r e.id else Some OutOfTurn) ≡ None
    → ((id : UpdateId) → has (due r) id ≡ true → (same_id id e.id || has (due (after_item r)) id) ≡ true) × (takes_hello (after_item r) ≡ takes_hello r) × (length (due (after_item r)) ≤ length (due r))
item_due Opening items e h = absurd cc
item_due Burst items e h = (λ id there. absurd cc, refl, omega arith)
item_due (Answers []) items e h = absurd cc
item_due (Answers (due_id ∷ ids)) items e h = (λ id there. by_first id there (is_same (takes_item (Answers (due_id ∷ ids)) items) (same_id due_id e.id) h), refl, omega arith)
  where
    is_same : (t s : Bool) → (if t then (if s then None else Some (Unanswered due_id)) else Some OutOfTurn) ≡ None → s ≡ true
    is_same true true g = refl
    is_same true false g = absurd cc
    is_same false s g = absurd cc

    by_first : (id : UpdateId) → (same_id id due_id || has ids id) ≡ true → same_id due_id e.id ≡ true → (same_id id e.id || has ids id) ≡ true
    by_first id there same = subst (λ (i : UpdateId). (same_id id i || has ids id) ≡ true) (id_from_same due_id e.id same) there

base_item : (role : Role) (r : Reading) → base role (after_item r) ≡ base role r
base_item Initiator Opening = refl
base_item Initiator Burst = refl
base_item Initiator (Answers []) = refl
base_item Initiator (Answers (id ∷ ids)) = refl
base_item Responder Opening = refl
base_item Responder Burst = refl
base_item Responder (Answers []) = refl
base_item Responder (Answers (id ∷ ids)) = refl

within_few : (es : List Entry) → is_within es ≡ true → length es ≤ MAX_MEMBERS
within_few es h = leb-true (length es) MAX_MEMBERS (and_both _ _ h).0

gathers_bounded : (s : SessionData) (list : List Entry) (e : Entry) → item_fault s e ≡ None → s.ended ≡ None → is_within (s.waiting ++ gathers s e) ≡ true → Bounded s list
    → Bounded (record (counted s) { items = s.items + 1; reading = after_item s.reading; gathered = gathers s e }) list
gathers_bounded s list e none running fits b =
    let d = item_due s.reading s.items e none in
    let slow = b.slow running in
    let now = counted_turns s.turns (paid s.asked s.peer_asked + base s.role s.reading) s.began (omega arith) in
    let same = base_item s.role s.reading in
    let low = low_base s.role s.reading in
    record {
      few = b.few;
      start = b.start;
      rising = b.rising;
      rising_peer = b.rising_peer;
      met = λ _ id h. met_item id d.0 (b.met running id h);
      asked_few = b.asked_few;
      theirs = b.theirs;
      fresh = λ h. b.fresh (sym d.1 ∙ h);
      room = within_few (s.waiting ++ gathers s e) fits;
      due_few = let few = b.due_few in let less = d.2 in omega arith;
      turns = omega arith;
      slow = λ _. omega arith;
    }
  where
    met_item : (id : UpdateId) → ((id : UpdateId) → has (due s.reading) id ≡ true → (same_id id e.id || has (due (after_item s.reading)) id) ≡ true)
        → is_met list s.waiting s.gathered (due s.reading) id ≡ true → is_met list s.waiting (gathers s e) (due (after_item s.reading)) id ≡ true
    met_item id to h = elim (or_cases (holds list id) (holds s.waiting id || (holds s.gathered id || has (due s.reading) id)) h) [
      | inl held ↦ or_left (holds list id) (holds s.waiting id || (holds (gathers s e) id || has (due (after_item s.reading)) id)) held
      | inr rest ↦ or_right (holds list id) (holds s.waiting id || (holds (gathers s e) id || has (due (after_item s.reading)) id)) (elim (or_cases (holds s.waiting id) (holds s.gathered id || has (due s.reading) id) rest) [
        | inl waits ↦ or_left (holds s.waiting id) (holds (gathers s e) id || has (due (after_item s.reading)) id) waits
        | inr rest ↦ elim (or_cases (holds s.gathered id) (has (due s.reading) id) rest) [
          | inl there ↦ or_right (holds s.waiting id) (holds (gathers s e) id || has (due (after_item s.reading)) id)
              (or_left (holds (gathers s e) id) (has (due (after_item s.reading)) id) (holds_more s.gathered e (in_burst s.reading && (holds s.gathered e.id || holds s.waiting e.id)) id there))
          | inr comes ↦ elim (or_cases (same_id id e.id) (has (due (after_item s.reading)) id) (to id comes)) [
            | inl is ↦ subst (λ (i : UpdateId). (holds s.waiting i || (holds (gathers s e) i || has (due (after_item s.reading)) i)) ≡ true) (sym (id_from_same id e.id is))
                (elim (or_cases (holds s.waiting e.id) (holds (gathers s e) e.id) (holds_gathered s.waiting s.gathered e (in_burst s.reading))) [
                  | inl waits ↦ or_left (holds s.waiting e.id) (holds (gathers s e) e.id || has (due (after_item s.reading)) e.id) waits
                  | inr now ↦ or_right (holds s.waiting e.id) (holds (gathers s e) e.id || has (due (after_item s.reading)) e.id) (or_left (holds (gathers s e) e.id) (has (due (after_item s.reading)) e.id) now)
                ])
            | inr later ↦ or_right (holds s.waiting id) (holds (gathers s e) id || has (due (after_item s.reading)) id) (or_right (holds (gathers s e) id) (has (due (after_item s.reading)) id) later)
          ]
        ]
      ])
    ]

-- ---- a Turn

filter_shorter : (p : Entry → Bool) (xs : List Entry) → length (filter p xs) ≤ length xs
filter_shorter p [] = omega arith
filter_shorter p (x ∷ xs) = let rest = filter_shorter p xs in elim (p x) as (λ b. length (cond b (x ∷ filter p xs) (filter p xs)) ≤ suc (length xs)) [
  | true ↦ omega arith
  | false ↦ omega arith
]

-- where a Turn may come, nothing else has to
turn_due : (role : Role) (r : Reading) (turn : TurnData) (rest : Option PeerFault) → (if takes_turn role r turn.needs then first_of (due_fault r) rest else Some OutOfTurn) ≡ None
    → (due r ≡ []) × (takes_hello r ≡ false)
turn_due role Opening turn rest h = absurd cc
turn_due Initiator Burst turn rest h = (refl, refl)
turn_due Responder Burst turn rest h = (refl, refl)
turn_due Initiator (Answers []) turn rest h = (refl, refl)
turn_due Responder (Answers []) turn rest h = (refl, refl)
turn_due Initiator (Answers (id ∷ ids)) turn rest h = absurd cc
turn_due Responder (Answers (id ∷ ids)) turn rest h = absurd cc

pub late_parts : (stalled : Bool) (one two : Option PeerFault) → (if stalled then Some Stalled else first_of one two) ≡ None → (stalled ≡ false) × (one ≡ None) × (two ≡ None)
late_parts true one two h = absurd cc
late_parts false None two h = (refl, refl, h)
late_parts false (Some f) two h = absurd cc

pub or_parts : (a b : Bool) → (a || b) ≡ false → (a ≡ false) × (b ≡ false)
or_parts true b h = absurd cc
or_parts false b h = (refl, h)

-- a need that is found is one that passes
found_none : (p : UpdateId → Bool) (ids : List UpdateId) → find p ids ≡ None → (id : UpdateId) → has ids id ≡ true → p id ≡ false
found_none p [] h id there = absurd cc
found_none p (x ∷ xs) h id there = elim (is_either (p x)) [
  | inl passes ↦ absurd (let some : find p (x ∷ xs) ≡ Some x = rw passes refl in cc)
  | inr fails ↦ let rest : find p xs ≡ None = rw fails at h in elim (or_cases (same_id id x) (has xs id) there) [
    | inl is ↦ subst (λ (i : UpdateId). p i ≡ false) (sym (id_from_same id x is)) fails
    | inr later ↦ found_none p xs rest id later
  ]
]

unknown_none : (o : Option UpdateId) → unknown_fault o ≡ None → o ≡ None
unknown_none None h = refl
unknown_none (Some id) h = absurd cc

again_none : (o : Option UpdateId) → again_fault o ≡ None → o ≡ None
again_none None h = refl
again_none (Some id) h = absurd cc

base_below : (role : Role) (r : Reading) (ids : List UpdateId) → base role r ≤ base role (Answers ids)
base_below Initiator Opening ids = omega arith
base_below Initiator Burst ids = omega arith
base_below Initiator (Answers is) ids = omega arith
base_below Responder Opening ids = omega arith
base_below Responder Burst ids = omega arith
base_below Responder (Answers is) ids = omega arith

first_base : (role : Role) (r : Reading) (ids : List UpdateId) → is_first role r ≡ true → base role r + 2 ≤ base role (Answers ids)
first_base Initiator Opening ids h = absurd cc
first_base Initiator Burst ids h = omega arith
first_base Initiator (Answers is) ids h = absurd cc
first_base Responder r ids h = absurd cc

pub needs_pass : (own : Bool) (test : UpdateId → Bool) (needs : List UpdateId) → AreNeeds own test needs → (id : UpdateId) → has needs id ≡ true → test id ≡ true
needs_pass true test needs none id h = absurd (let never : has [] id ≡ true = subst (λ (ids : List UpdateId). has ids id ≡ true) none h in cc)
needs_pass false test needs least id h = least_passes test MAX_NEEDS needs id least h

needs_few : (own : Bool) (test : UpdateId → Bool) (needs : List UpdateId) → AreNeeds own test needs → length needs ≤ MAX_NEEDS
needs_few true test needs none = rw none (omega arith)
needs_few false test needs least = rw least.front (omega (arith, length-take MAX_NEEDS least.all))

-- something new makes the set longer
grows_by : (old needs both : List UpdateId) → IsStrictlySortedBy id_cmp old → Joins old needs both → is_empty needs ≡ false → ((id : UpdateId) → has needs id ≡ true → has old id ≡ false) → length old + 1 ≤ length both
grows_by old [] both rising j some new = absurd cc
grows_by old (id ∷ ids) both rising j some new = joins_more old both id ids rising j (new id (or_left (same_id id id) (has ids id) (same_id-refl id)))

module _ (limits : Limits) (s : SessionData) (list : List Entry) (turn own : TurnData) (added waits : List Entry) (b : Bounded s list) (running : s.ended ≡ None)
    (a : Adds list (s.waiting ++ s.gathered) added waits) (few_now : length (list ++ added) ≤ MAX_MEMBERS) (none : turn_fault s turn ≡ None) where
  no_due : (due s.reading ≡ []) × (takes_hello s.reading ≡ false)
  no_due = turn_due s.role s.reading turn _ none

  come : (id : UpdateId) → has s.asked id ≡ true → (holds (list ++ added) id || holds waits id) ≡ true
  come id h = settled_turn list s.gathered s.waiting added waits id a (subst (λ (ids : List UpdateId). is_met list s.waiting s.gathered ids id ≡ true) no_due.0 (b.met running id h))

  waits_few : length (waits ++ []) ≤ MAX_MEMBERS
  waits_few = rw append-nil (rw a.rest (let less = filter_shorter (λ e. not (holds (list ++ added) e.id)) (s.waiting ++ s.gathered) in let room = b.room in omega arith))

  turns_now : s.turns + cond s.began 0 1 ≤ paid s.asked s.peer_asked + (base s.role s.reading + 1)
  turns_now = let slow = b.slow running in let now = counted_turns s.turns (paid s.asked s.peer_asked + base s.role s.reading) s.began (omega arith) in omega arith

  met_more : (id : UpdateId) (rest : Bool) → (holds (list ++ added) id || holds waits id) ≡ true → (holds (list ++ added) id || (holds waits id || rest)) ≡ true
  met_more id rest h = elim (or_cases (holds (list ++ added) id) (holds waits id) h) [
    | inl held ↦ or_left (holds (list ++ added) id) (holds waits id || rest) held
    | inr waiting ↦ or_right (holds (list ++ added) id) (holds waits id || rest) (or_left (holds waits id) rest waiting)
  ]

  -- the session ends after the commit
  committed_bounded : (ending : End) → Bounded (record (committed s turn added waits) { ended = Some ending }) (list ++ added)
  committed_bounded ending = record {
    few = few_now;
    start = b.start;
    rising = b.rising;
    rising_peer = b.rising_peer;
    met = λ _ id h. met_more id (has (due s.reading) id) (come id h);
    asked_few = b.asked_few;
    theirs = b.theirs;
    fresh = b.fresh;
    room = waits_few;
    due_few = b.due_few;
    turns = let now = turns_now in let low = low_base s.role s.reading in omega arith;
    slow = λ h. absurd cc;
  }

  module _ (asked peer_asked : List UpdateId) (is_turn : IsTurn s (list ++ added) waits own) (joins : Joins s.asked own.needs asked) (joins_peer : Joins s.peer_asked turn.needs peer_asked)
      (on_time : late_fault s turn own ≡ None) where
    parts : (((not (is_first s.role s.reading) && (not turn.have && is_empty turn.needs)) || (not own.have && is_empty own.needs)) ≡ false)
        × (unknown_fault (find (λ id. not (holds s.start id)) turn.needs) ≡ None) × (again_fault (find (has s.peer_asked) turn.needs) ≡ None)
    parts = late_parts ((not (is_first s.role s.reading) && (not turn.have && is_empty turn.needs)) || (not own.have && is_empty own.needs))
        (unknown_fault (find (λ id. not (holds s.start id)) turn.needs)) (again_fault (find (has s.peer_asked) turn.needs)) on_time

    not_stalled : ((not (is_first s.role s.reading) && (not turn.have && is_empty turn.needs)) ≡ false) × ((not own.have && is_empty own.needs) ≡ false)
    not_stalled = or_parts (not (is_first s.role s.reading) && (not turn.have && is_empty turn.needs)) (not own.have && is_empty own.needs) parts.0

    longer : length s.asked ≤ length asked
    longer = joins_longer s.asked own.needs asked b.rising joins

    longer_peer : length s.peer_asked ≤ length peer_asked
    longer_peer = joins_longer s.peer_asked turn.needs peer_asked b.rising_peer joins_peer

    -- An own Turn without `have` asks for something new.
    pub own_new : own.have ≡ false → length s.asked + 1 ≤ length asked
    own_new lacks = grows_by s.asked own.needs asked b.rising joins (subst (λ h. (not h && is_empty own.needs) ≡ false) lacks not_stalled.1)
        (λ id h. (wanted_parts (heads_in s.peer) (list ++ added) waits s.asked id (needs_pass own.have (is_wanted (heads_in s.peer) (list ++ added) waits s.asked) own.needs is_turn.needs id h)).new)

    peer_new : turn.have ≡ false → is_first s.role s.reading ≡ false → length s.peer_asked + 1 ≤ length peer_asked
    peer_new lacks later = grows_by s.peer_asked turn.needs peer_asked b.rising_peer joins_peer some
        (λ id h. found_none (has s.peer_asked) turn.needs (again_none (find (has s.peer_asked) turn.needs) parts.2) id h)
      where
        some : is_empty turn.needs ≡ false
        some = subst (λ h. (not false && (not h && is_empty turn.needs)) ≡ false) lacks (subst (λ f. (not f && (not turn.have && is_empty turn.needs)) ≡ false) later not_stalled.0)

    slow_now : (own.have && turn.have) ≡ false → s.turns + cond s.began 0 1 + 1 ≤ paid asked peer_asked + (base s.role (Answers own.needs) + 0)
    slow_now not_both = by_have (is_either own.have)
      where
        by_first : own.have ≡ true → (is_first s.role s.reading ≡ true) ⊎ (is_first s.role s.reading ≡ false) → s.turns + cond s.began 0 1 + 1 ≤ paid asked peer_asked + (base s.role (Answers own.needs) + 0)
        by_first has_all (inl first) =
            let more = first_base s.role s.reading own.needs first in let now = turns_now in let one = longer in let two = longer_peer in omega arith
        by_first has_all (inr later) =
            let lacks : turn.have ≡ false = subst (λ h. (h && turn.have) ≡ false) has_all not_both in
            let more = peer_new lacks later in let one = longer in let now = turns_now in let below = base_below s.role s.reading own.needs in omega arith

        by_have : (own.have ≡ true) ⊎ (own.have ≡ false) → s.turns + cond s.began 0 1 + 1 ≤ paid asked peer_asked + (base s.role (Answers own.needs) + 0)
        by_have (inl has_all) = by_first has_all (is_either (is_first s.role s.reading))
        by_have (inr lacks) = let more = own_new lacks in let two = longer_peer in let now = turns_now in let below = base_below s.role s.reading own.needs in omega arith

    replied_met : (id : UpdateId) → has asked id ≡ true → is_met (list ++ added) waits [] own.needs id ≡ true
    replied_met id h = elim (or_cases (has s.asked id) (has own.needs id) (sym (joins.exact id) ∙ h)) [
      | inl was ↦ met_more id (has own.needs id) (come id was)
      | inr new ↦ or_right (holds (list ++ added) id) (holds waits id || has own.needs id) (or_right (holds waits id) (has own.needs id) new)
    ]

    few_needs : length own.needs ≤ MAX_NEEDS
    few_needs = needs_few own.have (is_wanted (heads_in s.peer) (list ++ added) waits s.asked) own.needs is_turn.needs

    replied_bounded : Bounded (replied (committed s turn added waits) turn own asked peer_asked) (list ++ added)
    replied_bounded = record {
      few = few_now;
      start = b.start;
      rising = joins.rising;
      rising_peer = joins_peer.rising;
      met = λ _. replied_met;
      asked_few = few_met (replied (committed s turn added waits) turn own asked peer_asked) (list ++ added) few_now joins.rising waits_few few_needs replied_met;
      theirs = λ id h. elim (or_cases (has s.peer_asked id) (has turn.needs id) (sym (joins_peer.exact id) ∙ h)) [
        | inl was ↦ b.theirs id was
        | inr new ↦ known id (found_none (λ i. not (holds s.start i)) turn.needs (unknown_none (find (λ i. not (holds s.start i)) turn.needs) parts.1) id new)
      ];
      fresh = λ h. absurd cc;
      room = waits_few;
      due_few = few_needs;
      turns = let now = turns_now in let low = low_base s.role s.reading in let one = longer in let two = longer_peer in omega arith;
      slow = λ h. slow_now (not_ended (own.have && turn.have) h);
    }
      where
        known : (id : UpdateId) → not (holds s.start id) ≡ false → holds s.start id ≡ true
        known id h = elim (is_either (holds s.start id)) [
          | inl yes_held ↦ yes_held
          | inr lacks ↦ absurd (let other : not (holds s.start id) ≡ true = ap not lacks in cc)
        ]

        not_ended : (b : Bool) → (if b then Some Done else None) ≡ None → b ≡ false
        not_ended true h = absurd cc
        not_ended false h = refl

-- ---- any step

module _ (limits : Limits) (small : limits.updates ≤ MAX_MEMBERS) (s next : SessionData) (list after : List Entry) (out : OutData) (b : Bounded s list) (running : s.ended ≡ None) where
  faulty : (ending : End) → next ≡ record s { ended = Some ending } → after ≡ list → Bounded next after
  faulty ending e f = rw (e, f) (ended_bounded s list ending b)

  unless_bounded : (G : Type 0) (of fault : Option PeerFault) → of ≡ fault → Unless fault s list next out after G → (of ≡ None → G → Bounded next after) → Bounded next after
  unless_bounded G of (Some f) e u k = faulty (Peer f) u.0 u.2
  unless_bounded G of None e u k = k e u

  item_bounded : (e : Entry) (fits : Bool) → item_fault s e ≡ None → is_within (s.waiting ++ gathers s e) ≡ fits → Gathers fits s list e next out after → Bounded next after
  item_bounded e true none is g = rw (g.0, g.2) (gathers_bounded s list e none running is b)
  item_bounded e false none is g = faulty Full g.0 g.2

  replies_bounded : (turn own : TurnData) (added waits : List Entry) → (a : Adds list (s.waiting ++ s.gathered) added waits) → length (list ++ added) ≤ MAX_MEMBERS → turn_fault s turn ≡ None
      → IsTurn s (list ++ added) waits own → late_fault s turn own ≡ None → (both first : Bool) → Replies both first (committed s turn added waits) turn own next out → after ≡ list ++ added → Bounded next after
  replies_bounded turn own added waits a few none is_turn on_time true first r e = rw (r.0, e) (committed_bounded limits s list turn own added waits b running a few none Done)
  replies_bounded turn own added waits a few none is_turn on_time false first r e =
      rw (r.7, e) (replied_bounded limits s list turn own added waits b running a few none r.1 r.2 is_turn r.4 r.5 on_time)

  judges_bounded : (turn own : TurnData) (added waits : List Entry) → (a : Adds list (s.waiting ++ s.gathered) added waits) → length (list ++ added) ≤ MAX_MEMBERS → turn_fault s turn ≡ None
      → IsTurn s (list ++ added) waits own → (fault : Option PeerFault) → late_fault s turn own ≡ fault → Judges fault s (committed s turn added waits) turn own next out → after ≡ list ++ added → Bounded next after
  judges_bounded turn own added waits a few none is_turn (Some f) is j e = rw (j.0, e) (committed_bounded limits s list turn own added waits b running a few none (Peer f))
  judges_bounded turn own added waits a few none is_turn None is j e = replies_bounded turn own added waits a few none is_turn is (s.sent_have && turn.have) (is_first s.role s.reading) j e

  settles_bounded : (turn : TurnData) (answer : Committed) → turn_fault s turn ≡ None → Commits limits list (s.waiting ++ s.gathered) answer after → Concludes answer s turn after next out → Bounded next after
  settles_bounded turn (Added added waits) none c g =
      let few : length (list ++ added) ≤ limits.updates = leb-true (length (list ++ added)) limits.updates (and_both _ _ c.1).0 in
      judges_bounded turn g.0 added waits c.0 (omega arith) none (subst (λ (l : List Entry). IsTurn s l waits g.0) c.2 g.1) (late_fault s turn g.0) refl g.2 c.2
  settles_bounded turn TooMuch none c g = rw (g.0, c.1) (refused_bounded s list Full running b)
  settles_bounded turn DiskFault none c g = rw (g.0, c) (refused_bounded s list Store running b)

  takes_bounded : (frame : FrameData) → Takes limits s list frame next out after → Bounded next after
  takes_bounded (Hello hello) t = unless_bounded (Greets s.role s list hello next out after) (hello_fault s hello) (hello_fault s hello) refl t (λ none g.
      greets_bounded s next list after hello out s.role refl (opens_hello (bytes_eq hello.database s.database) (takes_hello s.reading) none) running b g)
  takes_bounded OtherVersion t = faulty (Peer Version) t.0 t.2
  takes_bounded (Item e) t = unless_bounded (Gathers (is_within (s.waiting ++ gathers s e)) s list e next out after) (item_fault s e) (item_fault s e) refl t (λ none g. item_bounded e (is_within (s.waiting ++ gathers s e)) none refl g)
  takes_bounded (BadItem why) t = faulty _ t.0 t.2
  takes_bounded (Turn turn) t = unless_bounded (Settles limits s list turn next out after) (turn_fault s turn) (turn_fault s turn) refl t (λ none g. settles_bounded turn g.0 none g.1 g.2)
  takes_bounded (NoFrame place) t = faulty (Peer (BadFrame place)) t.0 t.2

steps_bounded : (limits : Limits) → limits.updates ≤ MAX_MEMBERS → (s next : SessionData) (list after : List Entry) (frame : FrameData) (out : OutData) → Bounded s list → (ended : Option End) → s.ended ≡ ended
    → StepsBy ended limits s list frame next out after → Bounded next after
steps_bounded limits small s next list after frame out b (Some ending) is t = rw (t.0, t.2) b
steps_bounded limits small s next list after frame out b None is t = takes_bounded limits small s next list after out b is frame t

bounded_grows : (s : SessionData) (list more : List Entry) → Bounded s list → length (list ++ more) ≤ MAX_MEMBERS → Bounded s (list ++ more)
bounded_grows s list more b few = record {
  few = few;
  start = b.start;
  rising = b.rising;
  rising_peer = b.rising_peer;
  met = λ runs id h. elim (or_cases (holds list id) (holds s.waiting id || (holds s.gathered id || has (due s.reading) id)) (b.met runs id h)) [
    | inl held ↦ or_left (holds (list ++ more) id) (holds s.waiting id || (holds s.gathered id || has (due s.reading) id)) (holds_front list more id held)
    | inr rest ↦ or_right (holds (list ++ more) id) (holds s.waiting id || (holds s.gathered id || has (due s.reading) id)) rest
  ];
  asked_few = b.asked_few;
  theirs = b.theirs;
  fresh = b.fresh;
  room = b.room;
  due_few = b.due_few;
  turns = b.turns;
  slow = b.slow;
}

-- whatever comes
pub feeds_bounded : (limits : Limits) (s : SessionData) (list : List Entry) (t : SessionData) (now : List Entry) → limits.updates ≤ MAX_MEMBERS → Bounded s list → Feeds limits s list t now → Bounded t now
feeds_bounded limits s list t now small b (unfed t' now' e f) = rw (e, f) b
feeds_bounded limits s list t now small b (fed u t' was now' frame out before step) =
    steps_bounded limits small u t was now frame out (feeds_bounded limits s list u was small b before) u.ended refl step
feeds_bounded limits s list t now small b (grown t' was more before few) = bounded_grows t was more (feeds_bounded limits s list t was small b before) few

-- ---- an end at its start

pub start_a : (database node : List ℕ) (old : List UpdateId) (list : List Entry) → length list ≤ MAX_MEMBERS → Bounded (record (begun Initiator database node old list) { turns = 1 }) list
start_a database node old list few = record {
  few = few;
  start = few;
  rising = sorted_none;
  rising_peer = sorted_none;
  met = λ _ id h. absurd cc;
  asked_few = omega arith;
  theirs = λ id h. absurd cc;
  fresh = λ _. refl;
  room = omega arith;
  due_few = omega arith;
  turns = omega arith;
  slow = λ _. omega arith;
}

pub start_b : (database node : List ℕ) (old : List UpdateId) (list : List Entry) → length list ≤ MAX_MEMBERS → Bounded (begun Responder database node old []) list
start_b database node old list few = record {
  few = few;
  start = omega arith;
  rising = sorted_none;
  rising_peer = sorted_none;
  met = λ _ id h. absurd cc;
  asked_few = omega arith;
  theirs = λ id h. absurd cc;
  fresh = λ _. refl;
  room = omega arith;
  due_few = omega arith;
  turns = omega arith;
  slow = λ _. omega arith;
}
