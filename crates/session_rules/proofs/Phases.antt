-- The invariant over both ends and both pipes.
use Rattle.std.proofs.Common.{◌≡◌, inl, inr, ℕ, ◌+◌, ◌≤◌, Bool, true, false, not, ◌&&◌, ◌||◌, cond, if◌then◌else◌, List, [], ◌∷◌, ◌++◌, length, map, Some, None}
use Rattle.std.specs.List.{AllByRecursion}
use Rattle.session_rules.specs.declared.limits.TheConstants.{MAX_ITEMS, MAX_NEEDS}
use Rattle.update_model.specs.declared.update_id.UpdateId.{UpdateId}
use Rattle.update_model.specs.Entry.{Entry}
use Rattle.update_model.specs.Graph.{has, holds, IsClosed}
use Rattle.session_rules.specs.Pair.{PairData, swapped, missing, bound}
use Rattle.session_rules.specs.State.{TurnData, Item, Turn, End, Done, Peer, Full, Store, Reading, Opening, Burst, Answers}
use Rattle.session_rules.specs.Steps.{is_first, is_empty, heads_in}
use Rattle.session_rules.proofs.Words.{or_cases, or_left, or_right}
use Rattle.session_rules.proofs.Held.{Within, holds_front}
use Rattle.session_rules.proofs.Ends.{KnowsEnd, Knows-grows}

-- the updates that still come fit what may come
abbrev pub Expects : Reading → List Entry → Type 0
Expects Opening items = ⊥
Expects Burst items = Unit {0}
Expects (Answers ids) items = ids ≡ map (λ e. e.id) items

-- held, waiting, gathered or on its way
abbrev pub is_settled : List Entry → List Entry → List Entry → List Entry → UpdateId → Bool
is_settled list waiting gathered items id = holds list id || (holds waiting id || (holds gathered id || holds items id))

abbrev pub is_fine : End → Bool
is_fine Done = true
is_fine (Peer fault) = false
is_fine Full = true
is_fine Store = true

-- The first end reads a turn of which these updates and this Turn are still on their way; the other end waits.
pub record Reads (p : PairData) : Type 0 where
  pub items : List Entry
  pub turn : TurnData
  pub way : p.to_a ≡ map Item items ++ Turn turn ∷ []
  pub back : p.to_b ≡ []
  -- the end that reads; `last` is how many turns there were once its last one was sent
  pub last : ℕ
  pub running : p.a.ended ≡ None
  pub knows : KnowsEnd p.a last p.list_a p.b.start
  pub waiting : Within p.b.start p.a.waiting
  pub gathered : Within p.b.start p.a.gathered
  pub coming : Within p.b.start items
  pub expects : Expects p.a.reading items
  pub room : p.a.items + length items ≤ MAX_ITEMS
  -- what was asked for has come, or is on its way
  pub answered : (id : UpdateId) → has p.a.asked id ≡ true → is_settled p.list_a p.a.waiting p.a.gathered items id ≡ true
  -- the Turn on its way shows no fault
  pub first : is_first p.a.role p.a.reading ≡ true → turn.needs ≡ []
  pub stays : (p.a.got_have && not turn.have) ≡ false
  pub lively : (not (is_first p.a.role p.a.reading) && (not turn.have && is_empty turn.needs)) ≡ false
  pub known : AllByRecursion (λ id. holds p.a.start id ≡ true) turn.needs
  pub anew : AllByRecursion (λ id. has p.a.peer_asked id ≡ false) turn.needs
  pub few : length turn.needs ≤ MAX_NEEDS
  -- the end that waits
  pub knows_b : KnowsEnd p.b p.b.turns p.list_b p.a.start
  pub waiting_b : Within p.a.start p.b.waiting
  pub gathered_b : p.b.gathered ≡ []
  pub began_b : p.b.began ≡ false
  pub items_b : p.b.items ≡ 0
  pub reading_b : p.b.reading ≡ cond (is_first p.a.role p.a.reading) Burst (Answers turn.needs)
  pub second : is_first p.b.role p.b.reading ≡ false
  pub answered_b : (id : UpdateId) → has p.b.asked id ≡ true → (holds p.list_b id || (holds p.b.waiting id || has turn.needs id)) ≡ true
  pub ended_b : p.b.ended ≡ (if p.b.sent_have && p.b.got_have then Some Done else None)
  -- between the two
  pub sent : p.b.sent_have ≡ turn.have
  pub got : p.b.got_have ≡ p.a.sent_have
  pub asked_b : (id : UpdateId) → has p.b.asked id ≡ (has p.a.peer_asked id || has turn.needs id)
  pub asked_a : (id : UpdateId) → has p.a.asked id ≡ has p.b.peer_asked id
  pub turns : p.b.turns ≡ last + 1
  pub turns_a : p.a.turns ≡ last + cond p.a.began 1 0
  pub low : p.b.turns ≤ bound (length (missing p.a.start p.b.start)) (length (missing p.b.start p.a.start))

-- The first end has ended, and nothing is on its way from it.
pub record Over (p : PairData) : Type 0 where
  pub back : p.to_b ≡ []
  pub ending : End
  pub ended : p.a.ended ≡ Some ending
  pub fine : is_fine ending ≡ true
  pub last : ℕ
  pub last_b : ℕ
  pub knows : KnowsEnd p.a last p.list_a p.b.start
  pub knows_b : KnowsEnd p.b last_b p.list_b p.a.start
  pub done : ending ≡ Done → p.a.sent_have ≡ true
  pub both : ending ≡ Done → p.b.ended ≡ Some Done
  pub ended_b : p.b.ended ≡ (if p.b.sent_have && p.b.got_have then Some Done else None)
  pub low : p.a.turns ≤ bound (length (missing p.a.start p.b.start)) (length (missing p.b.start p.a.start))
  pub low_b : p.b.turns ≤ bound (length (missing p.a.start p.b.start)) (length (missing p.b.start p.a.start))

-- what a step of the end that reads leads to
pub data Goes (p : PairData) : Type 0 where
  reads_on : Reads p → Goes p
  turns_round : Reads (swapped p) → Goes p
  ends : Over p → Goes p

-- ---- lists grow

settled_grows : (list new waiting gathered items : List Entry) (id : UpdateId) → is_settled list waiting gathered items id ≡ true → is_settled (list ++ new) waiting gathered items id ≡ true
settled_grows list new waiting gathered items id h = elim (or_cases (holds list id) (holds waiting id || (holds gathered id || holds items id)) h) [
  | inl held ↦ or_left (holds (list ++ new) id) (holds waiting id || (holds gathered id || holds items id)) (holds_front list new id held)
  | inr rest ↦ or_right (holds (list ++ new) id) (holds waiting id || (holds gathered id || holds items id)) rest
]

pub reader_grows : (p : PairData) (new : List Entry) → Reads p → IsClosed (p.list_a ++ new) → Reads (record p { list_a = p.list_a ++ new })
reader_grows p new r closed = record {
  items = r.items;
  turn = r.turn;
  way = r.way;
  back = r.back;
  last = r.last;
  running = r.running;
  knows = Knows-grows p.a.start (heads_in p.a.peer) p.a.asked p.a.sent_have r.last p.list_a p.b.start new r.knows closed;
  waiting = r.waiting;
  gathered = r.gathered;
  coming = r.coming;
  expects = r.expects;
  room = r.room;
  answered = λ id h. settled_grows p.list_a new p.a.waiting p.a.gathered r.items id (r.answered id h);
  first = r.first;
  stays = r.stays;
  lively = r.lively;
  known = r.known;
  anew = r.anew;
  few = r.few;
  knows_b = r.knows_b;
  waiting_b = r.waiting_b;
  gathered_b = r.gathered_b;
  began_b = r.began_b;
  items_b = r.items_b;
  reading_b = r.reading_b;
  second = r.second;
  answered_b = r.answered_b;
  ended_b = r.ended_b;
  sent = r.sent;
  got = r.got;
  asked_b = r.asked_b;
  asked_a = r.asked_a;
  turns = r.turns;
  turns_a = r.turns_a;
  low = r.low;
}

pub waiter_grows : (p : PairData) (new : List Entry) → Reads p → IsClosed (p.list_b ++ new) → Reads (record p { list_b = p.list_b ++ new })
waiter_grows p new r closed = record {
  items = r.items;
  turn = r.turn;
  way = r.way;
  back = r.back;
  last = r.last;
  running = r.running;
  knows = r.knows;
  waiting = r.waiting;
  gathered = r.gathered;
  coming = r.coming;
  expects = r.expects;
  room = r.room;
  answered = r.answered;
  first = r.first;
  stays = r.stays;
  lively = r.lively;
  known = r.known;
  anew = r.anew;
  few = r.few;
  knows_b = Knows-grows p.b.start (heads_in p.b.peer) p.b.asked p.b.sent_have p.b.turns p.list_b p.a.start new r.knows_b closed;
  waiting_b = r.waiting_b;
  gathered_b = r.gathered_b;
  began_b = r.began_b;
  items_b = r.items_b;
  reading_b = r.reading_b;
  second = r.second;
  answered_b = λ id h. elim (or_cases (holds p.list_b id) (holds p.b.waiting id || has r.turn.needs id) (r.answered_b id h)) [
    | inl held ↦ or_left (holds (p.list_b ++ new) id) (holds p.b.waiting id || has r.turn.needs id) (holds_front p.list_b new id held)
    | inr rest ↦ or_right (holds (p.list_b ++ new) id) (holds p.b.waiting id || has r.turn.needs id) rest
  ];
  ended_b = r.ended_b;
  sent = r.sent;
  got = r.got;
  asked_b = r.asked_b;
  asked_a = r.asked_a;
  turns = r.turns;
  turns_a = r.turns_a;
  low = r.low;
}

pub over_grows_a : (p : PairData) (new : List Entry) → Over p → IsClosed (p.list_a ++ new) → Over (record p { list_a = p.list_a ++ new })
over_grows_a p new o closed = record {
  back = o.back;
  ending = o.ending;
  ended = o.ended;
  fine = o.fine;
  last = o.last;
  last_b = o.last_b;
  knows = Knows-grows p.a.start (heads_in p.a.peer) p.a.asked p.a.sent_have o.last p.list_a p.b.start new o.knows closed;
  knows_b = o.knows_b;
  done = o.done;
  both = o.both;
  ended_b = o.ended_b;
  low = o.low;
  low_b = o.low_b;
}

pub over_grows_b : (p : PairData) (new : List Entry) → Over p → IsClosed (p.list_b ++ new) → Over (record p { list_b = p.list_b ++ new })
over_grows_b p new o closed = record {
  back = o.back;
  ending = o.ending;
  ended = o.ended;
  fine = o.fine;
  last = o.last;
  last_b = o.last_b;
  knows = o.knows;
  knows_b = Knows-grows p.b.start (heads_in p.b.peer) p.b.asked p.b.sent_have o.last_b p.list_b p.a.start new o.knows_b closed;
  done = o.done;
  both = o.both;
  ended_b = o.ended_b;
  low = o.low;
  low_b = o.low_b;
}
