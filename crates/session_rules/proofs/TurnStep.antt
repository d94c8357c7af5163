-- A Turn comes to the end that reads.
use Rattle.std.proofs.Common.{◌≡◌, inl, inr, ℕ, ◌+◌, ◌*◌, ◌≤◌, Bool, true, false, not, ◌&&◌, ◌||◌, cond, if◌then◌else◌, List, [], ◌∷◌, ◌++◌, length, map, Contains, Option, Some, None, refl, sym, ap, subst, ◌∙◌, arith}
use Rattle.std.specs.List.{AllByRecursion}
use Rattle.std.proofs.lemmas.List.{length-map}
use Rattle.update_model.specs.declared.limits.TheConstants.{MAX_MEMBERS}
use Rattle.session_rules.specs.declared.limits.TheConstants.{MAX_ITEMS, MAX_NEEDS}
use Rattle.update_model.specs.declared.update_id.UpdateId.{UpdateId}
use Rattle.update_model.specs.Entry.{Entry, same_id}
use Rattle.update_model.specs.Graph.{has, holds}
use Rattle.update_model.specs.Batch.{Limits, Adds}
use Rattle.session_rules.specs.Commit.{Committed, Added, TooMuch, DiskFault, Commits}
use Rattle.bloom_summary.specs.Bloom.{is_member}
use Rattle.session_rules.specs.Pair.{PairData, swapped, missing, bound}
use Rattle.session_rules.specs.State.{Role, Initiator, Responder, HelloData, TurnData, FrameData, Item, Turn, End, Done, Full, Store, PeerFault, TakenBack, OutOfTurn, Reading, Opening, Burst, Answers, SessionData, OutData}
use Rattle.session_rules.specs.Steps.{is_first, is_empty, heads_in, closing, committed, refused, replied, Steps, Settles, Concludes, Judges, Replies, IsTurn, IsSent, IsBurstFor, turn_fault, takes_turn, due_fault, first_of, late_fault}
use Rattle.session_rules.proofs.Words.{or_cases, or_left, or_right, is_either, and_both, each_append, each_weaker, find_none}
use Rattle.session_rules.proofs.Held.{Within, holds_append}
use Rattle.session_rules.proofs.Sends.{burst_within, burst_few, answers_ids, answers_within}
use Rattle.session_rules.proofs.Ends.{Knows, KnowsEnd, Knows-grows, Knows-turn, Asks, asks, asks_some, Adds-closed, Adds-within, Adds-settles, left}
use Rattle.session_rules.proofs.Phases.{Expects, is_settled, Reads, is_fine, Over, Goes, turns_round, ends}
use Rattle.session_rules.proofs.ItemStep.{takes_from, goes_on, stepped, stepped_same, began_turns}

-- ---- no fault before the commit

no_turn_fault : (role : Role) (r : Reading) (turn : TurnData) (got : Bool) → Expects r [] → (is_first role r ≡ true → turn.needs ≡ []) → (got && not turn.have) ≡ false
    → (if takes_turn role r turn.needs then first_of (due_fault r) (if got && not turn.have then Some TakenBack else None) else Some OutOfTurn) ≡ None
no_turn_fault role Opening turn got x first stays = absurd x
no_turn_fault Initiator Burst turn got x first stays = let none = first refl in rw (none, stays) refl
no_turn_fault Responder Burst turn got x first stays = rw stays
no_turn_fault Initiator (Answers []) turn got x first stays = rw stays
no_turn_fault Responder (Answers []) turn got x first stays = rw stays
no_turn_fault role (Answers (id ∷ ids)) turn got x first stays = absurd cc

-- ---- none after it

no_late_fault : (s : SessionData) (turn own : TurnData)
    → (not (is_first s.role s.reading) && (not turn.have && is_empty turn.needs)) ≡ false → (not own.have && is_empty own.needs) ≡ false
    → AllByRecursion (λ id. holds s.start id ≡ true) turn.needs → AllByRecursion (λ id. has s.peer_asked id ≡ false) turn.needs
    → late_fault s turn own ≡ None
no_late_fault s turn own lively some known anew =
    let all_known = find_none (λ id. not (holds s.start id)) turn.needs (each_weaker (λ id. holds s.start id ≡ true) (λ id. not (holds s.start id) ≡ false) (λ id h. ap not h) turn.needs known) in
    let all_new = find_none (has s.peer_asked) turn.needs anew in
    rw (lively, some, all_known, all_new) refl

-- ---- the next turn

pub first_answers : (role : Role) (ids : List UpdateId) → is_first role (Answers ids) ≡ false
first_answers Initiator ids = refl
first_answers Responder ids = refl

pub has_ids : (es : List Entry) (id : UpdateId) → has (map (λ e. e.id) es) id ≡ holds es id
has_ids [] id = refl
has_ids (e ∷ es) id = ap (λ b. same_id id e.id || b) (has_ids es id)

burst_for_within : (start : List Entry) (peer : Option HelloData) (send : List Entry) → IsBurstFor start peer send → Within start send
burst_for_within start None send is = rw is tt
burst_for_within start (Some hello) send b = burst_within start hello.old (is_member hello.filter) send b

burst_for_few : (start : List Entry) (peer : Option HelloData) (send : List Entry) → IsBurstFor start peer send → length start ≤ MAX_MEMBERS → length send ≤ MAX_MEMBERS
burst_for_few start None send is few = rw is (omega arith)
burst_for_few start (Some hello) send b few = let short = burst_few start hello.old (is_member hello.filter) send b in omega arith

-- What is sent is of the start set, not too much, and what the other end expects.
pub record IsFit (start : List Entry) (reading : Reading) (needs : List UpdateId) (send : List Entry) : Type 0 where
  pub within : Within start send
  pub short : length send ≤ MAX_ITEMS
  pub expects : Expects reading send
  pub has_all : (id : UpdateId) → has needs id ≡ true → holds send id ≡ true

is_fit : (first : Bool) (s : SessionData) (turn : TurnData) (send : List Entry) (reading : Reading) → IsSent first s turn send → reading ≡ cond first Burst (Answers turn.needs)
    → (first ≡ true → turn.needs ≡ []) → AllByRecursion (λ id. holds s.start id ≡ true) turn.needs → length s.start ≤ MAX_MEMBERS → length turn.needs ≤ MAX_NEEDS
    → IsFit s.start reading turn.needs send
is_fit true s turn send reading sent is none known few short = record {
  within = burst_for_within s.start s.peer send sent;
  short = burst_for_few s.start s.peer send sent few;
  expects = rw is tt;
  has_all = λ id h. absurd (let never : has [] id ≡ true = subst (λ (ids : List UpdateId). has ids id ≡ true) (none refl) h in cc);
}
is_fit false s turn send reading sent is none known few short =
    let same = answers_ids s.start turn.needs known in
    let same_send : map (λ e. e.id) send ≡ turn.needs = ap (map (λ e. e.id)) sent ∙ same in
    let long = sym (length-map send (λ (e : Entry). e.id)) ∙ ap length same_send in
    record {
      within = rw sent (answers_within s.start turn.needs known);
      short = omega arith;
      expects = rw is (sym same_send);
      has_all = λ id h. sym (has_ids send id) ∙ (ap (λ ids. has ids id) same_send ∙ h);
    }

-- the bound, where not both have all
next_low : (x y : Bool) (last turns_b m n m_left n_left : ℕ) → (x && y) ≡ false → turns_b ≡ last + 1
    → (x ≡ false → last + 2 * m_left ≤ 2 * m + 2) → (y ≡ false → turns_b + 2 * n_left ≤ 2 * n + 2) → turns_b + 1 ≤ bound m n
next_low true y last turns_b m n m_left n_left not_both is one two = let low = two not_both in omega arith
next_low false y last turns_b m n m_left n_left not_both is one two = let low = one refl in omega arith

-- ---- the step

and_turned : (a b : Bool) → (a && b) ≡ false → (b && a) ≡ false
and_turned true true h = h
and_turned true false h = refl
and_turned false true h = refl
and_turned false false h = refl

-- what was asked for before, after the commit
pub settled_turn : (before gathered waiting added waits : List Entry) (id : UpdateId) → Adds before (waiting ++ gathered) added waits
    → is_settled before waiting gathered [] id ≡ true → (holds (before ++ added) id || holds waits id) ≡ true
settled_turn before gathered waiting added waits id a h = Adds-settles before (waiting ++ gathered) added waits id a (elim (or_cases (holds before id) (holds waiting id || (holds gathered id || false)) h) [
  | inl held ↦ or_left (holds before id) (holds (waiting ++ gathered) id) held
  | inr rest ↦ or_right (holds before id) (holds (waiting ++ gathered) id) (holds_append waiting gathered id ∙ (elim (or_cases (holds waiting id) (holds gathered id || false) rest) [
    | inl waits ↦ or_left (holds waiting id) (holds gathered id) waits
    | inr last ↦ or_right (holds waiting id) (holds gathered id) (elim (or_cases (holds gathered id) false last) [
      | inl there ↦ there
      | inr never ↦ absurd cc
    ])
  ]))
])

module _ (limits : Limits) (p : PairData) (r : Reads p) (none : r.items ≡ []) (added waits : List Entry) (own : TurnData)
    (a : Adds p.list_a (p.a.waiting ++ p.a.gathered) added waits) (is_turn : IsTurn p.a (p.list_a ++ added) waits own) where
  -- the end after the commit
  grown : KnowsEnd p.a r.last (p.list_a ++ added) p.b.start
  grown = Knows-grows p.a.start (heads_in p.a.peer) p.a.asked p.a.sent_have r.last p.list_a p.b.start added r.knows (Adds-closed p.list_a (p.a.waiting ++ p.a.gathered) added waits r.knows.closed a)

  waits_within : Within p.b.start waits
  waits_within = Adds-within p.b.start p.list_a (p.a.waiting ++ p.a.gathered) added waits (each_append (Contains p.b.start) p.a.waiting p.a.gathered r.waiting r.gathered) a

  has_come : (id : UpdateId) → has p.a.asked id ≡ true → (holds (p.list_a ++ added) id || holds waits id) ≡ true
  has_come id h = settled_turn p.list_a p.a.gathered p.a.waiting added waits id a (subst (λ (xs : List Entry). is_settled p.list_a p.a.waiting p.a.gathered xs id ≡ true) none (r.answered id h))

  own_asks : Asks p.a.start p.b.start p.a.asked own.needs
  own_asks = asks p.a.start (heads_in p.a.peer) p.a.asked p.a.sent_have r.last (p.list_a ++ added) p.b.start waits grown waits_within own.have own.needs is_turn.needs

  own_some : (not own.have && is_empty own.needs) ≡ false
  own_some = asks_some p.a.start (heads_in p.a.peer) p.a.asked p.a.sent_have r.last (p.list_a ++ added) p.b.start waits grown waits_within own.have own.needs is_turn.have is_turn.needs a.stuck has_come

  pub not_late : late_fault p.a r.turn own ≡ None
  not_late = no_late_fault p.a r.turn own r.lively own_some r.known r.anew

  keeps_have : p.a.sent_have ≡ true → own.have ≡ true
  keeps_have was = is_turn.have ∙ grown.kept was

  -- both ends have said that they have all
  pub done_over : (p.a.sent_have && r.turn.have) ≡ true → Over (stepped p (record (committed p.a r.turn added waits) { ended = Some Done }) (p.list_a ++ added) [] (closing Done))
  done_over both = record {
    back = ap (λ (fs : List FrameData). fs ++ []) r.back;
    ending = Done;
    ended = refl;
    fine = refl;
    last = r.last;
    last_b = p.b.turns;
    knows = grown;
    knows_b = r.knows_b;
    done = λ _. (and_both p.a.sent_have r.turn.have both).0;
    both = λ _. b_done;
    ended_b = r.ended_b;
    low = turns_low;
    low_b = r.low;
  }
    where
      b_done : p.b.ended ≡ Some Done
      b_done = let parts = and_both p.a.sent_have r.turn.have both in r.ended_b ∙ rw (r.sent, r.got, parts.0, parts.1) refl

      turns_low : p.a.turns + cond p.a.began 0 1 ≤ bound (length (missing p.a.start p.b.start)) (length (missing p.b.start p.a.start))
      turns_low = let now = began_turns p.a.began p.a.turns r.last r.turns_a in let turns = r.turns in let low = r.low in omega arith

  module _ (send : List Entry) (asked peer_asked : List UpdateId) (not_both : (p.a.sent_have && r.turn.have) ≡ false) (sent : IsSent (is_first p.a.role p.a.reading) (committed p.a r.turn added waits) r.turn send)
      (joins : (id : UpdateId) → has asked id ≡ (has p.a.asked id || has own.needs id)) (joins_peer : (id : UpdateId) → has peer_asked id ≡ (has p.a.peer_asked id || has r.turn.needs id)) where
    fit : IsFit p.a.start p.b.reading r.turn.needs send
    fit = is_fit (is_first p.a.role p.a.reading) (committed p.a r.turn added waits) r.turn send p.b.reading sent r.reading_b r.first r.known r.knows.few r.few

    own_turns : p.a.turns + cond p.a.began 0 1 + 1 ≡ p.b.turns + 1
    own_turns = let now = began_turns p.a.began p.a.turns r.last r.turns_a in let turns = r.turns in omega arith

    own_sent : p.a.turns + cond p.a.began 0 1 + 1 ≡ r.last + 2
    own_sent = let now = began_turns p.a.began p.a.turns r.last r.turns_a in omega arith

    b_running : p.b.ended ≡ None
    b_running = r.ended_b ∙ ap (λ b. if b then Some Done else None) (subst (λ b. (b && p.b.got_have) ≡ false) (sym r.sent) (subst (λ b. (r.turn.have && b) ≡ false) (sym r.got) (and_turned p.a.sent_have r.turn.have not_both)))

    pub turned : Reads (swapped (stepped p (replied (committed p.a r.turn added waits) r.turn own asked peer_asked) (p.list_a ++ added) []
        (record { hello = None; send = send; turn = Some own; end = if own.have && r.turn.have then Some Done else None })))
    turned = record {
      items = send;
      turn = own;
      way = ap (λ (fs : List FrameData). fs ++ (map Item send ++ Turn own ∷ [])) r.back;
      back = refl;
      last = p.b.turns;
      running = b_running;
      knows = r.knows_b;
      waiting = r.waiting_b;
      gathered = rw r.gathered_b tt;
      coming = fit.within;
      expects = fit.expects;
      room = room;
      answered = come_b;
      first = λ h. absurd (let no_first = r.second in cc);
      stays = stays;
      lively = ap (λ b. not b && (not own.have && is_empty own.needs)) r.second ∙ own_some;
      known = own_asks.theirs;
      anew = each_weaker (λ id. has p.a.asked id ≡ false) (λ id. has p.b.peer_asked id ≡ false) (λ id h. sym (r.asked_a id) ∙ h) own.needs own_asks.anew;
      few = own_asks.few;
      knows_b = subst (λ (n : ℕ). Knows p.a.start (heads_in p.a.peer) asked own.have n (p.list_a ++ added) p.b.start) (sym own_sent)
          (Knows-turn p.a.start (heads_in p.a.peer) p.a.asked own.needs asked p.a.sent_have own.have r.last (p.list_a ++ added) p.b.start grown own_asks joins is_turn.have own_some);
      waiting_b = waits_within;
      gathered_b = refl;
      began_b = refl;
      items_b = refl;
      reading_b = sym (ap (λ b. cond b Burst (Answers own.needs)) r.second);
      second = first_answers p.a.role own.needs;
      answered_b = come_a;
      ended_b = refl;
      sent = refl;
      got = sym r.sent;
      asked_b = λ id. joins id ∙ ap (λ b. b || has own.needs id) (r.asked_a id);
      asked_a = λ id. r.asked_b id ∙ sym (joins_peer id);
      turns = own_turns;
      turns_a = let began = r.began_b in rw began (omega arith);
      low = let now = own_turns in
          let next = next_low p.a.sent_have r.turn.have r.last p.b.turns (length (missing p.a.start p.b.start)) (length (missing p.b.start p.a.start))
          (length (left p.a.start p.b.start p.a.asked)) (length (left p.b.start p.a.start p.b.asked)) not_both r.turns r.knows.slow (λ h. r.knows_b.slow (r.sent ∙ h)) in
          omega arith;
    }
      where
        room : p.b.items + length send ≤ MAX_ITEMS
        room = let zero_items = r.items_b in let short = fit.short in omega arith

        stays : (p.b.got_have && not own.have) ≡ false
        stays = elim (is_either p.a.sent_have) [
          | inl was ↦ let now = keeps_have was in ap (λ b. p.b.got_have && not b) now ∙ and_turned false p.b.got_have refl
          | inr was_not ↦ let got : p.b.got_have ≡ false = r.got ∙ was_not in ap (λ b. b && not own.have) got
        ]

        come_b : (id : UpdateId) → has p.b.asked id ≡ true → is_settled p.list_b p.b.waiting p.b.gathered send id ≡ true
        come_b id h = elim (or_cases (holds p.list_b id) (holds p.b.waiting id || has r.turn.needs id) (r.answered_b id h)) [
          | inl held ↦ or_left (holds p.list_b id) (holds p.b.waiting id || (holds p.b.gathered id || holds send id)) held
          | inr rest ↦ or_right (holds p.list_b id) (holds p.b.waiting id || (holds p.b.gathered id || holds send id)) (elim (or_cases (holds p.b.waiting id) (has r.turn.needs id) rest) [
            | inl waits ↦ or_left (holds p.b.waiting id) (holds p.b.gathered id || holds send id) waits
            | inr asked ↦ or_right (holds p.b.waiting id) (holds p.b.gathered id || holds send id) (or_right (holds p.b.gathered id) (holds send id) (fit.has_all id asked))
          ])
        ]

        come_a : (id : UpdateId) → has asked id ≡ true → (holds (p.list_a ++ added) id || (holds waits id || has own.needs id)) ≡ true
        come_a id h = elim (or_cases (has p.a.asked id) (has own.needs id) (sym (joins id) ∙ h)) [
          | inl was ↦ elim (or_cases (holds (p.list_a ++ added) id) (holds waits id) (has_come id was)) [
            | inl held ↦ or_left (holds (p.list_a ++ added) id) (holds waits id || has own.needs id) held
            | inr waiting ↦ or_right (holds (p.list_a ++ added) id) (holds waits id || has own.needs id) (or_left (holds waits id) (has own.needs id) waiting)
          ]
          | inr new ↦ or_right (holds (p.list_a ++ added) id) (holds waits id || has own.needs id) (or_right (holds waits id) (has own.needs id) new)
        ]

module _ (limits : Limits) (p : PairData) (r : Reads p) (none : r.items ≡ []) where
  stopped : (ending : End) → is_fine ending ≡ true → (ending ≡ Done → ⊥) → Over (stepped p (refused p.a ending) p.list_a [] (closing ending))
  stopped ending fine not_done = record {
    back = ap (λ (fs : List FrameData). fs ++ []) r.back;
    ending = ending;
    ended = refl;
    fine = fine;
    last = r.last;
    last_b = p.b.turns;
    knows = r.knows;
    knows_b = r.knows_b;
    done = λ h. absurd (not_done h);
    both = λ h. absurd (not_done h);
    ended_b = r.ended_b;
    low = let now = began_turns p.a.began p.a.turns r.last r.turns_a in let turns = r.turns in let low = r.low in omega arith;
    low_b = r.low;
  }

  pub turn_step : (next : SessionData) (out : OutData) (after : List Entry) → Steps limits p.a p.list_a (Turn r.turn) next out after → Goes (stepped p next after [] out)
  turn_step next out after step =
      let takes = takes_from limits p.a p.list_a (Turn r.turn) next out after r.running step in
      let no_fault = no_turn_fault p.a.role p.a.reading r.turn p.a.got_have (subst (Expects p.a.reading) none r.expects) r.first r.stays in
      let settles = goes_on (turn_fault p.a r.turn) p.a p.list_a next out after (Settles limits p.a p.list_a r.turn next out after) no_fault takes in
      by_answer settles.0 settles.1 settles.2
    where
      by_have : (added waits : List Entry) (own : TurnData) (a : Adds p.list_a (p.a.waiting ++ p.a.gathered) added waits) (is_turn : IsTurn p.a (p.list_a ++ added) waits own)
          → after ≡ p.list_a ++ added → (both : Bool) → (p.a.sent_have && r.turn.have) ≡ both
          → Replies both (is_first p.a.role p.a.reading) (committed p.a r.turn added waits) r.turn own next out → Goes (stepped p next after [] out)
      by_have added waits own a is_turn grows true is rep = subst Goes (stepped_same p next _ after _ [] out _ rep.0 grows rep.1) (ends (done_over limits p r none added waits own a is_turn is))
      by_have added waits own a is_turn grows false is rep =
          subst Goes (stepped_same p next _ after _ [] out _ rep.7 grows rep.6) (turns_round (turned limits p r none added waits own a is_turn rep.0 rep.1 rep.2 is rep.3 rep.4.exact rep.5.exact))

      by_answer : (answer : Committed) → Commits limits p.list_a (p.a.waiting ++ p.a.gathered) answer after → Concludes answer p.a r.turn after next out → Goes (stepped p next after [] out)
      by_answer (Added added waits) c g =
          let is_turn = subst (λ (l : List Entry). IsTurn p.a l waits g.0) c.2 g.1 in
          let judged = subst (λ (f : Option PeerFault). Judges f p.a (committed p.a r.turn added waits) r.turn g.0 next out) (not_late limits p r none added waits g.0 c.0 is_turn) g.2 in
          by_have added waits g.0 c.0 is_turn c.2 (p.a.sent_have && r.turn.have) refl judged
      by_answer TooMuch c g = subst Goes (stepped_same p next _ after _ [] out _ g.0 c.1 g.1) (ends (stopped Full refl (λ h. cc)))
      by_answer DiskFault c g = subst Goes (stepped_same p next _ after _ [] out _ g.0 c g.1) (ends (stopped Store refl (λ h. cc)))
