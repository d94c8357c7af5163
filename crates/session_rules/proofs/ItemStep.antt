-- An update comes to the end that reads.
use Rattle.std.proofs.Common.{◌≡◌, inl, inr, ℕ, suc, ◌+◌, ◌≤◌, Bool, true, false, not, ◌&&◌, ◌||◌, cond, if◌then◌else◌, List, [], ◌∷◌, ◌++◌, length, map, Contains, Option, Some, None, refl, sym, ap, subst, ◌∙◌, arith, lt-ltb}
use Rattle.session_rules.specs.declared.limits.TheConstants.{MAX_ITEMS}
use Rattle.update_model.specs.declared.update_id.UpdateId.{UpdateId}
use Rattle.update_model.specs.Entry.{Entry, same_id}
use Rattle.update_model.specs.Graph.{holds, is_within}
use Rattle.update_model.proofs.Ids.{id_from_same, same_id-refl}
use Rattle.update_model.specs.Batch.{Limits}
use Rattle.session_rules.specs.Pair.{PairData, frames_of}
use Rattle.session_rules.specs.State.{Role, Initiator, Responder, FrameData, Item, Turn, End, Full, PeerFault, OutOfTurn, Reading, Opening, Burst, Answers, SessionData, OutData}
use Rattle.session_rules.specs.Steps.{is_first, is_empty, counted, silent, closing, Steps, StepsBy, Takes, Unless, Gathers, gathers, in_burst, after_item, item_fault, takes_item, answer_fault}
use Rattle.session_rules.proofs.Words.{or_cases, or_left, or_right, and_both, each_append}
use Rattle.session_rules.proofs.Held.{Within, holds_front, holds_back}
use Rattle.session_rules.proofs.Phases.{Expects, is_settled, Reads, Over, Goes, reads_on, ends}

-- a frame to an end that has not ended
pub takes_from : (limits : Limits) (s : SessionData) (before : List Entry) (frame : FrameData) (next : SessionData) (out : OutData) (after : List Entry)
    → s.ended ≡ None → Steps limits s before frame next out after → Takes limits s before frame next out after
takes_from limits s before frame next out after running step = subst (λ (o : Option End). StepsBy o limits s before frame next out after) running step

-- without a fault the session goes on
pub goes_on : (fault : Option PeerFault) (s : SessionData) (before : List Entry) (next : SessionData) (out : OutData) (after : List Entry) (G : Type 0)
    → fault ≡ None → Unless fault s before next out after G → G
goes_on fault s before next out after G none u = subst (λ (f : Option PeerFault). Unless f s before next out after G) none u

-- the pair after a step of the first end
abbrev pub stepped : PairData → SessionData → List Entry → List FrameData → OutData → PairData
stepped p next after rest out = record { a = next; list_a = after; b = p.b; list_b = p.list_b; to_a = rest; to_b = p.to_b ++ frames_of out }

pub stepped_same : (p : PairData) (next n : SessionData) (after l : List Entry) (rest : List FrameData) (out o : OutData) → next ≡ n → after ≡ l → out ≡ o
    → stepped p n l rest o ≡ stepped p next after rest out
stepped_same p next n after l rest out o e f g = cc

no_item_fault : (r : Reading) (n : ℕ) (e : Entry) (es : List Entry) → Expects r (e ∷ es) → n + suc (length es) ≤ MAX_ITEMS
    → (if takes_item r n then answer_fault r e.id else Some OutOfTurn) ≡ None
no_item_fault Opening n e es x room = absurd x
no_item_fault Burst n e es x room = rw (lt-ltb n MAX_ITEMS (omega arith))
no_item_fault (Answers []) n e es x room = absurd cc
no_item_fault (Answers (id ∷ ids)) n e es x room =
    let is : id ≡ e.id = cc in
    let same : same_id id e.id ≡ true = subst (λ (i : UpdateId). same_id id i ≡ true) is (same_id-refl id) in
    rw (lt-ltb n MAX_ITEMS (omega arith), same)

expects_rest : (r : Reading) (e : Entry) (es : List Entry) → Expects r (e ∷ es) → Expects (after_item r) es
expects_rest Opening e es x = x
expects_rest Burst e es x = tt
expects_rest (Answers []) e es x = absurd cc
expects_rest (Answers (id ∷ ids)) e es x = cc

first_after : (role : Role) (r : Reading) → is_first role (after_item r) ≡ is_first role r
first_after Initiator Opening = refl
first_after Initiator Burst = refl
first_after Initiator (Answers []) = refl
first_after Initiator (Answers (id ∷ ids)) = refl
first_after Responder r = refl

gathers_within : (set gathered : List Entry) (e : Entry) (b : Bool) → Within set gathered → Contains set e → Within set (if b then gathered else gathered ++ e ∷ [])
gathers_within set gathered e true all c = all
gathers_within set gathered e false all c = each_append (Contains set) gathered (e ∷ []) all (c, tt)

-- an update that comes is gathered, or was there already
pub holds_gathered : (waiting gathered : List Entry) (e : Entry) (burst : Bool) → (holds waiting e.id || holds (if burst && (holds gathered e.id || holds waiting e.id) then gathered else gathered ++ e ∷ []) e.id) ≡ true
holds_gathered waiting gathered e burst = by_test (burst && (holds gathered e.id || holds waiting e.id)) refl
  where
    own : holds (gathered ++ e ∷ []) e.id ≡ true
    own = holds_back gathered (e ∷ []) e.id (or_left (same_id e.id e.id) false (same_id-refl e.id))

    by_test : (b : Bool) → (burst && (holds gathered e.id || holds waiting e.id)) ≡ b → (holds waiting e.id || holds (if b then gathered else gathered ++ e ∷ []) e.id) ≡ true
    by_test true is = elim (or_cases (holds gathered e.id) (holds waiting e.id) (and_both burst (holds gathered e.id || holds waiting e.id) is).1) [
      | inl early ↦ or_right (holds waiting e.id) (holds gathered e.id) early
      | inr waits ↦ or_left (holds waiting e.id) (holds gathered e.id) waits
    ]
    by_test false is = or_right (holds waiting e.id) (holds (gathered ++ e ∷ []) e.id) own

pub holds_more : (gathered : List Entry) (e : Entry) (b : Bool) (id : UpdateId) → holds gathered id ≡ true → holds (if b then gathered else gathered ++ e ∷ []) id ≡ true
holds_more gathered e true id h = h
holds_more gathered e false id h = holds_front gathered (e ∷ []) id h

settled_item : (list : List Entry) (s : SessionData) (e : Entry) (es : List Entry) (id : UpdateId) → is_settled list s.waiting s.gathered (e ∷ es) id ≡ true
    → is_settled list s.waiting (gathers s e) es id ≡ true
settled_item list s e es id h = elim (or_cases (holds list id) (holds s.waiting id || (holds s.gathered id || holds (e ∷ es) id)) h) [
  | inl held ↦ or_left (holds list id) (holds s.waiting id || (holds (gathers s e) id || holds es id)) held
  | inr rest ↦ or_right (holds list id) (holds s.waiting id || (holds (gathers s e) id || holds es id)) (elim (or_cases (holds s.waiting id) (holds s.gathered id || holds (e ∷ es) id) rest) [
    | inl waits ↦ or_left (holds s.waiting id) (holds (gathers s e) id || holds es id) waits
    | inr rest ↦ elim (or_cases (holds s.gathered id) (holds (e ∷ es) id) rest) [
      | inl there ↦ or_right (holds s.waiting id) (holds (gathers s e) id || holds es id) (or_left (holds (gathers s e) id) (holds es id) (holds_more s.gathered e (in_burst s.reading && (holds s.gathered e.id || holds s.waiting e.id)) id there))
      | inr rest ↦ elim (or_cases (same_id id e.id) (holds es id) rest) [
        | inl is ↦ subst (λ (i : UpdateId). (holds s.waiting i || (holds (gathers s e) i || holds es i)) ≡ true) (sym (id_from_same id e.id is))
            (elim (or_cases (holds s.waiting e.id) (holds (gathers s e) e.id) (holds_gathered s.waiting s.gathered e (in_burst s.reading))) [
              | inl waits ↦ or_left (holds s.waiting e.id) (holds (gathers s e) e.id || holds es e.id) waits
              | inr now ↦ or_right (holds s.waiting e.id) (holds (gathers s e) e.id || holds es e.id) (or_left (holds (gathers s e) e.id) (holds es e.id) now)
            ])
        | inr later ↦ or_right (holds s.waiting id) (holds (gathers s e) id || holds es id) (or_right (holds (gathers s e) id) (holds es id) later)
      ]
    ]
  ])
]

pub began_turns : (began : Bool) (turns last : ℕ) → turns ≡ last + cond began 1 0 → turns + cond began 0 1 ≡ last + 1
began_turns true turns last e = omega arith
began_turns false turns last e = omega arith

pub turns_below : (began : Bool) (turns last turns_b : ℕ) {n : ℕ} → turns ≡ last + cond began 1 0 → turns_b ≡ last + 1 → turns_b ≤ n → turns ≤ n
turns_below true turns last turns_b e f low = omega arith
turns_below false turns last turns_b e f low = omega arith

module _ (limits : Limits) (p : PairData) (r : Reads p) (e : Entry) (es : List Entry) (is : r.items ≡ e ∷ es) where
  gathered_on : Reads (stepped p (record (counted p.a) { items = p.a.items + 1; reading = after_item p.a.reading; gathered = gathers p.a e }) p.list_a (map Item es ++ Turn r.turn ∷ []) silent)
  gathered_on =
      let coming = subst (Within p.b.start) is r.coming in
      let long : length r.items ≡ suc (length es) = ap length is in
      let room = r.room in
      let same = first_after p.a.role p.a.reading in
      record {
        items = es;
        turn = r.turn;
        way = refl;
        back = ap (λ (fs : List FrameData). fs ++ []) r.back;
        last = r.last;
        running = r.running;
        knows = r.knows;
        waiting = r.waiting;
        gathered = gathers_within p.b.start p.a.gathered e (in_burst p.a.reading && (holds p.a.gathered e.id || holds p.a.waiting e.id)) r.gathered coming.0;
        coming = coming.1;
        expects = expects_rest p.a.reading e es (subst (Expects p.a.reading) is r.expects);
        room = omega arith;
        answered = λ id h. settled_item p.list_a p.a e es id (subst (λ (xs : List Entry). is_settled p.list_a p.a.waiting p.a.gathered xs id ≡ true) is (r.answered id h));
        first = λ h. r.first (sym same ∙ h);
        stays = r.stays;
        lively = ap (λ b. not b && (not r.turn.have && is_empty r.turn.needs)) same ∙ r.lively;
        known = r.known;
        anew = r.anew;
        few = r.few;
        knows_b = r.knows_b;
        waiting_b = r.waiting_b;
        gathered_b = r.gathered_b;
        began_b = r.began_b;
        items_b = r.items_b;
        reading_b = r.reading_b ∙ ap (λ b. cond b Burst (Answers r.turn.needs)) (sym same);
        second = r.second;
        answered_b = r.answered_b;
        ended_b = r.ended_b;
        sent = r.sent;
        got = r.got;
        asked_b = r.asked_b;
        asked_a = r.asked_a;
        turns = r.turns;
        turns_a = began_turns p.a.began p.a.turns r.last r.turns_a;
        low = r.low;
      }

  ended_over : (rest : List FrameData) → Over (stepped p (record p.a { ended = Some Full }) p.list_a rest (closing Full))
  ended_over rest = record {
    back = ap (λ (fs : List FrameData). fs ++ []) r.back;
    ending = Full;
    ended = refl;
    fine = refl;
    last = r.last;
    last_b = p.b.turns;
    knows = r.knows;
    knows_b = r.knows_b;
    done = λ h. absurd cc;
    both = λ h. absurd cc;
    ended_b = r.ended_b;
    low = turns_below p.a.began p.a.turns r.last p.b.turns r.turns_a r.turns r.low;
    low_b = r.low;
  }

  pub item_step : (next : SessionData) (out : OutData) (after : List Entry) → Steps limits p.a p.list_a (Item e) next out after → Goes (stepped p next after (map Item es ++ Turn r.turn ∷ []) out)
  item_step next out after step =
      let long : length r.items ≡ suc (length es) = ap length is in
      let room = r.room in
      let takes = takes_from limits p.a p.list_a (Item e) next out after r.running step in
      let none = no_item_fault p.a.reading p.a.items e es (subst (Expects p.a.reading) is r.expects) (omega arith) in
      by_room (is_within (p.a.waiting ++ gathers p.a e)) (goes_on (item_fault p.a e) p.a p.list_a next out after (Gathers (is_within (p.a.waiting ++ gathers p.a e)) p.a p.list_a e next out after) none takes)
    where
      by_room : (fits : Bool) → Gathers fits p.a p.list_a e next out after → Goes (stepped p next after (map Item es ++ Turn r.turn ∷ []) out)
      by_room true g = subst Goes (stepped_same p next _ after _ (map Item es ++ Turn r.turn ∷ []) out _ g.0 g.2 g.1) (reads_on gathered_on)
      by_room false g = subst Goes (stepped_same p next _ after _ (map Item es ++ Turn r.turn ∷ []) out _ g.0 g.2 g.1) (ends (ended_over (map Item es ++ Turn r.turn ∷ [])))
