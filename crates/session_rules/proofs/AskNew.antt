-- A Turn without `have`, other than the responder's first, asks for something new.
use Rattle.std.proofs.Common.{◌≡◌, inl, inr, Bool, true, false, not, ◌&&◌, ◌||◌, List, [], ◌∷◌, ◌++◌, find, Option, Some, None, refl, sym, ap, subst, ◌∙◌, bytes_eq}
use Rattle.update_model.specs.declared.update_id.UpdateId.{UpdateId}
use Rattle.update_model.specs.Entry.{Entry, same_id}
use Rattle.update_model.specs.Graph.{has, holds, is_within}
use Rattle.update_model.proofs.Ids.{same_id-refl}
use Rattle.update_model.specs.Batch.{Limits}
use Rattle.session_rules.specs.Commit.{Committed, Added, TooMuch, DiskFault}
use Rattle.session_rules.specs.Laws.{AsksNew}
use Rattle.session_rules.specs.State.{TurnData, FrameData, Hello, OtherVersion, Item, BadItem, Turn, NoFrame, End, PeerFault, SessionData, OutData}
use Rattle.session_rules.specs.Steps.{Steps, StepsBy, Takes, Unless, Greets, Gathers, gathers, Settles, Concludes, Judges, Replies, IsTurn, committed, is_first, is_empty, is_wanted, heads_in, late_fault, hello_fault, takes_hello, item_fault, turn_fault, unknown_fault, again_fault}
use Rattle.session_rules.proofs.Words.{or_left}
use Rattle.session_rules.proofs.Ends.{wanted_parts}
use Rattle.session_rules.proofs.Bounds.{needs_pass, late_parts, or_parts, opens_hello}

module _ (limits : Limits) (s : SessionData) (before : List Entry) (next : SessionData) (out : OutData) (after : List Entry) (own : TurnData) (sent : out.turn ≡ Some own) (lacks : own.have ≡ false) where
  quiet : {A : Type 0} → out.turn ≡ None → A
  quiet none = absurd cc

  first_need : (needs : List UpdateId) → is_empty needs ≡ false → ((id : UpdateId) → has needs id ≡ true → has s.asked id ≡ false) → (id : UpdateId) × (has needs id ≡ true) × (has s.asked id ≡ false)
  first_need [] some new = absurd cc
  first_need (id ∷ ids) some new = let there = or_left (same_id id id) (has ids id) (same_id-refl id) in (id, there, new id there)

  replies_new : (turn mine : TurnData) (added waits : List Entry) → IsTurn s after waits mine → (not mine.have && is_empty mine.needs) ≡ false → (both first : Bool)
      → Replies both first (committed s turn added waits) turn mine next out → AsksNew s own
  replies_new turn mine added waits is_turn some true first r = quiet (ap (λ (o : OutData). o.turn) r.1)
  replies_new turn mine added waits is_turn some false first r =
      let is : Some mine ≡ Some own = sym (ap (λ (o : OutData). o.turn) r.6) ∙ sent in
      let same : mine ≡ own = cc in
      let some_own = subst (λ (t : TurnData). (not t.have && is_empty t.needs) ≡ false) same some in
      let nonempty : is_empty own.needs ≡ false = subst (λ h. (not h && is_empty own.needs) ≡ false) lacks some_own in
      let turn_own = subst (λ (t : TurnData). IsTurn s after waits t) same is_turn in
      inr (first_need own.needs nonempty (λ id h. (wanted_parts (heads_in s.peer) after waits s.asked id (needs_pass own.have (is_wanted (heads_in s.peer) after waits s.asked) own.needs turn_own.needs id h)).new))

  judges_new : (turn mine : TurnData) (added waits : List Entry) → IsTurn s after waits mine → (fault : Option PeerFault) → late_fault s turn mine ≡ fault
      → Judges fault s (committed s turn added waits) turn mine next out → AsksNew s own
  judges_new turn mine added waits is_turn (Some f) is j = quiet (ap (λ (o : OutData). o.turn) j.1)
  judges_new turn mine added waits is_turn None is j =
      let parts = late_parts ((not (is_first s.role s.reading) && (not turn.have && is_empty turn.needs)) || (not mine.have && is_empty mine.needs))
      (unknown_fault (find (λ id. not (holds s.start id)) turn.needs)) (again_fault (find (has s.peer_asked) turn.needs)) is in
      let some = (or_parts (not (is_first s.role s.reading) && (not turn.have && is_empty turn.needs)) (not mine.have && is_empty mine.needs) parts.0).1 in
      replies_new turn mine added waits is_turn some (s.sent_have && turn.have) (is_first s.role s.reading) j

  concludes_new : (turn : TurnData) (answer : Committed) → Concludes answer s turn after next out → AsksNew s own
  concludes_new turn (Added added waits) g = judges_new turn g.0 added waits g.1 (late_fault s turn g.0) refl g.2
  concludes_new turn TooMuch g = quiet (ap (λ (o : OutData). o.turn) g.1)
  concludes_new turn DiskFault g = quiet (ap (λ (o : OutData). o.turn) g.1)

  unless_new : (G : Type 0) (of fault : Option PeerFault) → of ≡ fault → Unless fault s before next out after G → (of ≡ None → G → AsksNew s own) → AsksNew s own
  unless_new G of (Some f) e u k = quiet (ap (λ (o : OutData). o.turn) u.1)
  unless_new G of None e u k = k e u

  gathers_new : (e : Entry) (fits : Bool) → Gathers fits s before e next out after → AsksNew s own
  gathers_new e true g = quiet (ap (λ (o : OutData). o.turn) g.1)
  gathers_new e false g = quiet (ap (λ (o : OutData). o.turn) g.1)

  takes_new : (frame : FrameData) → Takes limits s before frame next out after → AsksNew s own
  takes_new (Hello hello) t = unless_new (Greets s.role s before hello next out after) (hello_fault s hello) (hello_fault s hello) refl t
      (λ none g. inl (opens_hello (bytes_eq hello.database s.database) (takes_hello s.reading) none))
  takes_new OtherVersion t = quiet (ap (λ (o : OutData). o.turn) t.1)
  takes_new (Item e) t = unless_new (Gathers (is_within (s.waiting ++ gathers s e)) s before e next out after) (item_fault s e) (item_fault s e) refl t (λ none g. gathers_new e (is_within (s.waiting ++ gathers s e)) g)
  takes_new (BadItem why) t = quiet (ap (λ (o : OutData). o.turn) t.1)
  takes_new (Turn turn) t = unless_new (Settles limits s before turn next out after) (turn_fault s turn) (turn_fault s turn) refl t (λ none g. concludes_new turn g.0 g.2)
  takes_new (NoFrame place) t = quiet (ap (λ (o : OutData). o.turn) t.1)

  by_ended : (ended : Option End) (frame : FrameData) → StepsBy ended limits s before frame next out after → AsksNew s own
  by_ended (Some ending) frame t = quiet (ap (λ (o : OutData). o.turn) t.1)
  by_ended None frame t = takes_new frame t

  pub asks_new : (frame : FrameData) → Steps limits s before frame next out after → AsksNew s own
  asks_new frame t = by_ended s.ended frame t
