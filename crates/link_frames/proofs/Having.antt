-- An end that has said that it has all, or that is done, holds the heads of the other's Hello.
use Rattle.std.proofs.Common.{◌≡◌, ◌+◌, if◌then◌else◌, Bool, true, false, ◌&&◌, List, [], ◌∷◌, ◌++◌, Option, Some, None, refl, sym, ap, subst, ◌∙◌, bytes_eq}
use Rattle.std.specs.List.{list_all}
use Rattle.update_model.specs.Entry.{Entry}
use Rattle.update_model.specs.Graph.{holds, is_within}
use Rattle.update_model.specs.Batch.{Limits}
use Rattle.session_rules.specs.Commit.{Committed, Added, TooMuch, DiskFault, Commits}
use Rattle.session_rules.specs.State.{HelloData, TurnData, FrameData, Hello, OtherVersion, Item, BadItem, Turn, NoFrame, Reading, Opening, Burst, Answers, SessionData, OutData}
use Rattle.session_rules.specs.declared.role.Role.{Role}
use Rattle.session_rules.specs.declared.role.Role.TheVariants.{Initiator, Responder}
use Rattle.session_rules.specs.declared.end.End.{End}
use Rattle.session_rules.specs.declared.end.End.TheVariants.{Done, Peer, Full, Store}
use Rattle.session_rules.specs.declared.peer_fault.PeerFault.{PeerFault}
use Rattle.session_rules.specs.Steps.{Steps, StepsBy, Takes, Unless, Ends, Greets, Gathers, gathers, Settles, Concludes, Judges, Replies, IsTurn, committed, refused, replied, counted, is_first, heads_in, late_fault, hello_fault, takes_hello, item_fault, turn_fault, after_item}
use Rattle.session_rules.proofs.Words.{all_weaker, and_both}
use Rattle.session_rules.proofs.Held.{holds_front}
use Rattle.session_rules.proofs.Bounds.{opens_hello}

-- all heads of the other's Hello are held
abbrev pub AllHeld : List Entry → Option HelloData → Type 0
AllHeld list peer = list_all (holds list) (heads_in peer) ≡ true

-- An end that has said that it has all, or that is done, holds all heads. Before the Hello it has not said so.
pub record Has (s : SessionData) (list : List Entry) : Type 0 where
  pub sent : s.sent_have ≡ true → AllHeld list s.peer
  pub done : s.ended ≡ Some Done → AllHeld list s.peer
  pub fresh : takes_hello s.reading ≡ true → s.sent_have ≡ false

-- A step ends the session as it says, and this goes on.
pub record StepHas (s next : SessionData) (before after : List Entry) (out : OutData) : Type 0 where
  pub ends : next.ended ≡ out.end
  pub goes_on : Has s before → Has next after

pub held_more : (before added after : List Entry) (peer : Option HelloData) → after ≡ before ++ added → AllHeld before peer → AllHeld after peer
held_more before added after peer is all =
    subst (λ (l : List Entry). AllHeld l peer) (sym is) (all_weaker (holds before) (holds (before ++ added)) (λ id h. holds_front before added id h) (heads_in peer) all)

-- a list that grows
pub has_more : (s : SessionData) (before added after : List Entry) → after ≡ before ++ added → Has s before → Has s after
has_more s before added after is h =
    record { sent = λ e. held_more before added after s.peer is (h.sent e); done = λ e. held_more before added after s.peer is (h.done e); fresh = h.fresh }

has_at : (x s : SessionData) (l list : List Entry) → s ≡ x → list ≡ l → Has x l → Has s list
has_at x s l list is at h = subst (λ (k : SessionData). Has k list) (sym is) (subst (λ (k : List Entry). Has x k) (sym at) h)

-- an update does not open a session
stays_open : (reading : Reading) → takes_hello (after_item reading) ≡ true → takes_hello reading ≡ true
stays_open Opening is = is
stays_open Burst is = is
stays_open (Answers []) is = is
stays_open (Answers (id ∷ ids)) is = is

module _ (limits : Limits) (s : SessionData) (before : List Entry) (next : SessionData) (out : OutData) (after : List Entry) (running : s.ended ≡ None) where
  -- the end stays as it was but for what is not asked here
  ends_has : (ending : End) → (Some ending ≡ Some Done → ⊥) → Ends s before ending next out after → StepHas s next before after out
  ends_has ending never t = record {
    ends = ap (λ (k : SessionData). k.ended) t.0 ∙ sym (ap (λ (o : OutData). o.end) t.1);
    goes_on = λ h. has_at (record s { ended = Some ending }) next before after t.0 t.2 (record { sent = h.sent; done = λ is. absurd (never is); fresh = h.fresh });
  }

  never_done : {A : Type 0} → None ≡ Some Done → A
  never_done is = absurd cc

  by_ended_none : s.ended ≡ Some Done → ⊥
  by_ended_none is = never_done (sym running ∙ is)

  greets_has : (role : Role) (hello : HelloData) → takes_hello s.reading ≡ true → Greets role s before hello next out after → StepHas s next before after out
  greets_has Initiator hello opening t = record {
    ends = ap (λ (k : SessionData). k.ended) t.0 ∙ running ∙ sym (ap (λ (o : OutData). o.end) t.1);
    goes_on = λ h. has_at (record (counted s) { peer = Some hello; reading = Burst }) next before after t.0 t.2
        (record { sent = λ is. never_sent (sym (h.fresh opening) ∙ is); done = λ is. absurd (by_ended_none is); fresh = λ is. absurd cc });
  }
    where
      never_sent : {A : Type 0} → false ≡ true → A
      never_sent is = absurd cc
  greets_has Responder hello opening t = record {
    ends = ap (λ (k : SessionData). k.ended) t.4.0 ∙ running ∙ sym (ap (λ (o : OutData). o.end) t.4.1);
    goes_on = λ h. has_at (record s { start = before; peer = Some hello; reading = Burst; turns = s.turns + 2; sent_have = list_all (holds before) hello.heads }) next before after t.4.0 t.5
        (record { sent = λ is. is; done = λ is. absurd (by_ended_none is); fresh = λ is. absurd cc });
  }

  gathers_has : (e : Entry) (fits : Bool) → Gathers fits s before e next out after → StepHas s next before after out
  gathers_has e true t = record {
    ends = ap (λ (k : SessionData). k.ended) t.0 ∙ running ∙ sym (ap (λ (o : OutData). o.end) t.1);
    goes_on = λ h. has_at (record (counted s) { items = s.items + 1; reading = after_item s.reading; gathered = gathers s e }) next before after t.0 t.2
        (record { sent = h.sent; done = h.done; fresh = λ is. h.fresh (stays_open s.reading is) });
  }
  gathers_has e false t = ends_has Full (λ is. absurd cc) t

  -- ---- after a commit

  replies_has : (turn own : TurnData) (added waits : List Entry) → after ≡ before ++ added → IsTurn s after waits own → (both first : Bool) → (s.sent_have && turn.have) ≡ both
      → Replies both first (committed s turn added waits) turn own next out → StepHas s next before after out
  replies_has turn own added waits grew is_turn true first both r = record {
    ends = ap (λ (k : SessionData). k.ended) r.0 ∙ sym (ap (λ (o : OutData). o.end) r.1);
    goes_on = λ h. let all = held_more before added after s.peer grew (h.sent (and_both s.sent_have turn.have both).0) in
        has_at (record (committed s turn added waits) { ended = Some Done }) next after after r.0 refl (record { sent = λ is. all; done = λ is. all; fresh = h.fresh });
  }
  replies_has turn own added waits grew is_turn false first both r = record {
    ends = ap (λ (k : SessionData). k.ended) r.7 ∙ sym (ap (λ (o : OutData). o.end) r.6);
    goes_on = λ h. has_at (replied (committed s turn added waits) turn own r.1 r.2) next after after r.7 refl
        (record { sent = λ is. sym is_turn.have ∙ is; done = λ is. sym is_turn.have ∙ done_have own.have turn.have is; fresh = λ is. absurd cc });
  }
    where
      done_have : (a b : Bool) → (if a && b then Some Done else None) ≡ Some Done → a ≡ true
      done_have true b is = refl
      done_have false b is = absurd cc

  judges_has : (turn own : TurnData) (added waits : List Entry) → after ≡ before ++ added → IsTurn s after waits own → (fault : Option PeerFault)
      → Judges fault s (committed s turn added waits) turn own next out → StepHas s next before after out
  judges_has turn own added waits grew is_turn (Some f) j = record {
    ends = ap (λ (k : SessionData). k.ended) j.0 ∙ sym (ap (λ (o : OutData). o.end) j.1);
    goes_on = λ h. has_at (record (committed s turn added waits) { ended = Some (Peer f) }) next after after j.0 refl
        (record { sent = λ is. held_more before added after s.peer grew (h.sent is); done = λ is. absurd cc; fresh = h.fresh });
  }
  judges_has turn own added waits grew is_turn None j = replies_has turn own added waits grew is_turn (s.sent_have && turn.have) (is_first s.role s.reading) refl j

  refused_has : (turn : TurnData) (ending : End) → (Some ending ≡ Some Done → ⊥) → after ≡ before → (next ≡ refused s ending) → out.end ≡ Some ending → StepHas s next before after out
  refused_has turn ending never same is says = record {
    ends = ap (λ (k : SessionData). k.ended) is ∙ sym says;
    goes_on = λ h. has_at (refused s ending) next before after is same (record { sent = h.sent; done = λ e. absurd (never e); fresh = h.fresh });
  }

  settles_has : (turn : TurnData) (answer : Committed) → Commits limits before (s.waiting ++ s.gathered) answer after → Concludes answer s turn after next out → StepHas s next before after out
  settles_has turn (Added added waits) c g = judges_has turn g.0 added waits c.2 g.1 (late_fault s turn g.0) g.2
  settles_has turn TooMuch c g = refused_has turn Full (λ is. absurd cc) c.1 g.0 (ap (λ (o : OutData). o.end) g.1)
  settles_has turn DiskFault c g = refused_has turn Store (λ is. absurd cc) c g.0 (ap (λ (o : OutData). o.end) g.1)

  unless_has : (G : Type 0) (of fault : Option PeerFault) → of ≡ fault → Unless fault s before next out after G → (of ≡ None → G → StepHas s next before after out) → StepHas s next before after out
  unless_has G of (Some f) e u k = ends_has (Peer f) (λ is. absurd cc) u
  unless_has G of None e u k = k e u

  takes_has : (frame : FrameData) → Takes limits s before frame next out after → StepHas s next before after out
  takes_has (Hello hello) t = unless_has (Greets s.role s before hello next out after) (hello_fault s hello) (hello_fault s hello) refl t
      (λ none g. greets_has s.role hello (opens_hello (bytes_eq hello.database s.database) (takes_hello s.reading) none) g)
  takes_has OtherVersion t = ends_has _ (λ is. absurd cc) t
  takes_has (Item e) t = unless_has (Gathers (is_within (s.waiting ++ gathers s e)) s before e next out after) (item_fault s e) (item_fault s e) refl t (λ none g. gathers_has e (is_within (s.waiting ++ gathers s e)) g)
  takes_has (BadItem why) t = ends_has _ (λ is. absurd cc) t
  takes_has (Turn turn) t = unless_has (Settles limits s before turn next out after) (turn_fault s turn) (turn_fault s turn) refl t (λ none g. settles_has turn g.0 g.1 g.2)
  takes_has (NoFrame place) t = ends_has _ (λ is. absurd cc) t

  pub step_has : (frame : FrameData) → Steps limits s before frame next out after → StepHas s next before after out
  step_has frame t = takes_has frame (subst (λ (e : Option End). StepsBy e limits s before frame next out after) running t)
