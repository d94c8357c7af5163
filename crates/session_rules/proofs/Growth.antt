-- What a step adds to the holder's list.
use Rattle.std.proofs.Common.{◌≡◌, ◌⊎◌, inl, inr, ◌+◌, Bool, true, false, ◌&&◌, if◌then◌else◌, List, [], ◌++◌, length, Option, Some, None, refl, sym, ap, ◌∙◌, arith, append-nil, bytes_eq}
use Rattle.update_model.specs.Entry.{Entry}
use Rattle.update_model.specs.Graph.{Follows, is_within}
use Rattle.update_model.specs.Batch.{Limits}
use Rattle.session_rules.specs.Commit.{Committed, Added, TooMuch, DiskFault, Commits}
use Rattle.session_rules.specs.State.{Role, Initiator, Responder, HelloData, TurnData, FrameData, Hello, OtherVersion, Item, BadItem, Turn, NoFrame, End, PeerFault, OutOfTurn, WrongDatabase, SessionData, OutData}
use Rattle.session_rules.specs.Steps.{Steps, StepsBy, Takes, Unless, Greets, Gathers, gathers, Settles, Concludes, Judges, Replies, committed, is_first, late_fault, hello_fault, takes_hello, item_fault, turn_fault}
use Rattle.session_rules.proofs.Held.{Within}

-- The list grows by these updates, which waited or were gathered, and the start set stays unless a responder reads its first Hello.
pub record Grown (s next : SessionData) (before after : List Entry) : Type 0 where
  pub new : List Entry
  pub is : after ≡ before ++ new
  pub from : Within (s.waiting ++ s.gathered) new
  pub follows : Follows before new
  pub gained : next.gained ≡ s.gained + length new
  pub start : (takes_hello s.reading ≡ false) ⊎ (s.role ≡ Initiator) → next.start ≡ s.start

unchanged : (s next : SessionData) (before after : List Entry) → next.gained ≡ s.gained → next.start ≡ s.start → after ≡ before → Grown s next before after
unchanged s next before after g h e = record {
  new = [];
  is = e ∙ sym (append-nil before);
  from = tt;
  follows = tt;
  gained = omega arith;
  start = λ _. h;
}

module _ (limits : Limits) (s : SessionData) (before : List Entry) (next : SessionData) (out : OutData) (after : List Entry) where
  by_fault : (G : Type 0) (of fault : Option PeerFault) → of ≡ fault → Unless fault s before next out after G → (of ≡ None → G → Grown s next before after) → Grown s next before after
  by_fault G of (Some f) e u k = unchanged s next before after (ap (λ (x : SessionData). x.gained) u.0) (ap (λ (x : SessionData). x.start) u.0) u.2
  by_fault G of None e u k = k e u

  greets_grow : (hello : HelloData) (role : Role) → s.role ≡ role → hello_fault s hello ≡ None → Greets role s before hello next out after → Grown s next before after
  greets_grow hello Initiator e none g = unchanged s next before after (ap (λ (x : SessionData). x.gained) g.0) (ap (λ (x : SessionData). x.start) g.0) g.2
  greets_grow hello Responder e none g = record {
    new = [];
    is = g.5 ∙ sym (append-nil before);
    from = tt;
    follows = tt;
    gained = let same = ap (λ (x : SessionData). x.gained) g.4.0 in omega arith;
    start = λ h. absurd (never h);
  }
    where
      opens : (d t : Bool) → (if d then (if t then None else Some (OutOfTurn)) else Some WrongDatabase) ≡ None → t ≡ true
      opens true true h = refl
      opens true false h = absurd cc
      opens false t h = absurd cc

      never : (takes_hello s.reading ≡ false) ⊎ (s.role ≡ Initiator) → ⊥
      never (inl closed) = let opened : takes_hello s.reading ≡ true = opens (bytes_eq hello.database s.database) (takes_hello s.reading) none in cc
      never (inr initiator) = cc

  gathers_grow : (e : Entry) (fits : Bool) → Gathers fits s before e next out after → Grown s next before after
  gathers_grow e true g = unchanged s next before after (ap (λ (x : SessionData). x.gained) g.0) (ap (λ (x : SessionData). x.start) g.0) g.2
  gathers_grow e false g = unchanged s next before after (ap (λ (x : SessionData). x.gained) g.0) (ap (λ (x : SessionData). x.start) g.0) g.2

  added_gained : (turn own : TurnData) (added waits : List Entry) (both first : Bool) → Replies both first (committed s turn added waits) turn own next out
      → (next.gained ≡ s.gained + length added) × (next.start ≡ s.start)
  added_gained turn own added waits true first r = (ap (λ (x : SessionData). x.gained) r.0, ap (λ (x : SessionData). x.start) r.0)
  added_gained turn own added waits false first r = (ap (λ (x : SessionData). x.gained) r.7, ap (λ (x : SessionData). x.start) r.7)

  judged_gained : (turn own : TurnData) (added waits : List Entry) (fault : Option PeerFault) → Judges fault s (committed s turn added waits) turn own next out
      → (next.gained ≡ s.gained + length added) × (next.start ≡ s.start)
  judged_gained turn own added waits (Some f) j = (ap (λ (x : SessionData). x.gained) j.0, ap (λ (x : SessionData). x.start) j.0)
  judged_gained turn own added waits None j = added_gained turn own added waits (s.sent_have && turn.have) (is_first s.role s.reading) j

  settles_grow : (turn : TurnData) (answer : Committed) → Commits limits before (s.waiting ++ s.gathered) answer after → Concludes answer s turn after next out → Grown s next before after
  settles_grow turn (Added added waits) c g =
      let facts = judged_gained turn g.0 added waits (late_fault s turn g.0) g.2 in
      record { new = added; is = c.2; from = c.0.from; follows = c.0.next; gained = facts.0; start = λ _. facts.1 }
  settles_grow turn TooMuch c g = unchanged s next before after (ap (λ (x : SessionData). x.gained) g.0) (ap (λ (x : SessionData). x.start) g.0) c.1
  settles_grow turn DiskFault c g = unchanged s next before after (ap (λ (x : SessionData). x.gained) g.0) (ap (λ (x : SessionData). x.start) g.0) c

  takes_grow : (frame : FrameData) → Takes limits s before frame next out after → Grown s next before after
  takes_grow (Hello hello) t = by_fault (Greets s.role s before hello next out after) (hello_fault s hello) (hello_fault s hello) refl t (λ none g. greets_grow hello s.role refl none g)
  takes_grow OtherVersion t = unchanged s next before after (ap (λ (x : SessionData). x.gained) t.0) (ap (λ (x : SessionData). x.start) t.0) t.2
  takes_grow (Item e) t = by_fault (Gathers (is_within (s.waiting ++ gathers s e)) s before e next out after) (item_fault s e) (item_fault s e) refl t (λ none g. gathers_grow e (is_within (s.waiting ++ gathers s e)) g)
  takes_grow (BadItem why) t = unchanged s next before after (ap (λ (x : SessionData). x.gained) t.0) (ap (λ (x : SessionData). x.start) t.0) t.2
  takes_grow (Turn turn) t = by_fault (Settles limits s before turn next out after) (turn_fault s turn) (turn_fault s turn) refl t (λ none g. settles_grow turn g.0 g.1 g.2)
  takes_grow (NoFrame place) t = unchanged s next before after (ap (λ (x : SessionData). x.gained) t.0) (ap (λ (x : SessionData). x.start) t.0) t.2

  by_ended : (ended : Option End) (frame : FrameData) → StepsBy ended limits s before frame next out after → Grown s next before after
  by_ended (Some ending) frame t = unchanged s next before after (ap (λ (x : SessionData). x.gained) t.0) (ap (λ (x : SessionData). x.start) t.0) t.2
  by_ended None frame t = takes_grow frame t

  -- whatever the frame is
  pub steps_grow : (frame : FrameData) → Steps limits s before frame next out after → Grown s next before after
  steps_grow frame t = by_ended s.ended frame t
