-- What a step passes on: what it gathers, what it keeps waiting, and what it sends.
use Rattle.std.proofs.Common.{◌≡◌, inl, inr, Bool, true, false, ◌&&◌, ◌||◌, if◌then◌else◌, List, [], ◌∷◌, ◌++◌, find, Contains, Option, Some, None, refl, sym, ap, subst, ◌∙◌}
use Rattle.std.specs.List.{AllByRecursion}
use Rattle.update_model.specs.declared.update_id.UpdateId.{UpdateId}
use Rattle.update_model.specs.Entry.{Entry, same_id}
use Rattle.update_model.specs.Graph.{holds, is_within}
use Rattle.update_model.specs.Batch.{Limits}
use Rattle.session_rules.specs.Commit.{Committed, Added, TooMuch, DiskFault, Commits}
use Rattle.session_rules.specs.declared.role.Role.{Role}
use Rattle.session_rules.specs.declared.role.Role.TheVariants.{Initiator, Responder}
use Rattle.session_rules.specs.declared.peer_fault.PeerFault.{PeerFault}
use Rattle.session_rules.specs.declared.end.End.{End}
use Rattle.session_rules.specs.State.{HelloData, TurnData, FrameData, Hello, OtherVersion, Item, BadItem, Turn, NoFrame, SessionData, OutData}
use Rattle.session_rules.specs.Steps.{Steps, StepsBy, Takes, Unless, Greets, Gathers, gathers, Settles, Concludes, Judges, Replies, IsSent, IsBurstFor, answers, committed, in_burst, is_first, late_fault, hello_fault, item_fault, turn_fault}
use Rattle.session_rules.proofs.Words.{each_append, each_filter, each_member, each_weaker, is_either}
use Rattle.session_rules.proofs.Sends.{burst_within}

-- each update that a frame brings
abbrev pub Brings : (Entry → Type 0) → FrameData → Type 0
Brings P (Hello hello) = Unit {0}
Brings P OtherVersion = Unit {0}
Brings P (Item e) = P e
Brings P (BadItem why) = Unit {0}
Brings P (Turn turn) = Unit {0}
Brings P (NoFrame place) = Unit {0}

-- What a session has that its holder has not is of the one kind, and what it sends and its start set are of the other.
pub record Passes (P R : Entry → Type 0) (next : SessionData) (out : OutData) : Type 0 where
  pub waiting : AllByRecursion P next.waiting
  pub gathered : AllByRecursion P next.gathered
  pub start : AllByRecursion R next.start
  pub sends : AllByRecursion R out.send

-- one that is found is one of them
pub each_found : (R : Entry → Type 0) (t : Entry → Bool) (xs : List Entry) (e : Entry) → AllByRecursion R xs → find t xs ≡ Some e → R e
each_found R t [] e all is = absurd cc
each_found R t (x ∷ xs) e all is = elim (is_either (t x)) [
  | inl here ↦ let found : Some x ≡ Some e = rw here at is in let same : x ≡ e = cc in subst R same all.0
  | inr elsewhere ↦ let rest : find t xs ≡ Some e = rw elsewhere at is in each_found R t xs e all.1 rest
]

each_answer : (R : Entry → Type 0) (start : List Entry) (needs : List UpdateId) → AllByRecursion R start → AllByRecursion R (answers start needs)
each_answer R start [] all = tt
each_answer R start (id ∷ ids) all = by_found (each_answer R start ids all) (find (λ e. same_id id e.id) start) refl
  where
    by_found : AllByRecursion R (answers start ids) → (found : Option Entry) → find (λ e. same_id id e.id) start ≡ found → AllByRecursion R (answers start (id ∷ ids))
    by_found rest None is = rw is rest
    by_found rest (Some e) is = rw is (each_found R (λ e. same_id id e.id) start e all is, rest)

module _ (P R : Entry → Type 0) (limits : Limits) (s : SessionData) (before : List Entry) (next : SessionData) (out : OutData) (after : List Entry)
    (waits : AllByRecursion P s.waiting) (has : AllByRecursion P s.gathered) (started : AllByRecursion R s.start) (held : AllByRecursion R before) where
  same_passes : next.waiting ≡ s.waiting → next.gathered ≡ s.gathered → next.start ≡ s.start → out.send ≡ [] → Passes P R next out
  same_passes w g st o = record {
    waiting = subst (AllByRecursion P) (sym w) waits;
    gathered = subst (AllByRecursion P) (sym g) has;
    start = subst (AllByRecursion R) (sym st) started;
    sends = subst (AllByRecursion R) (sym o) tt;
  }

  ended_passes : (t : SessionData) (quiet : OutData) → t.waiting ≡ s.waiting → t.gathered ≡ s.gathered → t.start ≡ s.start → quiet.send ≡ [] → next ≡ t → out ≡ quiet → Passes P R next out
  ended_passes t quiet w g st o n is = same_passes (ap (λ (x : SessionData). x.waiting) n ∙ w) (ap (λ (x : SessionData). x.gathered) n ∙ g) (ap (λ (x : SessionData). x.start) n ∙ st) (ap (λ (x : OutData). x.send) is ∙ o)

  unless_passes : (G : Type 0) (fault : Option PeerFault) → Unless fault s before next out after G → (G → Passes P R next out) → Passes P R next out
  unless_passes G (Some f) u k = same_passes (ap (λ (x : SessionData). x.waiting) u.0) (ap (λ (x : SessionData). x.gathered) u.0) (ap (λ (x : SessionData). x.start) u.0) (ap (λ (x : OutData). x.send) u.1)
  unless_passes G None u k = k u

  greets_passes : (hello : HelloData) (role : Role) → Greets role s before hello next out after → Passes P R next out
  greets_passes hello Initiator g = same_passes (ap (λ (x : SessionData). x.waiting) g.0) (ap (λ (x : SessionData). x.gathered) g.0) (ap (λ (x : SessionData). x.start) g.0) (ap (λ (x : OutData). x.send) g.1)
  greets_passes hello Responder g = record {
    waiting = subst (AllByRecursion P) (sym (ap (λ (x : SessionData). x.waiting) g.4.0)) waits;
    gathered = subst (AllByRecursion P) (sym (ap (λ (x : SessionData). x.gathered) g.4.0)) has;
    start = subst (AllByRecursion R) (sym (ap (λ (x : SessionData). x.start) g.4.0)) held;
    sends = subst (AllByRecursion R) (sym (ap (λ (x : OutData). x.send) g.4.1)) (each_weaker (Contains before) R (λ e c. each_member R before e held c) g.1 (burst_within before hello.old _ g.1 g.3));
  }

  gathers_all : (e : Entry) → P e → AllByRecursion P (gathers s e)
  gathers_all e is = by_there (in_burst s.reading && (holds s.gathered e.id || holds s.waiting e.id))
    where
      by_there : (there : Bool) → AllByRecursion P (if there then s.gathered else s.gathered ++ e ∷ [])
      by_there true = has
      by_there false = each_append P s.gathered (e ∷ []) has (is, tt)

  gathers_passes : (e : Entry) (fits : Bool) → P e → Gathers fits s before e next out after → Passes P R next out
  gathers_passes e true is g = record {
    waiting = subst (AllByRecursion P) (sym (ap (λ (x : SessionData). x.waiting) g.0)) waits;
    gathered = subst (AllByRecursion P) (sym (ap (λ (x : SessionData). x.gathered) g.0)) (gathers_all e is);
    start = subst (AllByRecursion R) (sym (ap (λ (x : SessionData). x.start) g.0)) started;
    sends = subst (AllByRecursion R) (sym (ap (λ (x : OutData). x.send) g.1)) tt;
  }
  gathers_passes e false is g = same_passes (ap (λ (x : SessionData). x.waiting) g.0) (ap (λ (x : SessionData). x.gathered) g.0) (ap (λ (x : SessionData). x.start) g.0) (ap (λ (x : OutData). x.send) g.1)

  -- after a commit
  after_commit : (t : SessionData) (left : List Entry) → AllByRecursion P left → t.waiting ≡ left → t.gathered ≡ [] → t.start ≡ s.start → AllByRecursion R out.send → next ≡ t → Passes P R next out
  after_commit t left all w g st sends n = record {
    waiting = subst (AllByRecursion P) (sym (ap (λ (x : SessionData). x.waiting) n ∙ w)) all;
    gathered = subst (AllByRecursion P) (sym (ap (λ (x : SessionData). x.gathered) n ∙ g)) tt;
    start = subst (AllByRecursion R) (sym (ap (λ (x : SessionData). x.start) n ∙ st)) started;
    sends = sends;
  }

  sent_all : (first : Bool) (turn : TurnData) (send added left : List Entry) → IsSent first (committed s turn added left) turn send → AllByRecursion R send
  sent_all true turn send added left is = by_hello s.peer is
    where
      by_hello : (hello : Option HelloData) → IsBurstFor s.start hello send → AllByRecursion R send
      by_hello None is = subst (AllByRecursion R) (sym is) tt
      by_hello (Some hello) is = each_weaker (Contains s.start) R (λ e c. each_member R s.start e started c) send (burst_within s.start hello.old _ send is)
  sent_all false turn send added left is = subst (AllByRecursion R) (sym is) (each_answer R s.start turn.needs started)

  replies_passes : (turn own : TurnData) (added left : List Entry) → AllByRecursion P left → (both first : Bool) → Replies both first (committed s turn added left) turn own next out → Passes P R next out
  replies_passes turn own added left all true first r = after_commit _ left all refl refl refl (subst (AllByRecursion R) (sym (ap (λ (x : OutData). x.send) r.1)) tt) r.0
  replies_passes turn own added left all false first r =
      after_commit _ left all refl refl refl (subst (AllByRecursion R) (sym (ap (λ (x : OutData). x.send) r.6)) (sent_all first turn r.0 added left r.3)) r.7

  judges_passes : (turn own : TurnData) (added left : List Entry) → AllByRecursion P left → (fault : Option PeerFault) → Judges fault s (committed s turn added left) turn own next out → Passes P R next out
  judges_passes turn own added left all (Some f) j = after_commit _ left all refl refl refl (subst (AllByRecursion R) (sym (ap (λ (x : OutData). x.send) j.1)) tt) j.0
  judges_passes turn own added left all None j = replies_passes turn own added left all (s.sent_have && turn.have) (is_first s.role s.reading) j

  settles_passes : (turn : TurnData) (answer : Committed) → Commits limits before (s.waiting ++ s.gathered) answer after → Concludes answer s turn after next out → Passes P R next out
  settles_passes turn (Added added left) c g =
      judges_passes turn g.0 added left (rw c.0.rest (each_filter P _ (s.waiting ++ s.gathered) (each_append P s.waiting s.gathered waits has))) (late_fault s turn g.0) g.2
  settles_passes turn TooMuch c g = after_commit _ [] tt refl refl refl (subst (AllByRecursion R) (sym (ap (λ (x : OutData). x.send) g.1)) tt) g.0
  settles_passes turn DiskFault c g = after_commit _ [] tt refl refl refl (subst (AllByRecursion R) (sym (ap (λ (x : OutData). x.send) g.1)) tt) g.0

  takes_passes : (frame : FrameData) → Brings P frame → Takes limits s before frame next out after → Passes P R next out
  takes_passes (Hello hello) is t = unless_passes (Greets s.role s before hello next out after) (hello_fault s hello) t (λ g. greets_passes hello s.role g)
  takes_passes OtherVersion is t = ended_passes _ _ refl refl refl refl t.0 t.1
  takes_passes (Item e) is t = unless_passes (Gathers (is_within (s.waiting ++ gathers s e)) s before e next out after) (item_fault s e) t (λ g. gathers_passes e (is_within (s.waiting ++ gathers s e)) is g)
  takes_passes (BadItem why) is t = ended_passes _ _ refl refl refl refl t.0 t.1
  takes_passes (Turn turn) is t = unless_passes (Settles limits s before turn next out after) (turn_fault s turn) t (λ g. settles_passes turn g.0 g.1 g.2)
  takes_passes (NoFrame place) is t = ended_passes _ _ refl refl refl refl t.0 t.1

  by_ended : (ended : Option End) (frame : FrameData) → Brings P frame → StepsBy ended limits s before frame next out after → Passes P R next out
  by_ended (Some ending) frame is t = same_passes (ap (λ (x : SessionData). x.waiting) t.0) (ap (λ (x : SessionData). x.gathered) t.0) (ap (λ (x : SessionData). x.start) t.0) (ap (λ (x : OutData). x.send) t.1)
  by_ended None frame is t = takes_passes frame is t

  -- whatever the frame is
  pub steps_pass : (frame : FrameData) → Brings P frame → Steps limits s before frame next out after → Passes P R next out
  steps_pass frame is t = by_ended s.ended frame is t
