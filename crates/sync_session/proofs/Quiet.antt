-- A frame to an end that runs: what it answers.
use Rattle.std.proofs.Common.{◌≡◌, ◌≢◌, inl, inr, ◌≤◌, ◌<◌, ◌+◌, Bool, true, false, ◌&&◌, cond, if◌then◌else◌, ℕ, List, [], ◌++◌, take, Option, Some, None, Result, Ok, Err, IfOk, refl, sym, ap, subst, ◌∙◌, arith}
use Rattle.update_model.specs.Batch.{Limits}
use Rattle.update_model.specs.Entry.{Entry}
use Rattle.update_model.specs.Graph.{is_within}
use Rattle.update_model.specs.Rule.{RuleData}
use Rattle.session_rules.specs.Commit.{Committed, Added, TooMuch, DiskFault}
use Rattle.session_rules.specs.declared.role.Role.{Role}
use Rattle.session_rules.specs.declared.role.Role.TheVariants.{Initiator, Responder}
use Rattle.session_rules.specs.declared.end.End.{End}
use Rattle.session_rules.specs.declared.end.End.TheVariants.{Done, Peer, Full, Store}
use Rattle.session_rules.specs.declared.peer_fault.PeerFault.{PeerFault}
use Rattle.session_rules.specs.State.{HelloData, TurnData, FrameData, Hello, OtherVersion, Item, BadItem, Turn, NoFrame, SessionData, OutData}
use Rattle.session_rules.specs.Steps.{silent, closing, committed, gathers, hello_fault, item_fault, is_first, late_fault, turn_fault, Concludes, Ends, Gathers, Greets, Judges, Replies, Settles, Steps, Takes, Unless}
use Rattle.session_rules.proofs.ItemStep.{takes_from}
use Rattle.sync_session.specs.Carrying.{Arrives, Stops}
use Rattle.sync_session.specs.Kept.{out_of, whole, with_commit, Kept}
use Rattle.sync_session.specs.Turns.{SettlesTo}
use Rattle.sync_session.specs.declared.out.Out.{Out}
use Rattle.std.specs.declared.alloc.AllocError.{AllocError}

-- nothing changed that counts for the next turn
pub record Same (s t : SessionData) : Type 0 where
  pub role : t.role ≡ s.role
  pub sent_have : t.sent_have ≡ s.sent_have
  pub got_have : t.got_have ≡ s.got_have
  pub ended : t.ended ≡ None
  pub turns : s.turns ≤ t.turns

-- an end hears a frame and answers nothing, or it ends otherwise than done
pub data Quiet (s next : SessionData) (before : List Entry) (out : OutData) (after : List Entry) : Type 0 where
  heard : out ≡ silent → after ≡ before → Same s next → Quiet s next before out after
  stops : (ending : End) → Stops ending next out → after ≡ before → Quiet s next before out after

stopped : (s next : SessionData) (before : List Entry) (ending : End) (out : OutData) (after : List Entry) → ending ≢ Done → Ends s before ending next out after → Quiet s next before out after
stopped s next before ending out after undone u = stops ending (record { says = u.1; ended = ap (λ (x : SessionData). x.ended) u.0; undone = undone }) u.2

undone_peer : (fault : PeerFault) → Peer fault ≢ Done
undone_peer fault h = cc

undone_full : Full ≢ Done
undone_full h = cc

undone_store : Store ≢ Done
undone_store h = cc

by_fault : (s next : SessionData) (before : List Entry) (out : OutData) (after : List Entry) (G : Type 0) (fault : Option PeerFault) → (G → Quiet s next before out after) → Unless fault s before next out after G → Quiet s next before out after
by_fault s next before out after G None f u = f u
by_fault s next before out after G (Some fault) f u = stopped s next before (Peer fault) out after (undone_peer fault) u

more_turns : (s : SessionData) → s.turns ≤ s.turns + cond s.began 0 1
more_turns s = omega arith

-- the initiator hears a Hello
pub quiet_hello : (limits : Limits) (s next : SessionData) (before : List Entry) (hello : HelloData) (out : OutData) (after : List Entry) → s.role ≡ Initiator → s.ended ≡ None
    → Steps limits s before (Hello hello) next out after → Quiet s next before out after
quiet_hello limits s next before hello out after role running step =
    by_fault s next before out after (Greets s.role s before hello next out after) (hello_fault s hello) hears (takes_from limits s before (Hello hello) next out after running step)
  where
    hears : Greets s.role s before hello next out after → Quiet s next before out after
    hears g =
        let own = subst (λ (r : Role). Greets r s before hello next out after) role g in
        heard own.1 own.2 (rw own.0 (record { role = refl; sent_have = refl; got_have = refl; ended = running; turns = more_turns s }))

quiet_gathers : (fits : Bool) (s next : SessionData) (before : List Entry) (e : Entry) (out : OutData) (after : List Entry) → s.ended ≡ None → Gathers fits s before e next out after → Quiet s next before out after
quiet_gathers true s next before e out after running g = heard g.1 g.2 (rw g.0 (record { role = refl; sent_have = refl; got_have = refl; ended = running; turns = more_turns s }))
quiet_gathers false s next before e out after running g = stopped s next before Full out after undone_full g

quiet_item : (limits : Limits) (s next : SessionData) (before : List Entry) (e : Entry) (out : OutData) (after : List Entry) → s.ended ≡ None
    → Steps limits s before (Item e) next out after → Quiet s next before out after
quiet_item limits s next before e out after running step =
    by_fault s next before out after (Gathers (is_within (s.waiting ++ gathers s e)) s before e next out after) (item_fault s e)
    (quiet_gathers (is_within (s.waiting ++ gathers s e)) s next before e out after running) (takes_from limits s before (Item e) next out after running step)

-- an update comes, under the rule or not
pub quiet_update : (limits : Limits) (rule : RuleData) (s next : SessionData) (before : List Entry) (e : Entry) (arrived : FrameData) (out : OutData) (after : List Entry) → s.ended ≡ None
    → Arrives rule (Item e) arrived → Steps limits s before arrived next out after → Quiet s next before out after
quiet_update limits rule s next before e arrived out after running (inl fine) step =
    quiet_item limits s next before e out after running (subst (λ (f : FrameData). Steps limits s before f next out after) fine.0 step)
quiet_update limits rule s next before e arrived out after running (inr bad) step =
    stopped s next before (Peer _) out after (undone_peer _)
    (takes_from limits s before (BadItem _) next out after running (subst (λ (f : FrameData). Steps limits s before f next out after) bad.1 step))

-- what a Turn leads to: the next turn, or the end as both have all, or another end
pub data Answers (t next : SessionData) (turn : TurnData) (out : OutData) : Type 0 where
  goes : (own : TurnData) → out.hello ≡ None → out.turn ≡ Some own → next.role ≡ t.role → next.sent_have ≡ own.have → next.got_have ≡ turn.have
      → next.ended ≡ (if own.have && turn.have then Some Done else None) → out.end ≡ (if own.have && turn.have then Some Done else None) → (t.sent_have && turn.have) ≡ false → t.turns < next.turns → Answers t next turn out
  has_all : out ≡ closing Done → next.ended ≡ Some Done → (t.sent_have && turn.have) ≡ true → Answers t next turn out
  gives_up : (ending : End) → Stops ending next out → Answers t next turn out

module _ (limits : Limits) (t next : SessionData) (before : List Entry) (turn : TurnData) (out : OutData) (after : List Entry) where
  replies : (own : TurnData) (added waits : List Entry) (first both : Bool) → (t.sent_have && turn.have) ≡ both → Replies both first (committed t turn added waits) turn own next out → Answers t next turn out
  replies own added waits first true is r = has_all r.1 (ap (λ (x : SessionData). x.ended) r.0) is
  replies own added waits first false is r =
      goes own (ap (λ (o : OutData). o.hello) r.6) (ap (λ (o : OutData). o.turn) r.6) (ap (λ (x : SessionData). x.role) r.7) (ap (λ (x : SessionData). x.sent_have) r.7) (ap (λ (x : SessionData). x.got_have) r.7)
      (ap (λ (x : SessionData). x.ended) r.7) (ap (λ (o : OutData). o.end) r.6) is (let counts : next.turns ≡ t.turns + cond t.began 0 1 + 1 = ap (λ (x : SessionData). x.turns) r.7 in omega arith)

  judges : (own : TurnData) (added waits : List Entry) (fault : Option PeerFault) → Judges fault t (committed t turn added waits) turn own next out → Answers t next turn out
  judges own added waits None j = replies own added waits (is_first t.role t.reading) (t.sent_have && turn.have) refl j
  judges own added waits (Some fault) j = gives_up (Peer fault) (record { says = j.1; ended = ap (λ (x : SessionData). x.ended) j.0; undone = undone_peer fault })

  settles : (answer : Committed) → Concludes answer t turn after next out → Answers t next turn out
  settles (Added added waits) c = judges c.0 added waits (late_fault t turn c.0) c.2
  settles TooMuch c = gives_up Full (record { says = c.1; ended = ap (λ (x : SessionData). x.ended) c.0; undone = undone_full })
  settles DiskFault c = gives_up Store (record { says = c.1; ended = ap (λ (x : SessionData). x.ended) c.0; undone = undone_store })

  by_turn_fault : (fault : Option PeerFault) → Unless fault t before next out after (Settles limits t before turn next out after) → Answers t next turn out
  by_turn_fault None u = settles u.0 u.2
  by_turn_fault (Some fault) u = gives_up (Peer fault) (record { says = u.1; ended = ap (λ (x : SessionData). x.ended) u.0; undone = undone_peer fault })

  pub answers_turn : t.ended ≡ None → Steps limits t before (Turn turn) next out after → Answers t next turn out
  answers_turn running step = by_turn_fault (turn_fault t turn) (takes_from limits t before (Turn turn) next out after running step)

-- ---- an end that answers nothing runs on

no_closing : (P : Type 0) (ending : End) → silent ≡ closing ending → P
no_closing P ending is = absurd (let never = ap (λ (o : OutData). o.end) is in cc)

module _ (limits : Limits) (s next : SessionData) (before after : List Entry) (running : s.ended ≡ None) where
  unless_runs : (G : Type 0) (fault : Option PeerFault) → (G → next.ended ≡ None) → Unless fault s before next silent after G → next.ended ≡ None
  unless_runs G None f u = f u
  unless_runs G (Some fault) f u = no_closing (next.ended ≡ None) (Peer fault) u.1

  greets_runs : (role : Role) (hello : HelloData) → Greets role s before hello next silent after → next.ended ≡ None
  greets_runs Initiator hello g = ap (λ (x : SessionData). x.ended) g.0 ∙ running
  greets_runs Responder hello g = absurd (let never = ap (λ (o : OutData). o.hello) g.4.1 in cc)

  gathers_runs : (fits : Bool) (e : Entry) → Gathers fits s before e next silent after → next.ended ≡ None
  gathers_runs true e g = ap (λ (x : SessionData). x.ended) g.0 ∙ running
  gathers_runs false e g = no_closing (next.ended ≡ None) Full g.1

  replies_runs : (both first : Bool) (old : SessionData) (turn own : TurnData) → Replies both first old turn own next silent → next.ended ≡ None
  replies_runs true first old turn own r = no_closing (next.ended ≡ None) Done r.1
  replies_runs false first old turn own r = absurd (let never = ap (λ (o : OutData). o.turn) r.6 in cc)

  judges_runs : (fault : Option PeerFault) (now : SessionData) (turn own : TurnData) → Judges fault s now turn own next silent → next.ended ≡ None
  judges_runs None now turn own j = replies_runs (s.sent_have && turn.have) (is_first s.role s.reading) now turn own j
  judges_runs (Some fault) now turn own j = no_closing (next.ended ≡ None) (Peer fault) j.1

  concludes_runs : (answer : Committed) (turn : TurnData) → Concludes answer s turn after next silent → next.ended ≡ None
  concludes_runs (Added added waits) turn c = judges_runs (late_fault s turn c.0) (committed s turn added waits) turn c.0 c.2
  concludes_runs TooMuch turn c = no_closing (next.ended ≡ None) Full c.1
  concludes_runs DiskFault turn c = no_closing (next.ended ≡ None) Store c.1

  takes_runs : (frame : FrameData) → Takes limits s before frame next silent after → next.ended ≡ None
  takes_runs (Hello hello) t = unless_runs (Greets s.role s before hello next silent after) (hello_fault s hello) (greets_runs s.role hello) t
  takes_runs OtherVersion t = no_closing (next.ended ≡ None) _ t.1
  takes_runs (Item e) t = unless_runs (Gathers (is_within (s.waiting ++ gathers s e)) s before e next silent after) (item_fault s e) (gathers_runs (is_within (s.waiting ++ gathers s e)) e) t
  takes_runs (BadItem why) t = no_closing (next.ended ≡ None) _ t.1
  takes_runs (Turn turn) t = unless_runs (Settles limits s before turn next silent after) (turn_fault s turn) (λ u. concludes_runs u.0 turn u.2) t
  takes_runs (NoFrame place) t = no_closing (next.ended ≡ None) _ t.1

  pub silent_runs : (frame : FrameData) → Steps limits s before frame next silent after → next.ended ≡ None
  silent_runs frame step = takes_runs frame (takes_from limits s before frame next silent after running step)

-- ---- an end by the store comes of a commit alone

abbrev pub IsPlain : FrameData → Type 0
IsPlain (Hello hello) = Unit {0}
IsPlain OtherVersion = Unit {0}
IsPlain (Item e) = Unit {0}
IsPlain (BadItem why) = Unit {0}
IsPlain (Turn turn) = ⊥
IsPlain (NoFrame place) = Unit {0}

-- how an end is handed out
ends_with : (ending : End) (out : OutData) → ending ≢ Store → out ≡ closing ending → out.end ≢ Some Store
ends_with ending out other is same = other (let says = ap (λ (o : OutData). o.end) is in cc)

fault_not_store : (s next : SessionData) (before : List Entry) (out : OutData) (after : List Entry) (G : Type 0) (fault : Option PeerFault) → Unless fault s before next out after G → (G → out.end ≢ Some Store) → out.end ≢ Some Store
fault_not_store s next before out after G None u f = f u
fault_not_store s next before out after G (Some fault) u f = ends_with (Peer fault) out (λ h. cc) u.1

greets_not_store : (role : Role) (s next : SessionData) (before : List Entry) (hello : HelloData) (out : OutData) (after : List Entry) → Greets role s before hello next out after → out.end ≢ Some Store
greets_not_store Initiator s next before hello out after g = λ same. let says = ap (λ (o : OutData). o.end) g.1 in cc
greets_not_store Responder s next before hello out after g = λ same. let says = ap (λ (o : OutData). o.end) g.4.1 in cc

gathers_not_store : (fits : Bool) (s next : SessionData) (before : List Entry) (e : Entry) (out : OutData) (after : List Entry) → Gathers fits s before e next out after → out.end ≢ Some Store
gathers_not_store true s next before e out after g = λ same. let says = ap (λ (o : OutData). o.end) g.1 in cc
gathers_not_store false s next before e out after g = ends_with Full out (λ h. cc) g.1

pub plain_not_store : (limits : Limits) (s next : SessionData) (before : List Entry) (frame : FrameData) (out : OutData) (after : List Entry) → IsPlain frame → Takes limits s before frame next out after → out.end ≢ Some Store
plain_not_store limits s next before (Hello hello) out after p t = fault_not_store s next before out after (Greets s.role s before hello next out after) (hello_fault s hello) t (greets_not_store s.role s next before hello out after)
plain_not_store limits s next before OtherVersion out after p t = ends_with _ out (λ h. cc) t.1
plain_not_store limits s next before (Item e) out after p t =
    fault_not_store s next before out after (Gathers (is_within (s.waiting ++ gathers s e)) s before e next out after) (item_fault s e) t (gathers_not_store (is_within (s.waiting ++ gathers s e)) s next before e out after)
plain_not_store limits s next before (BadItem why) out after p t = ends_with _ out (λ h. cc) t.1
plain_not_store limits s next before (Turn turn) out after p t = absurd p
plain_not_store limits s next before (NoFrame place) out after p t = ends_with _ out (λ h. cc) t.1

replies_not_store : (both first : Bool) (s next : SessionData) (turn own : TurnData) (out : OutData) → Replies both first s turn own next out → out.end ≢ Some Store
replies_not_store true first s next turn own out r = ends_with Done out (λ h. cc) r.1
replies_not_store false first s next turn own out r = λ same. by_have (own.have && turn.have) (sym (ap (λ (o : OutData). o.end) r.6) ∙ same)
  where
    by_have : (b : Bool) → (if b then Some Done else None) ≢ Some Store
    by_have true h = cc
    by_have false h = cc

pub judged_not_store : (fault : Option PeerFault) (old s next : SessionData) (turn own : TurnData) (out : OutData) → Judges fault old s turn own next out → out.end ≢ Some Store
judged_not_store None old s next turn own out j = replies_not_store (old.sent_have && turn.have) (is_first old.role old.reading) s next turn own out j
judged_not_store (Some fault) old s next turn own out j = ends_with (Peer fault) out (λ h. cc) j.1

-- ---- the same of what the code hands out

pub store_free : (r : Result Out AllocError) (P : Out → Type 0) (X : Type 0) → ((out : Out) → P out → out.end ≢ Some Store) → IfOk r P → IfOk r (λ out. out.end ≡ Some Store → X)
store_free (Ok out) P X f p = λ is. absurd (f out p is)
store_free (Err e) P X f p = tt

pub closed_not_store : (ending : End) (out : Out) → ending ≢ Store → ((list : List Entry) → out_of list out ≡ closing ending) → out.end ≢ Some Store
closed_not_store ending out other says = ends_with ending (out_of [] out) other (says [])

pub silent_not_store : (out : Out) → ((list : List Entry) → out_of list out ≡ silent) → out.end ≢ Some Store
silent_not_store out says same = let never = ap (λ (o : OutData). o.end) (says []) in cc

pub settles_not_store : (list : List Entry) (n : ℕ) (w : List (List ℕ)) (turn : TurnData) (k next : Kept) (out : Out) → SettlesTo list n w turn k next out → out.end ≢ Some Store
settles_not_store list n w turn k next out s = judged_not_store (late_fault (whole (take k.below list) k) turn s.own) (whole (take k.below list) k) (whole (take k.below list) (with_commit n w turn.have k)) (whole (take k.below list) next) turn s.own (out_of list out) s.judges
