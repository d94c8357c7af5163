-- What an end is handed and sends is of a set, where all is that it had before.
use Rattle.std.proofs.Common.{◌≡◌, inl, inr, Bool, true, false, not, ◌&&◌, ◌||◌, if◌then◌else◌, List, [], ◌∷◌, ◌++◌, map, find, Contains, Option, Some, None, refl, sym, ap, subst, ◌∙◌}
use Rattle.std.specs.List.{AllByRecursion}
use Rattle.update_model.specs.declared.update_id.UpdateId.{UpdateId}
use Rattle.update_model.specs.Batch.{Limits}
use Rattle.update_model.specs.Entry.{Entry, same_id}
use Rattle.update_model.specs.Graph.{holds, is_within}
use Rattle.update_model.specs.Rule.{RuleData}
use Rattle.session_rules.specs.Commit.{Committed, Added, TooMuch, DiskFault, Commits}
use Rattle.session_rules.specs.Pair.{PairData, frames_of, hello_frames, swapped, turn_frames}
use Rattle.session_rules.specs.declared.role.Role.{Role}
use Rattle.session_rules.specs.declared.role.Role.TheVariants.{Initiator, Responder}
use Rattle.session_rules.specs.declared.end.End.{End}
use Rattle.session_rules.specs.declared.end.End.TheVariants.{Peer, Full}
use Rattle.session_rules.specs.declared.peer_fault.PeerFault.{PeerFault}
use Rattle.session_rules.specs.State.{HelloData, TurnData, FrameData, Hello, OtherVersion, Item, BadItem, Turn, NoFrame, SessionData, OutData}
use Rattle.session_rules.specs.Steps.{answers, committed, gathers, hello_fault, item_fault, turn_fault, is_first, in_burst, late_fault, Concludes, Ends, Gathers, Greets, IsBurstFor, IsSent, Judges, Replies, Settles, Steps, StepsBy, Takes, Unless}
use Rattle.session_rules.proofs.Words.{each_append, each_filter, each_member, each_weaker}
use Rattle.session_rules.proofs.Growth.{steps_grow}
use Rattle.session_rules.proofs.Held.{Within}
use Rattle.session_rules.proofs.Sends.{burst_within}
use Rattle.bloom_summary.specs.Bloom.{is_member}
use Rattle.sync_session.specs.Carrying.{Arrives, Hands, HandsOn, at_first, then_a, then_b}

module _ (P : Entry → Type 0) where
  abbrev pub FrameIn : FrameData → Type 0
  FrameIn (Hello hello) = Unit {0}
  FrameIn OtherVersion = Unit {0}
  FrameIn (Item e) = P e
  FrameIn (BadItem why) = Unit {0}
  FrameIn (Turn turn) = Unit {0}
  FrameIn (NoFrame place) = Unit {0}

  -- what an end has is of the set
  pub record EndIn (s : SessionData) : Type 0 where
    pub start : AllByRecursion P s.start
    pub waiting : AllByRecursion P s.waiting
    pub gathered : AllByRecursion P s.gathered

  -- after a step
  pub record StepIn (next : SessionData) (out : OutData) : Type 0 where
    pub end : EndIn next
    pub send : AllByRecursion P out.send

  kept : (s next : SessionData) (out : OutData) → EndIn s → next.start ≡ s.start → next.waiting ≡ s.waiting → next.gathered ≡ s.gathered → out.send ≡ [] → StepIn next out
  kept s next out e start waiting gathered none = record {
    end = record {
      start = subst (AllByRecursion P) (sym start) e.start;
      waiting = subst (AllByRecursion P) (sym waiting) e.waiting;
      gathered = subst (AllByRecursion P) (sym gathered) e.gathered;
    };
    send = subst (AllByRecursion P) (sym none) tt;
  }

  emptied : (s next : SessionData) (out : OutData) → EndIn s → next.start ≡ s.start → next.waiting ≡ [] → next.gathered ≡ [] → out.send ≡ [] → StepIn next out
  emptied s next out e start waiting gathered none = record {
    end = record { start = subst (AllByRecursion P) (sym start) e.start; waiting = subst (AllByRecursion P) (sym waiting) tt; gathered = subst (AllByRecursion P) (sym gathered) tt };
    send = subst (AllByRecursion P) (sym none) tt;
  }

  ended_in : (s next : SessionData) (before : List Entry) (ending : End) (out : OutData) (after : List Entry) → EndIn s → Ends s before ending next out after → StepIn next out
  ended_in s next before ending out after e u =
      kept s next out e (ap (λ (x : SessionData). x.start) u.0) (ap (λ (x : SessionData). x.waiting) u.0) (ap (λ (x : SessionData). x.gathered) u.0) (ap (λ (o : OutData). o.send) u.1)

  found_in : (test : Entry → Bool) (xs : List Entry) → AllByRecursion P xs → (r : Option Entry) → find test xs ≡ r → (e : Entry) → r ≡ Some e → P e
  found_in test [] all r is e some = absurd cc
  found_in test (x ∷ xs) all r is e some = by_test (λ there. found_in test xs all.1 r there e some) (test x) refl
    where
      by_test : (find test xs ≡ r → P e) → (b : Bool) → test x ≡ b → P e
      by_test rest true passes = let here : find test (x ∷ xs) ≡ Some x = rw passes refl in let same : x ≡ e = cc in subst P same all.0
      by_test rest false fails = let later : find test (x ∷ xs) ≡ find test xs = rw fails refl in rest (sym later ∙ is)

  answers_in : (start : List Entry) (needs : List UpdateId) → AllByRecursion P start → AllByRecursion P (answers start needs)
  answers_in start [] all = tt
  answers_in start (id ∷ ids) all = by_found (answers_in start ids all) (find (λ e. same_id id e.id) start) refl
    where
      by_found : AllByRecursion P (answers start ids) → (r : Option Entry) → find (λ e. same_id id e.id) start ≡ r → AllByRecursion P (answers start (id ∷ ids))
      by_found rest None is = rw is rest
      by_found rest (Some e) is = rw is (found_in (λ e. same_id id e.id) start all (Some e) is e refl, rest)

  of_start : (start send : List Entry) → AllByRecursion P start → Within start send → AllByRecursion P send
  of_start start send all within = each_weaker (λ e. Contains start e) P (λ e c. each_member P start e all c) send within

  burst_in : (start : List Entry) (peer : Option HelloData) (send : List Entry) → AllByRecursion P start → IsBurstFor start peer send → AllByRecursion P send
  burst_in start None send all is = subst (AllByRecursion P) (sym is) tt
  burst_in start (Some hello) send all burst = of_start start send all (burst_within start hello.old (is_member hello.filter) send burst)

  sent_in : (first : Bool) (s : SessionData) (turn : TurnData) (send : List Entry) → AllByRecursion P s.start → IsSent first s turn send → AllByRecursion P send
  sent_in true s turn send all sent = burst_in s.start s.peer send all sent
  sent_in false s turn send all sent = subst (AllByRecursion P) (sym sent) (answers_in s.start turn.needs all)

  module _ (limits : Limits) (s : SessionData) (before : List Entry) (next : SessionData) (out : OutData) (after : List Entry) (e : EndIn s) (list : AllByRecursion P before) where
    by_fault : (G : Type 0) (fault : Option PeerFault) → Unless fault s before next out after G → (G → StepIn next out) → StepIn next out
    by_fault G None u f = f u
    by_fault G (Some fault) u f = ended_in s next before (Peer fault) out after e u

    greets_in : (hello : HelloData) (role : Role) → Greets role s before hello next out after → StepIn next out
    greets_in hello Initiator g = kept s next out e (ap (λ (x : SessionData). x.start) g.0) (ap (λ (x : SessionData). x.waiting) g.0) (ap (λ (x : SessionData). x.gathered) g.0) (ap (λ (o : OutData). o.send) g.1)
    greets_in hello Responder g = record {
      end = record {
        start = subst (AllByRecursion P) (sym (ap (λ (x : SessionData). x.start) g.4.0)) list;
        waiting = subst (AllByRecursion P) (sym (ap (λ (x : SessionData). x.waiting) g.4.0)) e.waiting;
        gathered = subst (AllByRecursion P) (sym (ap (λ (x : SessionData). x.gathered) g.4.0)) e.gathered;
      };
      send = subst (AllByRecursion P) (sym (ap (λ (o : OutData). o.send) g.4.1)) (of_start before g.1 list (burst_within before hello.old (is_member hello.filter) g.1 g.3));
    }

    more_in : (b : Bool) (item : Entry) → P item → AllByRecursion P (if b then s.gathered else s.gathered ++ item ∷ [])
    more_in true item p = e.gathered
    more_in false item p = each_append P s.gathered (item ∷ []) e.gathered (p, tt)

    gathers_in : (fits : Bool) (item : Entry) → P item → Gathers fits s before item next out after → StepIn next out
    gathers_in true item p g = record {
      end = record {
        start = subst (AllByRecursion P) (sym (ap (λ (x : SessionData). x.start) g.0)) e.start;
        waiting = subst (AllByRecursion P) (sym (ap (λ (x : SessionData). x.waiting) g.0)) e.waiting;
        gathered = subst (AllByRecursion P) (sym (ap (λ (x : SessionData). x.gathered) g.0)) (more_in (in_burst s.reading && (holds s.gathered item.id || holds s.waiting item.id)) item p);
      };
      send = subst (AllByRecursion P) (sym (ap (λ (o : OutData). o.send) g.1)) tt;
    }
    gathers_in false item p g = ended_in s next before Full out after e g

    settled_in : (start waiting : List Entry) → AllByRecursion P waiting → next.start ≡ s.start → next.waiting ≡ waiting → next.gathered ≡ [] → AllByRecursion P out.send → StepIn next out
    settled_in start waiting all same_start same_waiting none send = record {
      end = record {
        start = subst (AllByRecursion P) (sym same_start) e.start;
        waiting = subst (AllByRecursion P) (sym same_waiting) all;
        gathered = subst (AllByRecursion P) (sym none) tt;
      };
      send = send;
    }

    replies_in : (turn own : TurnData) (added waits : List Entry) (both first : Bool) → AllByRecursion P waits → Replies both first (committed s turn added waits) turn own next out → StepIn next out
    replies_in turn own added waits true first all r =
        settled_in s.start waits all (ap (λ (x : SessionData). x.start) r.0) (ap (λ (x : SessionData). x.waiting) r.0) (ap (λ (x : SessionData). x.gathered) r.0) (subst (AllByRecursion P) (sym (ap (λ (o : OutData). o.send) r.1)) tt)
    replies_in turn own added waits false first all r =
        settled_in s.start waits all (ap (λ (x : SessionData). x.start) r.7) (ap (λ (x : SessionData). x.waiting) r.7) (ap (λ (x : SessionData). x.gathered) r.7)
        (subst (AllByRecursion P) (sym (ap (λ (o : OutData). o.send) r.6)) (sent_in first (committed s turn added waits) turn r.0 e.start r.3))

    judges_in : (turn own : TurnData) (added waits : List Entry) (fault : Option PeerFault) → AllByRecursion P waits → Judges fault s (committed s turn added waits) turn own next out → StepIn next out
    judges_in turn own added waits None all j = replies_in turn own added waits (s.sent_have && turn.have) (is_first s.role s.reading) all j
    judges_in turn own added waits (Some fault) all j =
        settled_in s.start waits all (ap (λ (x : SessionData). x.start) j.0) (ap (λ (x : SessionData). x.waiting) j.0) (ap (λ (x : SessionData). x.gathered) j.0) (subst (AllByRecursion P) (sym (ap (λ (o : OutData). o.send) j.1)) tt)

    refused_in : (start : next.start ≡ s.start) → next.waiting ≡ [] → next.gathered ≡ [] → out.send ≡ [] → StepIn next out
    refused_in start waiting gathered none = settled_in s.start [] tt start waiting gathered (subst (AllByRecursion P) (sym none) tt)

    settles_in : (turn : TurnData) (answer : Committed) → Commits limits before (s.waiting ++ s.gathered) answer after → Concludes answer s turn after next out → StepIn next out
    settles_in turn (Added added waits) c g =
        let batch = each_append P s.waiting s.gathered e.waiting e.gathered in
        judges_in turn g.0 added waits (late_fault s turn g.0) (subst (AllByRecursion P) (sym c.0.rest) (each_filter P (λ m. not (holds (before ++ added) m.id)) (s.waiting ++ s.gathered) batch)) g.2
    settles_in turn TooMuch c g = refused_in (ap (λ (x : SessionData). x.start) g.0) (ap (λ (x : SessionData). x.waiting) g.0) (ap (λ (x : SessionData). x.gathered) g.0) (ap (λ (o : OutData). o.send) g.1)
    settles_in turn DiskFault c g = refused_in (ap (λ (x : SessionData). x.start) g.0) (ap (λ (x : SessionData). x.waiting) g.0) (ap (λ (x : SessionData). x.gathered) g.0) (ap (λ (o : OutData). o.send) g.1)

    takes_in : (frame : FrameData) → FrameIn frame → Takes limits s before frame next out after → StepIn next out
    takes_in (Hello hello) p t = by_fault (Greets s.role s before hello next out after) (hello_fault s hello) t (greets_in hello s.role)
    takes_in OtherVersion p t = ended_in s next before _ out after e t
    takes_in (Item item) p t = by_fault (Gathers (is_within (s.waiting ++ gathers s item)) s before item next out after) (item_fault s item) t (gathers_in (is_within (s.waiting ++ gathers s item)) item p)
    takes_in (BadItem why) p t = ended_in s next before _ out after e t
    takes_in (Turn turn) p t = by_fault (Settles limits s before turn next out after) (turn_fault s turn) t (λ g. settles_in turn g.0 g.1 g.2)
    takes_in (NoFrame place) p t = ended_in s next before _ out after e t

    by_ended : (ended : Option End) (frame : FrameData) → FrameIn frame → StepsBy ended limits s before frame next out after → StepIn next out
    by_ended (Some ending) frame p t = kept s next out e (ap (λ (x : SessionData). x.start) t.0) (ap (λ (x : SessionData). x.waiting) t.0) (ap (λ (x : SessionData). x.gathered) t.0) (ap (λ (o : OutData). o.send) t.1)
    by_ended None frame p t = takes_in frame p t

    pub steps_in : (frame : FrameData) → FrameIn frame → Steps limits s before frame next out after → StepIn next out
    steps_in frame p t = by_ended s.ended frame p t

    -- and so is its list
    pub list_in : (frame : FrameData) → Steps limits s before frame next out after → AllByRecursion P after
    list_in frame t =
        let g = steps_grow limits s before next out after frame t in
        let batch = each_append P s.waiting s.gathered e.waiting e.gathered in
        subst (AllByRecursion P) (sym g.is) (each_append P before g.new list (each_weaker (λ x. Contains (s.waiting ++ s.gathered) x) P (λ x c. each_member P (s.waiting ++ s.gathered) x batch c) g.new g.from))

  -- ---- two ends

  abbrev pub FramesIn : List FrameData → Type 0
  FramesIn frames = AllByRecursion FrameIn frames

  pub record PairIn (p : PairData) : Type 0 where
    pub a : EndIn p.a
    pub list_a : AllByRecursion P p.list_a
    pub b : EndIn p.b
    pub list_b : AllByRecursion P p.list_b
    pub to_a : FramesIn p.to_a
    pub to_b : FramesIn p.to_b

  pub swapped_in : (p : PairData) → PairIn p → PairIn (swapped p)
  swapped_in p i = record { a = i.b; list_a = i.list_b; b = i.a; list_b = i.list_a; to_a = i.to_b; to_b = i.to_a }

  items_in : (es : List Entry) → AllByRecursion P es → FramesIn (map Item es)
  items_in [] all = tt
  items_in (e ∷ es) all = (all.0, items_in es all.1)

  hello_in : (hello : Option HelloData) → FramesIn (hello_frames hello)
  hello_in None = tt
  hello_in (Some hello) = (tt, tt)

  turn_in : (turn : Option TurnData) → FramesIn (turn_frames turn)
  turn_in None = tt
  turn_in (Some turn) = (tt, tt)

  pub arrives_in : (rule : RuleData) (frame arrived : FrameData) → FrameIn frame → Arrives rule frame arrived → FrameIn arrived
  arrives_in rule (Item e) arrived p (inl fine) = subst FrameIn (sym fine.0) p
  arrives_in rule (Item e) arrived p (inr bad) = subst FrameIn (sym bad.1) tt
  arrives_in rule (Hello hello) arrived p is = subst FrameIn (sym is) tt
  arrives_in rule OtherVersion arrived p is = subst FrameIn (sym is) tt
  arrives_in rule (BadItem why) arrived p is = subst FrameIn (sym is) tt
  arrives_in rule (Turn turn) arrived p is = subst FrameIn (sym is) tt
  arrives_in rule (NoFrame place) arrived p is = subst FrameIn (sym is) tt

  pub hands_in : (limits : Limits) (rule : RuleData) (p q : PairData) → Hands limits rule p q → PairIn p → PairIn q
  hands_in limits rule p q k i =
      let way = subst FramesIn k.first i.to_a in
      let came = arrives_in rule k.frame k.arrived way.0 k.arrives in
      let s = steps_in limits p.a p.list_a k.next k.out k.after i.a i.list_a k.arrived came k.step in
      rw k.is (record {
        a = s.end;
        list_a = list_in limits p.a p.list_a k.next k.out k.after i.a i.list_a k.arrived k.step;
        b = i.b;
        list_b = i.list_b;
        to_a = way.1;
        to_b = each_append FrameIn p.to_b (frames_of k.out) i.to_b (each_append FrameIn (hello_frames k.out.hello) (map Item k.out.send ++ turn_frames k.out.turn) (hello_in k.out.hello) (each_append FrameIn (map Item k.out.send) (turn_frames k.out.turn) (items_in k.out.send s.send) (turn_in k.out.turn)));
      })

  -- a whole run stays in the set
  pub run_in : (limits_a limits_b : Limits) (rule_a rule_b : RuleData) (p q : PairData) → HandsOn limits_a limits_b rule_a rule_b p q → PairIn p → PairIn q
  run_in limits_a limits_b rule_a rule_b p q (at_first q' is) i = subst PairIn (sym is) i
  run_in limits_a limits_b rule_a rule_b p q (then_a m q' before k) i = hands_in limits_a rule_a m q k (run_in limits_a limits_b rule_a rule_b p m before i)
  run_in limits_a limits_b rule_a rule_b p q (then_b m q' before k) i =
      swapped_in (swapped q) (hands_in limits_b rule_b (swapped m) (swapped q) k (swapped_in m (run_in limits_a limits_b rule_a rule_b p m before i)))
