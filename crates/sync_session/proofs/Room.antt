-- Where all that two holders have is within the limits of an end, that end never finds that it is full.
use Rattle.std.proofs.Common.{◌≡◌, ◌≢◌, inl, inr, ℕ, zero, suc, Bool, true, false, not, ◌&&◌, ◌||◌, if◌then◌else◌, List, [], ◌∷◌, ◌++◌, append-nil, append_assoc, take, nat_lt, length, map, ◌≤◌, le-leb, leb-true, Contains, Option, Some, None, refl, sym, ap, subst, ◌∙◌, arith}
use Rattle.std.specs.List.{AllByRecursion}
use Rattle.session_rules.specs.declared.limits.TheConstants.{MAX_ITEMS, MAX_NEEDS}
use Rattle.update_model.specs.declared.update_id.UpdateId.{UpdateId}
use Rattle.update_model.specs.Batch.{Limits, fits, store_limits}
use Rattle.update_model.specs.Entry.{Entry, same_id}
use Rattle.update_model.specs.Graph.{byte_count, has, holds, names, is_within, IsClosed}
use Rattle.update_model.specs.Rule.{RuleData}
use Rattle.update_model.proofs.Closed.{Follows-join}
use Rattle.update_model.proofs.Ids.{id_from_same, same_id-refl, same_id-symm}
use Rattle.session_rules.specs.Commit.{Committed, Added, TooMuch, DiskFault, Commits}
use Rattle.session_rules.specs.Laws.{NoCollision}
use Rattle.session_rules.specs.Pair.{PairData, missing, swapped}
use Rattle.session_rules.specs.declared.role.Role.{Role}
use Rattle.session_rules.specs.declared.role.Role.TheVariants.{Initiator, Responder}
use Rattle.session_rules.specs.declared.end.End.{End}
use Rattle.session_rules.specs.declared.end.End.TheVariants.{Done, Peer, Full, Store}
use Rattle.session_rules.specs.declared.peer_fault.PeerFault.{PeerFault}
use Rattle.session_rules.specs.declared.peer_fault.PeerFault.TheVariants.{OutOfTurn, Unanswered}
use Rattle.session_rules.specs.State.{HelloData, TurnData, FrameData, Hello, OtherVersion, Item, BadItem, Turn, NoFrame, Reading, Opening, Burst, Answers, SessionData, OutData}
use Rattle.session_rules.specs.Steps.{after_item, answer_fault, committed, gathers, heads_in, hello_fault, in_burst, is_first, is_wanted, item_fault, late_fault, takes_item, turn_fault, AreNeeds, Concludes, Ends, Gathers, Greets, Judges, Replies, Settles, Steps, StepsBy, Takes, Unless}
use Rattle.session_rules.proofs.Ends.{Adds-closed}
use Rattle.session_rules.proofs.Growth.{steps_grow}
use Rattle.session_rules.proofs.Held.{has_member, held_witness, holds_append}
use Rattle.session_rules.proofs.Needs.{least_passes}
use Rattle.session_rules.proofs.Pigeons.{AreDistinct, rising_distinct}
use Rattle.session_rules.proofs.Words.{and_both, and_join, filter_member, is_either, each_append, each_from, each_member, each_weaker, not_true}
use Rattle.update_check.specs.Holding.{IsHeld}
use Rattle.update_codec.specs.Parts.{entry_of}
use Rattle.update_model.specs.declared.limits.TheConstants.{MAX_BYTES, MAX_MEMBERS}
use Rattle.std.proofs.lemmas.List.Elements.{Contains-append_left, Contains-append_right}
use Rattle.sync_session.specs.Carrying.{Begins, EndsBy, Hands, HandsOn, at_first, then_a, then_b, HasRoom, Syncs}
use Rattle.sync_session.specs.declared.pair.PairStart.{PairStart}
use Rattle.sync_session.specs.declared.pair.PairEnd.{PairEnd}
use Rattle.sync_session.proofs.Syncing.{begins_in}
use Rattle.sync_session.proofs.Weights.{AreApart, apart_filter, apart_more, closed_apart, fewer_held, fits_within, or_neither}
use Rattle.sync_session.proofs.Within.{EndIn, FrameIn, FramesIn, PairIn, arrives_in, run_in, swapped_in}

-- ids that are still to come, and that are not there
abbrev AreDue : Reading → List Entry → Type 0
AreDue Opening there = Unit {0}
AreDue Burst there = Unit {0}
AreDue (Answers ids) there = AreDistinct ids × AllByRecursion (λ id. holds there id ≡ false) ids

-- what waits, what is gathered and what is still to come have distinct ids
pub record IsApart (s : SessionData) : Type 0 where
  pub there : AreApart (s.waiting ++ s.gathered)
  pub due : AreDue s.reading (s.waiting ++ s.gathered)

due_still : (reading : Reading) (there less : List Entry) → ((id : UpdateId) → holds there id ≡ false → holds less id ≡ false) → AreDue reading there → AreDue reading less
due_still Opening there less f d = tt
due_still Burst there less f d = tt
due_still (Answers ids) there less f d = (d.0, each_weaker (λ id. holds there id ≡ false) (λ id. holds less id ≡ false) f ids d.1)

-- ---- an update that comes

module _ (there : List Entry) (item : Entry) where
  holds_more : (id : UpdateId) → holds there id ≡ false → same_id id item.id ≡ false → holds (there ++ item ∷ []) id ≡ false
  holds_more id none other = holds_append there (item ∷ []) id ∙ (rw (none, other) refl)

  still_due : (ids : List UpdateId) → has ids item.id ≡ false → AllByRecursion (λ id. holds there id ≡ false) ids → AllByRecursion (λ id. holds (there ++ item ∷ []) id ≡ false) ids
  still_due [] none all = tt
  still_due (id ∷ ids) none all =
      let both = or_neither (same_id item.id id) (has ids item.id) none in
      (holds_more id all.0 (same_id-symm id item.id ∙ both.0), still_due ids both.1 all.1)

passes : (few due : Bool) (fault other : PeerFault) → (if few then (if due then None else Some fault) else Some other) ≡ None → due ≡ true
passes true true fault other e = refl
passes true false fault other e = absurd cc
passes false due fault other e = absurd cc

abbrev more : Reading → List Entry → List Entry → Entry → List Entry
more reading waiting gathered item = if in_burst reading && (holds gathered item.id || holds waiting item.id) then gathered else gathered ++ item ∷ []

fresh : (reading : Reading) (items : ℕ) (waiting gathered : List Entry) (item : Entry) → (if takes_item reading items then answer_fault reading item.id else Some OutOfTurn) ≡ None
    → AreApart (waiting ++ gathered) → AreDue reading (waiting ++ gathered)
    → AreApart (waiting ++ more reading waiting gathered item) × AreDue (after_item reading) (waiting ++ more reading waiting gathered item)
fresh Opening items waiting gathered item none a d = absurd cc
fresh Burst items waiting gathered item none a d = by_test (holds gathered item.id || holds waiting item.id) refl
  where
    by_test : (b : Bool) → (holds gathered item.id || holds waiting item.id) ≡ b
        → AreApart (waiting ++ (if holds gathered item.id || holds waiting item.id then gathered else gathered ++ item ∷ [])) × Unit {0}
    by_test true is = rw is (a, tt)
    by_test false is =
        let both = or_neither (holds gathered item.id) (holds waiting item.id) is in
        let none : holds (waiting ++ gathered) item.id ≡ false = holds_append waiting gathered item.id ∙ (rw (both.0, both.1) refl) in
        rw is (subst AreApart (append_assoc waiting gathered (item ∷ [])) (apart_more (waiting ++ gathered) item a none), tt)
fresh (Answers []) items waiting gathered item none a d = absurd cc
fresh (Answers (due ∷ ids)) items waiting gathered item none a d =
    let is : due ≡ item.id = id_from_same due item.id (passes (nat_lt items MAX_ITEMS) (same_id due item.id) (Unanswered due) OutOfTurn none) in
    let new : holds (waiting ++ gathered) item.id ≡ false = subst (λ (i : UpdateId). holds (waiting ++ gathered) i ≡ false) is d.1.0 in
    let once : has ids item.id ≡ false = subst (λ (i : UpdateId). has ids i ≡ false) is d.0.0 in (
      subst AreApart (append_assoc waiting gathered (item ∷ [])) (apart_more (waiting ++ gathered) item a new),
      (d.0.1, subst (λ (es : List Entry). AllByRecursion (λ id. holds es id ≡ false) ids) (append_assoc waiting gathered (item ∷ [])) (still_due (waiting ++ gathered) item ids once d.1.1)),
    )

-- ---- what is asked for

has_take_none : (n : ℕ) (ids : List UpdateId) (id : UpdateId) → has ids id ≡ false → has (take n ids) id ≡ false
has_take_none zero [] id none = refl
has_take_none zero (x ∷ xs) id none = refl
has_take_none (suc n) [] id none = refl
has_take_none (suc n) (x ∷ xs) id none = let both = or_neither (same_id id x) (has xs id) none in let rest = has_take_none n xs id both.1 in rw (both.0, rest) refl

distinct_take : (n : ℕ) (ids : List UpdateId) → AreDistinct ids → AreDistinct (take n ids)
distinct_take zero [] d = tt
distinct_take zero (x ∷ xs) d = tt
distinct_take (suc n) [] d = tt
distinct_take (suc n) (x ∷ xs) d = (has_take_none n xs x d.0, distinct_take n xs d.1)

needs_due : (have : Bool) (heads : List UpdateId) (now waiting : List Entry) (asked needs : List UpdateId) → AreNeeds have (is_wanted heads now waiting asked) needs
    → AreDistinct needs × AllByRecursion (λ id. holds waiting id ≡ false) needs
needs_due true heads now waiting asked needs none = rw none (tt, tt)
needs_due false heads now waiting asked needs least = (
  rw least.front (distinct_take MAX_NEEDS least.all (rising_distinct least.all least.rising)),
  each_from (λ id. holds waiting id ≡ false) needs (λ id c. waits_not id (least_passes (is_wanted heads now waiting asked) MAX_NEEDS needs id least (has_member needs id c))),
)
  where
    waits_not : (id : UpdateId) → is_wanted heads now waiting asked id ≡ true → holds waiting id ≡ false
    waits_not id wanted =
        let one = and_both (has heads id || names waiting id) (not (holds now id) && (not (holds waiting id) && not (has asked id))) wanted in
        let two = and_both (not (holds now id)) (not (holds waiting id) && not (has asked id)) one.1 in
        not_true (holds waiting id) (and_both (not (holds waiting id)) (not (has asked id)) two.1).0

-- ---- one frame

-- an end that has found room so far
pub record HasFound (s : SessionData) (list : List Entry) : Type 0 where
  pub apart : IsApart s
  pub closed : IsClosed list
  pub room : s.ended ≢ Some Full

module _ (limits : Limits) (all : List Entry) (fit : fits limits all ≡ true) (small : fits store_limits all ≡ true) (s : SessionData) (before : List Entry) (next : SessionData) (out : OutData) (after : List Entry)
    (e : EndIn (Contains all) s) (list : AllByRecursion (Contains all) before) (r : HasFound s before) where
  abbrev Still : Type 0
  Still = IsApart next × (next.ended ≢ Some Full)

  -- nothing else came or went
  same_there : next.waiting ≡ s.waiting → next.gathered ≡ s.gathered → AreDue next.reading (s.waiting ++ s.gathered) → next.ended ≢ Some Full → Still
  same_there waiting gathered due room = (record { there = rw (waiting, gathered) r.apart.there; due = rw (waiting, gathered) due }, room)

  not_full : (ending : End) → next.ended ≡ Some ending → ending ≢ Full → next.ended ≢ Some Full
  not_full ending is other full = let same : Some ending ≡ Some Full = sym is ∙ full in other cc

  ended_so : (ending : End) → ending ≢ Full → Ends s before ending next out after → Still
  ended_so ending other u = same_there (ap (λ (x : SessionData). x.waiting) u.0) (ap (λ (x : SessionData). x.gathered) u.0)
      (subst (λ (o : Reading). AreDue o (s.waiting ++ s.gathered)) (sym (ap (λ (x : SessionData). x.reading) u.0)) r.apart.due) (not_full ending (ap (λ (x : SessionData). x.ended) u.0) other)

  by_fault : (G : Type 0) (of fault : Option PeerFault) → of ≡ fault → Unless fault s before next out after G → (of ≡ None → G → Still) → Still
  by_fault G of (Some f) is u k = ended_so (Peer f) (λ full. cc) u
  by_fault G of None is u k = k is u

  still_runs : next.ended ≡ s.ended → next.ended ≢ Some Full
  still_runs same full = r.room (sym same ∙ full)

  greets_found : (hello : HelloData) (role : Role) → Greets role s before hello next out after → Still
  greets_found hello Initiator g = same_there (ap (λ (x : SessionData). x.waiting) g.0) (ap (λ (x : SessionData). x.gathered) g.0)
      (subst (λ (o : Reading). AreDue o (s.waiting ++ s.gathered)) (sym (ap (λ (x : SessionData). x.reading) g.0)) tt) (still_runs (ap (λ (x : SessionData). x.ended) g.0))
  greets_found hello Responder g = same_there (ap (λ (x : SessionData). x.waiting) g.4.0) (ap (λ (x : SessionData). x.gathered) g.4.0)
      (subst (λ (o : Reading). AreDue o (s.waiting ++ s.gathered)) (sym (ap (λ (x : SessionData). x.reading) g.4.0)) tt) (still_runs (ap (λ (x : SessionData). x.ended) g.4.0))

  of_all : (item : Entry) (b : Bool) → Contains all item → AllByRecursion (Contains all) (s.waiting ++ (if b then s.gathered else s.gathered ++ item ∷ []))
  of_all item true c = each_append (Contains all) s.waiting s.gathered e.waiting e.gathered
  of_all item false c = each_append (Contains all) s.waiting (s.gathered ++ item ∷ []) e.waiting (each_append (Contains all) s.gathered (item ∷ []) e.gathered (c, tt))

  gathers_found : (item : Entry) → Contains all item → item_fault s item ≡ None → (fit : Bool) → is_within (s.waiting ++ gathers s item) ≡ fit → Gathers fit s before item next out after → Still
  gathers_found item c none true is g =
      let f = fresh s.reading s.items s.waiting s.gathered item none r.apart.there r.apart.due in
      let waiting = ap (λ (x : SessionData). x.waiting) g.0 in
      let gathered = ap (λ (x : SessionData). x.gathered) g.0 in
      let reading = ap (λ (x : SessionData). x.reading) g.0 in
      (record { there = rw (waiting, gathered) f.0; due = rw (waiting, gathered, reading) f.1 }, still_runs (ap (λ (x : SessionData). x.ended) g.0))
  gathers_found item c none false is g =
      let f = fresh s.reading s.items s.waiting s.gathered item none r.apart.there r.apart.due in
      absurd (let fine : is_within (s.waiting ++ gathers s item) ≡ true = fits_within store_limits (s.waiting ++ gathers s item) all f.0 (of_all item (in_burst s.reading && (holds s.gathered item.id || holds s.waiting item.id)) c) small in cc)

  -- after a commit
  settled : (waits : List Entry) → AreApart waits → next.waiting ≡ waits → next.gathered ≡ [] → AreDue next.reading waits → next.ended ≢ Some Full → Still
  settled waits a waiting gathered due room =
      let same : next.waiting ++ next.gathered ≡ waits = (rw (waiting, gathered) (append-nil waits)) in
      (record { there = subst AreApart (sym same) a; due = subst (AreDue next.reading) (sym same) due }, room)

  module _ (turn own : TurnData) (added waits : List Entry) (apart : AreApart waits) (less : (id : UpdateId) → holds (s.waiting ++ s.gathered) id ≡ false → holds waits id ≡ false)
      (own_due : AreDistinct own.needs × AllByRecursion (λ id. holds waits id ≡ false) own.needs) where
    old_due : next.reading ≡ s.reading → AreDue next.reading waits
    old_due is = subst (λ (o : Reading). AreDue o waits) (sym is) (due_still s.reading (s.waiting ++ s.gathered) waits less r.apart.due)

    replies_found : (both first : Bool) → Replies both first (committed s turn added waits) turn own next out → Still
    replies_found true first g = settled waits apart (ap (λ (x : SessionData). x.waiting) g.0) (ap (λ (x : SessionData). x.gathered) g.0) (old_due (ap (λ (x : SessionData). x.reading) g.0))
        (not_full Done (ap (λ (x : SessionData). x.ended) g.0) (λ full. cc))
    replies_found false first g = settled waits apart (ap (λ (x : SessionData). x.waiting) g.7) (ap (λ (x : SessionData). x.gathered) g.7)
        (subst (λ (o : Reading). AreDue o waits) (sym (ap (λ (x : SessionData). x.reading) g.7)) own_due) (by_both (own.have && turn.have) (ap (λ (x : SessionData). x.ended) g.7))
      where
        by_both : (b : Bool) → next.ended ≡ (if b then Some Done else None) → next.ended ≢ Some Full
        by_both true is full = let same : Some Done ≡ Some Full = sym is ∙ full in cc
        by_both false is full = let same : None ≡ Some Full = sym is ∙ full in cc

    judges_found : (fault : Option PeerFault) → Judges fault s (committed s turn added waits) turn own next out → Still
    judges_found (Some f) g = settled waits apart (ap (λ (x : SessionData). x.waiting) g.0) (ap (λ (x : SessionData). x.gathered) g.0) (old_due (ap (λ (x : SessionData). x.reading) g.0))
        (not_full (Peer f) (ap (λ (x : SessionData). x.ended) g.0) (λ full. cc))
    judges_found None g = replies_found (s.sent_have && turn.have) (is_first s.role s.reading) g

  settles_found : (turn : TurnData) (answer : Committed) → Commits limits before (s.waiting ++ s.gathered) answer after → Concludes answer s turn after next out → Still
  settles_found turn (Added added waits) c g =
      let test : Entry → Bool = λ m. not (holds (before ++ added) m.id) in
      judges_found turn g.0 added waits (subst AreApart (sym c.0.rest) (apart_filter test (s.waiting ++ s.gathered) r.apart.there))
      (λ id none. subst (λ (es : List Entry). holds es id ≡ false) (sym c.0.rest) (fewer_held test (s.waiting ++ s.gathered) id none))
      (needs_due g.0.have (heads_in s.peer) after waits s.asked g.0.needs g.1.needs) (late_fault s turn g.0) g.2
  settles_found turn TooMuch c g =
      let batch = each_append (Contains all) s.waiting s.gathered e.waiting e.gathered in
      let apart = closed_apart [] (before ++ c.0.added) (Adds-closed before (s.waiting ++ s.gathered) c.0.added c.0.waiting r.closed c.0.adds) in
      let within = each_append (Contains all) before c.0.added list (each_weaker (Contains (s.waiting ++ s.gathered)) (Contains all) (λ x there. each_member (Contains all) (s.waiting ++ s.gathered) x batch there) c.0.added c.0.adds.from) in
      absurd (let fine : fits limits (before ++ c.0.added) ≡ true = fits_within limits (before ++ c.0.added) all apart within fit in let passed = c.0.passes in cc)
  settles_found turn DiskFault c g = settled [] tt (ap (λ (x : SessionData). x.waiting) g.0) (ap (λ (x : SessionData). x.gathered) g.0)
      (subst (λ (o : Reading). AreDue o []) (sym (ap (λ (x : SessionData). x.reading) g.0)) (due_still s.reading (s.waiting ++ s.gathered) [] (λ id none. refl) r.apart.due))
      (not_full Store (ap (λ (x : SessionData). x.ended) g.0) (λ full. cc))

  takes_found : (frame : FrameData) → FrameIn (Contains all) frame → Takes limits s before frame next out after → Still
  takes_found (Hello hello) p t = by_fault (Greets s.role s before hello next out after) (hello_fault s hello) (hello_fault s hello) refl t (λ none g. greets_found hello s.role g)
  takes_found OtherVersion p t = ended_so _ (λ full. cc) t
  takes_found (Item item) p t = by_fault (Gathers (is_within (s.waiting ++ gathers s item)) s before item next out after) (item_fault s item) (item_fault s item) refl t
      (λ none g. gathers_found item p none (is_within (s.waiting ++ gathers s item)) refl g)
  takes_found (BadItem why) p t = ended_so _ (λ full. cc) t
  takes_found (Turn turn) p t = by_fault (Settles limits s before turn next out after) (turn_fault s turn) (turn_fault s turn) refl t (λ none g. settles_found turn g.0 g.1 g.2)
  takes_found (NoFrame place) p t = ended_so _ (λ full. cc) t

  by_ended : (ended : Option End) (frame : FrameData) → FrameIn (Contains all) frame → StepsBy ended limits s before frame next out after → Still
  by_ended (Some ending) frame p t = same_there (ap (λ (x : SessionData). x.waiting) t.0) (ap (λ (x : SessionData). x.gathered) t.0)
      (subst (λ (o : Reading). AreDue o (s.waiting ++ s.gathered)) (sym (ap (λ (x : SessionData). x.reading) t.0)) r.apart.due) (still_runs (ap (λ (x : SessionData). x.ended) t.0))
  by_ended None frame p t = takes_found frame p t

  -- and after it
  pub found_after : (frame : FrameData) → FrameIn (Contains all) frame → Steps limits s before frame next out after → HasFound next after
  found_after frame p t =
      let still = by_ended s.ended frame p t in
      let g = steps_grow limits s before next out after frame t in
      record { apart = still.0; closed = subst IsClosed (sym g.is) (Follows-join [] before g.new r.closed g.follows); room = still.1 }

-- ---- a whole run

module _ (limits_a limits_b : Limits) (rule_a rule_b : RuleData) (all_a all_b : List Entry) (fit_a : fits limits_a all_a ≡ true) (fit_b : fits limits_b all_b ≡ true)
    (small_a : fits store_limits all_a ≡ true) (small_b : fits store_limits all_b ≡ true) where
  hands_found : (limits : Limits) (rule : RuleData) (all : List Entry) → fits limits all ≡ true → fits store_limits all ≡ true → (p q : PairData) → Hands limits rule p q → PairIn (Contains all) p
      → HasFound p.a p.list_a × HasFound p.b p.list_b → HasFound q.a q.list_a × HasFound q.b q.list_b
  hands_found limits rule all fit small p q k i f =
      let way = subst (FramesIn (Contains all)) k.first i.to_a in
      let came = arrives_in (Contains all) rule k.frame k.arrived way.0 k.arrives in
      rw k.is (found_after limits all fit small p.a p.list_a k.next k.out k.after i.a i.list_a f.0 k.arrived came k.step, f.1)

  pub run_found : (p q : PairData) → HandsOn limits_a limits_b rule_a rule_b p q → PairIn (Contains all_a) p → PairIn (Contains all_b) p → HasFound p.a p.list_a × HasFound p.b p.list_b
      → HasFound q.a q.list_a × HasFound q.b q.list_b
  run_found p q (at_first q' is) in_a in_b f = rw is f
  run_found p q (then_a m q' before k) in_a in_b f =
      hands_found limits_a rule_a all_a fit_a small_a m q k (run_in (Contains all_a) limits_a limits_b rule_a rule_b p m before in_a) (run_found p m before in_a in_b f)
  run_found p q (then_b m q' before k) in_a in_b f =
      let i = swapped_in (Contains all_b) m (run_in (Contains all_b) limits_a limits_b rule_a rule_b p m before in_b) in
      let was = run_found p m before in_a in_b f in
      let now = hands_found limits_b rule_b all_b fit_b small_b (swapped m) (swapped q) k i (was.1, was.0) in
      (now.1, now.0)

-- ---- of two lists

-- each member of the one or of the other is of the one, or is lacked by it
of_both : (own other : List Entry) → NoCollision own other → (AllByRecursion (Contains (own ++ missing own other)) own) × (AllByRecursion (Contains (own ++ missing own other)) other)
of_both own other alike = (
  each_from (Contains (own ++ missing own other)) own (λ e c. Contains-append_left own (missing own other) e c),
  each_from (Contains (own ++ missing own other)) other (λ e c. elim (is_either (holds own e.id)) [
    | inl held ↦
        let w = held_witness own e.id held in
        let is : w.0 ≡ e = alike w.0 e w.1 c (subst (λ (i : UpdateId). same_id i e.id ≡ true) w.2 (same_id-refl e.id)) in
        subst (Contains (own ++ missing own other)) is (Contains-append_left own (missing own other) w.0 w.1)
    | inr new ↦ Contains-append_right own (missing own other) e (filter_member (λ m. not (holds own m.id)) other e c (ap not new))
  ]),
)

swapped_alike : (own other : List Entry) → NoCollision own other → NoCollision other own
swapped_alike own other alike x y cx cy same = sym (alike y x cy cx (same_id-symm y.id x.id ∙ same))

never_full : (ending : End) (p : PairData) → EndsBy ending p → p.a.ended ≢ Some Full → p.b.ended ≢ Some Full → ending ≢ Full
never_full Done p ends a b is = cc
never_full (Peer fault) p ends a b is = cc
never_full Full p (inl full) a b is = a full
never_full Full p (inr full) a b is = b full
never_full Store p ends a b is = cc

small_from : (limits : Limits) (es : List Entry) → limits.updates ≤ MAX_MEMBERS → limits.bytes ≤ MAX_BYTES → fits limits es ≡ true → fits store_limits es ≡ true
small_from limits es updates bytes fit =
    let parts = and_both (_) (_) fit in
    let few = leb-true (length es) limits.updates parts.0 in
    let small = leb-true (byte_count es) limits.bytes parts.1 in
    and_join _ _ (le-leb (length es) MAX_MEMBERS (omega arith)) (le-leb (byte_count es) MAX_BYTES (omega arith))

-- where the union is within the limits of both, neither is full
pub room_for_all : (start : PairStart) (limits_a limits_b : Limits) (rule_a rule_b : RuleData) (before_a before_b after_a after_b : List (List ℕ)) (ended : PairEnd) → IsHeld limits_a rule_a before_a → IsHeld limits_b rule_b before_b
    → Syncs limits_a limits_b rule_a rule_b start before_a before_b ended after_a after_b → NoCollision (map entry_of before_a) (map entry_of before_b) → HasRoom limits_a before_a before_b → HasRoom limits_b before_b before_a
    → ended.a ≢ Full
room_for_all start limits_a limits_b rule_a rule_b before_a before_b after_a after_b ended held_a held_b s alike fit_a fit_b =
    let la = map entry_of before_a in
    let lb = map entry_of before_b in
    let one = of_both la lb alike in
    let two = of_both lb la (swapped_alike la lb alike) in
    let in_a = begins_in (Contains (la ++ missing la lb)) start la lb s.first s.begins one.0 one.1 in
    let in_b = begins_in (Contains (lb ++ missing lb la)) start la lb s.first s.begins two.1 two.0 in
    let found = run_found limits_a limits_b rule_a rule_b (la ++ missing la lb) (lb ++ missing lb la) fit_a fit_b
    (small_from limits_a (la ++ missing la lb) held_a.updates held_a.bytes fit_a) (small_from limits_b (lb ++ missing lb la) held_b.updates held_b.bytes fit_b)
    s.first s.last s.run in_a in_b (first_found s.first s.begins) in
    never_full ended.a s.last s.ends found.0.room found.1.room
  where
    first_found : (p : PairData) → Begins start (map entry_of before_a) (map entry_of before_b) p → HasFound p.a p.list_a × HasFound p.b p.list_b
    first_found p b = subst (λ (q : PairData). HasFound q.a q.list_a × HasFound q.b q.list_b) (sym b.is) (
      record { apart = record { there = tt; due = tt }; closed = held_a.closed; room = λ full. cc },
      record { apart = record { there = tt; due = tt }; closed = held_b.closed; room = λ full. cc },
    )
