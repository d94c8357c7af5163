-- What an end has gathered and what waits have distinct ids, whatever frames come.
use Rattle.std.proofs.Common.{◌≡◌, ℕ, Bool, true, false, not, ◌&&◌, ◌||◌, if◌then◌else◌, List, [], ◌∷◌, ◌++◌, Option, Some, None, refl, sym, ap, subst, ◌∙◌, append_assoc, append-nil, nat_lt}
use Rattle.std.specs.List.{AllByRecursion}
use Rattle.std.specs.List.Sorted.{IsStrictlySortedBy}
use Rattle.std.specs.declared.cmp.Ordering.TheVariants.{Less}
use Rattle.update_model.specs.declared.update_id.UpdateId.{UpdateId}
use Rattle.update_model.specs.Batch.{Limits}
use Rattle.update_model.specs.Entry.{Entry, id_cmp, same_id}
use Rattle.update_model.specs.Graph.{has, holds, names, is_within}
use Rattle.update_model.proofs.Ids.{id_from_same, same_id-refl, same_id-symm}
use Rattle.session_rules.specs.declared.limits.TheConstants.{MAX_ITEMS, MAX_NEEDS}
use Rattle.session_rules.specs.Commit.{Committed, Added, TooMuch, DiskFault, Commits}
use Rattle.session_rules.specs.declared.role.Role.{Role}
use Rattle.session_rules.specs.declared.role.Role.TheVariants.{Initiator, Responder}
use Rattle.session_rules.specs.declared.end.End.{End}
use Rattle.session_rules.specs.declared.end.End.TheVariants.{Done, Peer, Full, Store}
use Rattle.session_rules.specs.declared.peer_fault.PeerFault.{PeerFault}
use Rattle.session_rules.specs.declared.peer_fault.PeerFault.TheVariants.{OutOfTurn, Unanswered}
use Rattle.session_rules.specs.State.{HelloData, TurnData, FrameData, Hello, OtherVersion, Item, BadItem, Turn, NoFrame, Reading, Opening, Burst, Answers, SessionData, OutData}
use Rattle.session_rules.specs.Steps.{AreNeeds, after_item, answer_fault, committed, due_fault, first_of, gathers, heads_in, hello_fault, in_burst, is_first, is_wanted, item_fault, late_fault, takes_hello, takes_item, takes_turn, turn_fault, Concludes, Ends, Gathers, Greets, Judges, Replies, Settles, Takes, Unless}
use Rattle.session_rules.proofs.Held.{holds_append}
use Rattle.session_rules.proofs.Needs.{least_passes}
use Rattle.session_rules.proofs.Words.{and_both}
use Rattle.sync_session.proofs.Orders.{AreApart, apart_filter, apart_push, or_none}
use Rattle.sync_session.proofs.Turning.{sorted_take}
use Rattle.sync_session.proofs.Wanting.{open_is}

-- These ids are distinct, and none of the batch has one of them.
abbrev pub AreDue : List UpdateId → List Entry → Type 0
AreDue [] batch = Unit {0}
AreDue (id ∷ ids) batch = (holds batch id ≡ false) × (has ids id ≡ false) × AreDue ids batch

-- the ids that still have to come
abbrev pub IsDue : Reading → List Entry → Type 0
IsDue Opening batch = Unit {0}
IsDue Burst batch = Unit {0}
IsDue (Answers ids) batch = AreDue ids batch

pub record IsTidy (s : SessionData) : Type 0 where
  pub apart : AreApart (s.waiting ++ s.gathered)
  pub due : IsDue s.reading (s.waiting ++ s.gathered)

-- ---- an update

either_none : (a b : Bool) → a ≡ false → b ≡ false → (a || b) ≡ false
either_none true b e f = absurd cc
either_none false b e f = f

due_push : (ids : List UpdateId) (batch : List Entry) (e : Entry) → AreDue ids batch → has ids e.id ≡ false → AreDue ids (batch ++ e ∷ [])
due_push [] batch e d none = tt
due_push (x ∷ xs) batch e d none =
    let parts = or_none (same_id e.id x) (has xs e.id) none in
    let other : same_id x e.id ≡ false = same_id-symm x e.id ∙ parts.0 in
    (holds_append batch (e ∷ []) x ∙ either_none (holds batch x) (same_id x e.id || false) d.0 (either_none (same_id x e.id) false other refl), d.1, due_push xs batch e d.2 parts.1)

-- what the batch is with one more update
pub record IsTidyWith (reading : Reading) (batch : List Entry) : Type 0 where
  pub apart : AreApart batch
  pub due : IsDue reading batch

one_more : (r : Reading) (w g : List Entry) (e : Entry) → AreApart (w ++ g) → holds (w ++ g) e.id ≡ false → IsDue r ((w ++ g) ++ e ∷ []) → IsTidyWith r (w ++ (g ++ e ∷ []))
one_more r w g e apart new due =
    subst (IsTidyWith r) (append_assoc w g (e ∷ [])) (record { apart = apart_push (w ++ g) e apart new; due = due })

burst_more : (w g : List Entry) (e : Entry) (b : Bool) → (holds g e.id || holds w e.id) ≡ b → AreApart (w ++ g) → IsTidyWith Burst (w ++ (if b then g else g ++ e ∷ []))
burst_more w g e true is apart = record { apart = apart; due = tt }
burst_more w g e false is apart =
    let parts = or_none (holds g e.id) (holds w e.id) is in
    one_more Burst w g e apart (holds_append w g e.id ∙ either_none (holds w e.id) (holds g e.id) parts.1 parts.0) tt

is_due : (b c : Bool) (due : UpdateId) → (if b then (if c then None else Some (Unanswered due)) else Some OutOfTurn) ≡ None → c ≡ true
is_due true true due e = refl
is_due true false due e = absurd cc
is_due false c due e = absurd cc

gather : (r : Reading) (n : ℕ) (w g : List Entry) (e : Entry) → (if takes_item r n then answer_fault r e.id else Some OutOfTurn) ≡ None → AreApart (w ++ g) → IsDue r (w ++ g)
    → IsTidyWith (after_item r) (w ++ (if in_burst r && (holds g e.id || holds w e.id) then g else g ++ e ∷ []))
gather Opening n w g e none apart due = absurd cc
gather Burst n w g e none apart due = burst_more w g e (holds g e.id || holds w e.id) refl apart
gather (Answers []) n w g e none apart due = absurd cc
gather (Answers (id ∷ ids)) n w g e none apart due =
    let is : id ≡ e.id = id_from_same id e.id (is_due (nat_lt n MAX_ITEMS) (same_id id e.id) id none) in
    one_more (Answers ids) w g e apart (subst (λ (i : UpdateId). holds (w ++ g) i ≡ false) is due.0) (due_push ids (w ++ g) e due.2 (subst (λ (i : UpdateId). has ids i ≡ false) is due.1))

-- ---- a Turn

has_above : (x : UpdateId) (xs : List UpdateId) → AllByRecursion (λ y. id_cmp x y ≡ Less) xs → has xs x ≡ false
has_above x [] above = refl
has_above x (y ∷ ys) above = rw above.0 (has_above x ys above.1)

due_from : (ids : List UpdateId) (batch : List Entry) → IsStrictlySortedBy id_cmp ids → ((id : UpdateId) → has ids id ≡ true → holds batch id ≡ false) → AreDue ids batch
unfolding IsStrictlySortedBy
due_from [] batch s free = tt
due_from (x ∷ xs) batch s free = (
  free x (in_front x xs),
  has_above x xs s.0,
  due_from xs batch s.1 (λ id h. free id (behind x xs id h)),
)
  where
    in_front : (x : UpdateId) (xs : List UpdateId) → has (x ∷ xs) x ≡ true
    in_front x xs = ap (λ b. b || has xs x) (same_id-refl x)

    or_late : (a b : Bool) → b ≡ true → (a || b) ≡ true
    or_late true b e = refl
    or_late false b e = e

    behind : (x : UpdateId) (xs : List UpdateId) (id : UpdateId) → has xs id ≡ true → has (x ∷ xs) id ≡ true
    behind x xs id h = or_late (same_id id x) (has xs id) h

needs_due : (heads asked : List UpdateId) (now waits : List Entry) (have : Bool) (needs : List UpdateId) → AreNeeds have (is_wanted heads now waits asked) needs → AreDue needs waits
needs_due heads asked now waits true needs is = subst (λ (ids : List UpdateId). AreDue ids waits) (sym is) tt
needs_due heads asked now waits false needs least =
    due_from needs waits (subst (IsStrictlySortedBy id_cmp) (sym least.front) (sorted_take MAX_NEEDS least.all least.rising)) (λ id h.
    let passes = least_passes (is_wanted heads now waits asked) MAX_NEEDS needs id least h in
    let open_at = and_both (has heads id || names waits id) (not (holds now id) && (not (holds waits id) && not (has asked id))) passes in
    (open_is (holds now id) (holds waits id) (has asked id) open_at.1).1)

none_due : (r : Reading) (batch : List Entry) → due_fault r ≡ None → IsDue r batch
none_due Opening batch e = tt
none_due Burst batch e = tt
none_due (Answers []) batch e = tt
none_due (Answers (id ∷ ids)) batch e = absurd cc

pub no_due : (b : Bool) (d o : Option PeerFault) → (if b then first_of d o else Some OutOfTurn) ≡ None → d ≡ None
no_due true None o e = refl
no_due true (Some f) o e = absurd cc
no_due false d o e = absurd cc

module _ (limits : Limits) (s : SessionData) (before : List Entry) (next : SessionData) (out : OutData) (after : List Entry) (t : IsTidy s) where
  same_batch : next.reading ≡ s.reading → next.waiting ≡ s.waiting → next.gathered ≡ s.gathered → IsTidy next
  same_batch e f g = record { apart = rw (f, g) t.apart; due = rw (e, f, g) t.due }

  ended_tidy : (ending : End) → Ends s before ending next out after → IsTidy next
  ended_tidy ending u = same_batch (ap (λ (x : SessionData). x.reading) u.0) (ap (λ (x : SessionData). x.waiting) u.0) (ap (λ (x : SessionData). x.gathered) u.0)

  by_fault : (G : Type 0) (of fault : Option PeerFault) → of ≡ fault → Unless fault s before next out after G → (of ≡ None → G → IsTidy next) → IsTidy next
  by_fault G of (Some f) e u k = ended_tidy (Peer f) u
  by_fault G of None e u k = k e u

  read_burst : next.reading ≡ Burst → next.waiting ≡ s.waiting → next.gathered ≡ s.gathered → IsTidy next
  read_burst e f g = record { apart = rw (f, g) t.apart; due = rw e tt }

  greets_tidy : (role : Role) (hello : HelloData) → Greets role s before hello next out after → IsTidy next
  greets_tidy Initiator hello g = read_burst (ap (λ (x : SessionData). x.reading) g.0) (ap (λ (x : SessionData). x.waiting) g.0) (ap (λ (x : SessionData). x.gathered) g.0)
  greets_tidy Responder hello g = read_burst (ap (λ (x : SessionData). x.reading) g.4.0) (ap (λ (x : SessionData). x.waiting) g.4.0) (ap (λ (x : SessionData). x.gathered) g.4.0)

  gathers_tidy : (fits : Bool) (e : Entry) → item_fault s e ≡ None → Gathers fits s before e next out after → IsTidy next
  gathers_tidy true e none g =
      let more = gather s.reading s.items s.waiting s.gathered e none t.apart t.due in
      subst IsTidy (sym g.0) (record { apart = more.apart; due = more.due })
  gathers_tidy false e none g = ended_tidy Full g

  settled_tidy : (r : Reading) (waits : List Entry) → next.reading ≡ r → next.waiting ≡ waits → next.gathered ≡ [] → AreApart waits → IsDue r waits → IsTidy next
  settled_tidy r waits e f g apart due = record { apart = rw (f, g, append-nil waits) apart; due = rw (e, f, g, append-nil waits) due }

  replies_tidy : (turn own : TurnData) (added waits : List Entry) (both first : Bool) → due_fault s.reading ≡ None → AreApart waits → AreDue own.needs waits → Replies both first (committed s turn added waits) turn own next out → IsTidy next
  replies_tidy turn own added waits true first none apart due r =
      settled_tidy s.reading waits (ap (λ (x : SessionData). x.reading) r.0) (ap (λ (x : SessionData). x.waiting) r.0) (ap (λ (x : SessionData). x.gathered) r.0) apart (none_due s.reading waits none)
  replies_tidy turn own added waits false first none apart due r =
      settled_tidy (Answers own.needs) waits (ap (λ (x : SessionData). x.reading) r.7) (ap (λ (x : SessionData). x.waiting) r.7) (ap (λ (x : SessionData). x.gathered) r.7) apart due

  judges_tidy : (turn own : TurnData) (added waits : List Entry) (fault : Option PeerFault) → due_fault s.reading ≡ None → AreApart waits → AreDue own.needs waits → Judges fault s (committed s turn added waits) turn own next out → IsTidy next
  judges_tidy turn own added waits None none apart due j = replies_tidy turn own added waits (s.sent_have && turn.have) (is_first s.role s.reading) none apart due j
  judges_tidy turn own added waits (Some f) none apart due j =
      settled_tidy s.reading waits (ap (λ (x : SessionData). x.reading) j.0) (ap (λ (x : SessionData). x.waiting) j.0) (ap (λ (x : SessionData). x.gathered) j.0) apart (none_due s.reading waits none)

  settles_tidy : (turn : TurnData) (answer : Committed) → due_fault s.reading ≡ None → Commits limits before (s.waiting ++ s.gathered) answer after → Concludes answer s turn after next out → IsTidy next
  settles_tidy turn (Added added waits) none c g =
      let apart : AreApart waits = subst AreApart (sym c.0.rest) (apart_filter (λ (m : Entry). not (holds (before ++ added) m.id)) (s.waiting ++ s.gathered) t.apart) in
      judges_tidy turn g.0 added waits (late_fault s turn g.0) none apart (needs_due (heads_in s.peer) s.asked after waits g.0.have g.0.needs g.1.needs) g.2
  settles_tidy turn TooMuch none c g = settled_tidy s.reading [] (ap (λ (x : SessionData). x.reading) g.0) (ap (λ (x : SessionData). x.waiting) g.0) (ap (λ (x : SessionData). x.gathered) g.0) tt (none_due s.reading [] none)
  settles_tidy turn DiskFault none c g = settled_tidy s.reading [] (ap (λ (x : SessionData). x.reading) g.0) (ap (λ (x : SessionData). x.waiting) g.0) (ap (λ (x : SessionData). x.gathered) g.0) tt (none_due s.reading [] none)

  pub takes_tidy : (frame : FrameData) → Takes limits s before frame next out after → IsTidy next
  takes_tidy (Hello hello) u = by_fault (Greets s.role s before hello next out after) (hello_fault s hello) (hello_fault s hello) refl u (λ none g. greets_tidy s.role hello g)
  takes_tidy OtherVersion u = ended_tidy _ u
  takes_tidy (Item e) u = by_fault (Gathers (is_within (s.waiting ++ gathers s e)) s before e next out after) (item_fault s e) (item_fault s e) refl u (λ none g. gathers_tidy (is_within (s.waiting ++ gathers s e)) e none g)
  takes_tidy (BadItem why) u = ended_tidy _ u
  takes_tidy (Turn turn) u = by_fault (Settles limits s before turn next out after) (turn_fault s turn) (turn_fault s turn) refl u (λ none g. settles_tidy turn g.0 (no_due (takes_turn s.role s.reading turn.needs) (due_fault s.reading) _ none) g.1 g.2)
  takes_tidy (NoFrame place) u = ended_tidy _ u

-- ---- the end has had its peer's Hello, or made its own before; or it has ended

pub data IsPast (s : SessionData) : Type 0 where
  greeted : takes_hello s.reading ≡ false → IsPast s
  leads : s.role ≡ Initiator → IsPast s
  over : (ending : End) → s.ended ≡ Some ending → IsPast s

after_past : (r : Reading) → takes_hello (after_item r) ≡ takes_hello r
after_past Opening = refl
after_past Burst = refl
after_past (Answers []) = refl
after_past (Answers (id ∷ ids)) = refl

module _ (limits : Limits) (s : SessionData) (before : List Entry) (next : SessionData) (out : OutData) (after : List Entry) where
  over_past : (ending : End) (n : SessionData) → next ≡ n → n.ended ≡ Some ending → IsPast next
  over_past ending n is ended = over ending (ap (λ (x : SessionData). x.ended) is ∙ ended)

  past_fault : (G : Type 0) (fault : Option PeerFault) → Unless fault s before next out after G → (G → IsPast next) → IsPast next
  past_fault G (Some f) u k = over_past (Peer f) _ u.0 refl
  past_fault G None u k = k u

  greets_past : (role : Role) (hello : HelloData) → Greets role s before hello next out after → IsPast next
  greets_past Initiator hello g = greeted (ap (λ (x : SessionData). takes_hello x.reading) g.0)
  greets_past Responder hello g = greeted (ap (λ (x : SessionData). takes_hello x.reading) g.4.0)

  pub hello_past : (hello : HelloData) → Takes limits s before (Hello hello) next out after → IsPast next
  hello_past hello u = past_fault (Greets s.role s before hello next out after) (hello_fault s hello) u (greets_past s.role hello)

  gathers_past : (fits : Bool) (e : Entry) → s.ended ≡ None → IsPast s → Gathers fits s before e next out after → IsPast next
  gathers_past true e running (greeted h) g = greeted (ap (λ (x : SessionData). takes_hello x.reading) g.0 ∙ after_past s.reading ∙ h)
  gathers_past true e running (leads r) g = leads (ap (λ (x : SessionData). x.role) g.0 ∙ r)
  gathers_past true e running (over ending is) g = absurd (let never : Some ending ≡ None = sym is ∙ running in cc)
  gathers_past false e running p g = over_past Full _ g.0 refl

  replies_past : (both first : Bool) (now : SessionData) (turn own : TurnData) → Replies both first now turn own next out → IsPast next
  replies_past true first now turn own r = over_past Done _ r.0 refl
  replies_past false first now turn own r = greeted (ap (λ (x : SessionData). takes_hello x.reading) r.7)

  judges_past : (fault : Option PeerFault) (now : SessionData) (turn own : TurnData) → Judges fault s now turn own next out → IsPast next
  judges_past None now turn own j = replies_past (s.sent_have && turn.have) (is_first s.role s.reading) now turn own j
  judges_past (Some f) now turn own j = over_past (Peer f) _ j.0 refl

  concludes_past : (turn : TurnData) (answer : Committed) → Concludes answer s turn after next out → IsPast next
  concludes_past turn (Added added waits) g = judges_past (late_fault s turn g.0) (committed s turn added waits) turn g.0 g.2
  concludes_past turn TooMuch g = over_past Full _ g.0 refl
  concludes_past turn DiskFault g = over_past Store _ g.0 refl

  pub takes_past : (frame : FrameData) → s.ended ≡ None → IsPast s → Takes limits s before frame next out after → IsPast next
  takes_past (Hello hello) running p u = hello_past hello u
  takes_past OtherVersion running p u = over_past _ _ u.0 refl
  takes_past (Item e) running p u = past_fault (Gathers (is_within (s.waiting ++ gathers s e)) s before e next out after) (item_fault s e) u (gathers_past (is_within (s.waiting ++ gathers s e)) e running p)
  takes_past (BadItem why) running p u = over_past _ _ u.0 refl
  takes_past (Turn turn) running p u = past_fault (Settles limits s before turn next out after) (turn_fault s turn) u (λ g. concludes_past turn g.0 g.2)
  takes_past (NoFrame place) running p u = over_past _ _ u.0 refl
