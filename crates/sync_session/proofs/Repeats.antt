-- What a frame does to one end over two lists of the same members: the same.
use Rattle.std.proofs.Common.{◌≡◌, ◌≢◌, ◌⊎◌, inl, inr, ℕ, ◌+◌, Bool, true, false, not, ◌&&◌, ◌||◌, cond, if◌then◌else◌, List, [], ◌∷◌, ◌++◌, length, map, take, Option, Some, None, refl, sym, ap, ap₂, subst, ◌∙◌, bytes_eq}
use Rattle.std.specs.List.{list_all}
use Rattle.std.specs.List.Sorted.{IsPermutation}
use Rattle.std.proofs.lemmas.List.Sorted.{length_permutation}
use Rattle.bloom_summary.specs.Bloom.{AreBits, is_member}
use Rattle.update_check.specs.Causes.{IsCause}
use Rattle.update_check.specs.declared.check_error.CheckFault.{CheckFault}
use Rattle.update_model.specs.declared.update_id.UpdateId.{UpdateId}
use Rattle.update_model.specs.Batch.{Adds, Limits, fits}
use Rattle.update_model.specs.Entry.{Entry}
use Rattle.update_model.specs.Graph.{has, holds, names, is_within}
use Rattle.update_model.specs.Rule.{RuleData}
use Rattle.update_model.specs.Since.{Picks}
use Rattle.update_model.proofs.Heads.{sorted_same}
use Rattle.session_rules.specs.Burst.{IsBurst, IsUnknown}
use Rattle.session_rules.specs.Commit.{Committed, Added, TooMuch, DiskFault, Commits}
use Rattle.session_rules.specs.declared.role.Role.{Role}
use Rattle.session_rules.specs.declared.role.Role.TheVariants.{Initiator, Responder}
use Rattle.session_rules.specs.declared.end.End.{End}
use Rattle.session_rules.specs.declared.end.End.TheVariants.{Done, Peer, Full, Store}
use Rattle.session_rules.specs.declared.peer_fault.PeerFault.{PeerFault}
use Rattle.session_rules.specs.declared.peer_fault.PeerFault.TheVariants.{OutOfTurn, WrongDatabase}
use Rattle.session_rules.specs.State.{HelloData, TurnData, FrameData, Hello, OtherVersion, Item, BadItem, Turn, NoFrame, SessionData, OutData}
use Rattle.session_rules.specs.declared.limits.TheConstants.{MAX_NEEDS}
use Rattle.session_rules.specs.Steps.{AreLeast, AreNeeds, IsBurstFor, IsHello, IsSent, IsTurn, Joins, committed, gathers, heads_in, hello_fault, is_first, is_wanted, item_fault, late_fault, replied, takes_hello, turn_fault, Concludes, Ends, Gathers, Greets, Judges, Replies, Settles, Takes, Unless}
use Rattle.sync_session.specs.Carrying.{Arrives}
use Rattle.sync_session.specs.Kept.{number_of}
use Rattle.sync_session.proofs.Orders.{AreApart, adds_same, same_fits, same_held}
use Rattle.sync_session.proofs.Tidy.{IsPast, greeted, leads, over}
use Rattle.sync_session.proofs.Uniting.{NoCause}

-- ---- lists that the rules determine

pub picks_alike : {X : Type 0} (P : X → Type 0) (xs out other : List X) → Picks P xs out → Picks P xs other → other ≡ out
picks_alike P [] out other a b = b ∙ sym a
picks_alike P (x ∷ xs) out other (inl a) (inl b) = b.1.1 ∙ ap (λ ys. x ∷ ys) (picks_alike P xs a.1.0 b.1.0 a.1.2 b.1.2) ∙ sym a.1.1
picks_alike P (x ∷ xs) out other (inl a) (inr b) = absurd (b.0 a.0)
picks_alike P (x ∷ xs) out other (inr a) (inl b) = absurd (a.0 b.0)
picks_alike P (x ∷ xs) out other (inr a) (inr b) = picks_alike P xs out other a.1 b.1

burst_alike : (graph : List Entry) (old : List UpdateId) (known : UpdateId → Bool) (burst other : List Entry) → IsBurst graph old known burst → IsBurst graph old known other → other ≡ burst
burst_alike graph old known burst other a b =
    let since = picks_alike _ graph a.0 b.0 a.1 b.1 in
    picks_alike _ a.0 burst other a.2 (subst (λ (es : List Entry). Picks (IsUnknown graph known es) es other) since b.2)

pub least_alike : (t u : UpdateId → Bool) → ((id : UpdateId) → t id ≡ u id) → (n : ℕ) (ids others : List UpdateId) → AreLeast t n ids → AreLeast u n others → others ≡ ids
least_alike t u same n ids others a b =
    b.front ∙ ap (take n) (sorted_same b.all a.all b.rising a.rising (λ q. b.exact q ∙ sym (same q) ∙ sym (a.exact q))) ∙ sym a.front

needs_alike : (t u : UpdateId → Bool) → ((id : UpdateId) → t id ≡ u id) → (have : Bool) (needs others : List UpdateId) → AreNeeds have t needs → AreNeeds have u others → others ≡ needs
needs_alike t u same true needs others a b = b ∙ sym a
needs_alike t u same false needs others a b = least_alike t u same MAX_NEEDS needs others a b

joins_alike : (old new both other : List UpdateId) → Joins old new both → Joins old new other → other ≡ both
joins_alike old new both other a b = sorted_same other both b.rising a.rising (λ q. b.exact q ∙ sym (a.exact q))

all_alike : (t u : UpdateId → Bool) → ((id : UpdateId) → t id ≡ u id) → (ids : List UpdateId) → list_all t ids ≡ list_all u ids
all_alike t u same [] = refl
all_alike t u same (x ∷ xs) = rw (same x, all_alike t u same xs) refl

abbrev turn_with : Bool → List UpdateId → TurnData
turn_with have needs = record { have = have; needs = needs }

abbrev hello_with : List ℕ → List ℕ → List UpdateId → List UpdateId → List ℕ → HelloData
hello_with database node heads old filter = record { database = database; node = node; heads = heads; old = old; filter = filter }

-- a list of ids has one summary
abbrev pub OneSummary : Type 0
OneSummary = (ids : List UpdateId) (bytes others : List ℕ) → AreBits ids bytes → AreBits ids others → bytes ≡ others

-- an end has one Hello
pub hello_alike : OneSummary → (s : SessionData) (hello other : HelloData) → IsHello s hello → IsHello s other → other ≡ hello
hello_alike one_summary s hello other a b =
    let heads : other.heads ≡ hello.heads = sorted_same other.heads hello.heads b.heads.rising a.heads.rising (λ q. b.heads.exact q ∙ sym (a.heads.exact q)) in
    let since = picks_alike _ s.start a.since b.since a.are_since b.are_since in
    let bits = subst (λ (es : List Entry). AreBits (map (λ e. e.id) es) other.filter) since b.filter in
    let filter : other.filter ≡ hello.filter = one_summary (map (λ (e : Entry). e.id) a.since) other.filter hello.filter bits a.filter in
    let database : other.database ≡ hello.database = b.database ∙ sym a.database in
    let node : other.node ≡ hello.node = b.node ∙ sym a.node in
    let old : other.old ≡ hello.old = b.old ∙ sym a.old in
    same_hello hello other database node heads old filter
  where
    same_hello : (x y : HelloData) → y.database ≡ x.database → y.node ≡ x.node → y.heads ≡ x.heads → y.old ≡ x.old → y.filter ≡ x.filter → y ≡ x
    same_hello x y e f g h i = λ k. hello_with (e k) (f k) (g k) (h k) (i k)

-- ---- how a frame arrives

abbrev pub OneCause : Type 0
OneCause = (rule : RuleData) (bytes : List ℕ) (fault other : CheckFault) → IsCause rule bytes fault → IsCause rule bytes other → fault ≡ other

pub arrives_alike : NoCause → OneCause → (rule : RuleData) (frame x y : FrameData) → Arrives rule frame x → Arrives rule frame y → y ≡ x
arrives_alike no_cause one_cause rule (Item e) x y (inl a) (inl b) = b.0 ∙ sym a.0
arrives_alike no_cause one_cause rule (Item e) x y (inl a) (inr b) = absurd (no_cause rule e.bytes b.0 b.2 a.1)
arrives_alike no_cause one_cause rule (Item e) x y (inr a) (inl b) = absurd (no_cause rule e.bytes a.0 a.2 b.1)
arrives_alike no_cause one_cause rule (Item e) x y (inr a) (inr b) = b.1 ∙ ap (λ (f : CheckFault). BadItem (number_of f)) (one_cause rule e.bytes b.0 a.0 b.2 a.2) ∙ sym a.1
arrives_alike no_cause one_cause rule (Hello hello) x y a b = b ∙ sym a
arrives_alike no_cause one_cause rule OtherVersion x y a b = b ∙ sym a
arrives_alike no_cause one_cause rule (BadItem why) x y a b = b ∙ sym a
arrives_alike no_cause one_cause rule (Turn turn) x y a b = b ∙ sym a
arrives_alike no_cause one_cause rule (NoFrame place) x y a b = b ∙ sym a

-- ---- a step

abbrev answer_of : Option HelloData → List Entry → Option TurnData → Option End → OutData
answer_of hello send turn ending = record { hello = hello; send = send; turn = turn; end = ending }

-- Two steps lead to one end, hand out the same, and leave the same members.
pub record AreOneStep (next : SessionData) (out : OutData) (after : List Entry) (next_two : SessionData) (out_two : OutData) (after_two : List Entry) : Type 0 where
  pub state : next_two ≡ next
  pub says : out_two ≡ out
  pub list : IsPermutation after after_two

module _ (one_summary : OneSummary) (limits : Limits) (s : SessionData) (list other : List Entry) (same : IsPermutation list other) (apart : AreApart (s.waiting ++ s.gathered))
    (running : s.ended ≡ None) (at : (other ≡ list) ⊎ IsPast s)
    (next : SessionData) (out : OutData) (after : List Entry) (next_two : SessionData) (out_two : OutData) (after_two : List Entry)
    (no_store : next.ended ≢ Some Store) (no_store_two : next_two.ended ≢ Some Store) where
  abbrev One : Type 0
  One = AreOneStep next out after next_two out_two after_two

  one : (n : SessionData) (o : OutData) → next ≡ n → next_two ≡ n → out ≡ o → out_two ≡ o → after ≡ list → after_two ≡ other → One
  one n o a b c d e f = record { state = b ∙ sym a; says = d ∙ sym c; list = rw (e, f) same }

  ends_one : (ending : End) → Ends s list ending next out after → Ends s other ending next_two out_two after_two → One
  ends_one ending u v = one _ _ u.0 v.0 u.1 v.1 u.2 v.2

  by_fault : (G H : Type 0) (of fault : Option PeerFault) → of ≡ fault → Unless fault s list next out after G → Unless fault s other next_two out_two after_two H → (of ≡ None → G → H → One) → One
  by_fault G H of (Some f) e u v k = ends_one (Peer f) u v
  by_fault G H of None e u v k = k e u v

  opens : (d t : Bool) → (if d then (if t then None else Some OutOfTurn) else Some WrongDatabase) ≡ None → t ≡ true
  opens true true h = refl
  opens true false h = absurd cc
  opens false t h = absurd cc

  same_list : (hello : HelloData) → s.role ≡ Responder → hello_fault s hello ≡ None → (other ≡ list) ⊎ IsPast s → other ≡ list
  same_list hello role none (inl is) = is
  same_list hello role none (inr (greeted shut)) = absurd (let opened : takes_hello s.reading ≡ true = opens (bytes_eq hello.database s.database) (takes_hello s.reading) none in cc)
  same_list hello role none (inr (leads initiator)) = absurd (let never : Initiator ≡ Responder = sym initiator ∙ role in cc)
  same_list hello role none (inr (over ending is)) = absurd (let never : Some ending ≡ None = sym is ∙ running in cc)

  greets_one : (hello : HelloData) (role : Role) → s.role ≡ role → hello_fault s hello ≡ None → Greets role s list hello next out after → Greets role s other hello next_two out_two after_two → One
  greets_one hello Initiator is none g h = one _ _ g.0 h.0 g.1 h.1 g.2 h.2
  greets_one hello Responder is none g h =
      let alike = same_list hello is none at in
      let h_list = subst (λ (es : List Entry). Greets Responder s es hello next_two out_two after_two) alike h in
      let own = hello_alike one_summary (record s { start = list }) g.0 h_list.0 g.2 h_list.2 in
      let send = burst_alike list hello.old (is_member hello.filter) g.1 h_list.1 g.3 h_list.3 in
      record {
        state = h_list.4.0 ∙ sym g.4.0;
        says = h_list.4.1 ∙ ap₂ (λ (o : HelloData) (es : List Entry). answer_of (Some o) es (Some (turn_with (list_all (holds list) hello.heads) [])) None) own send ∙ sym g.4.1;
        list = subst (λ (es : List Entry). IsPermutation after es) (sym (h_list.5)) (subst (λ (es : List Entry). IsPermutation es list) (sym g.5) (subst (λ (es : List Entry). IsPermutation list es) alike same));
      }

  gathers_one : (fits : Bool) (e : Entry) → Gathers fits s list e next out after → Gathers fits s other e next_two out_two after_two → One
  gathers_one true e g h = one _ _ g.0 h.0 g.1 h.1 g.2 h.2
  gathers_one false e g h = ends_one Full g h

  -- what an answer of this end determines
  record AreOne : Type 0 where
    state : next_two ≡ next
    says : out_two ≡ out

  sent_one : (first : Bool) (now : SessionData) (turn : TurnData) (send sends : List Entry) → IsSent first now turn send → IsSent first now turn sends → sends ≡ send
  sent_one true now turn send sends a b = burst_one now.peer a b
    where
      burst_one : (peer : Option HelloData) → IsBurstFor now.start peer send → IsBurstFor now.start peer sends → sends ≡ send
      burst_one None a b = b ∙ sym a
      burst_one (Some hello) a b = burst_alike now.start hello.old (is_member hello.filter) send sends a b
  sent_one false now turn send sends a b = b ∙ sym a

  replies_one : (both first : Bool) (now : SessionData) (turn own : TurnData) → Replies both first now turn own next out → Replies both first now turn own next_two out_two → AreOne
  replies_one true first now turn own r t = record { state = t.0 ∙ sym r.0; says = t.1 ∙ sym r.1 }
  replies_one false first now turn own r t =
      let send = sent_one first now turn r.0 t.0 r.3 t.3 in
      let asked = joins_alike now.asked own.needs r.1 t.1 r.4 t.4 in
      let peer_asked = joins_alike now.peer_asked turn.needs r.2 t.2 r.5 t.5 in
      record {
        state = t.7 ∙ ap₂ (λ (x y : List UpdateId). replied now turn own x y) asked peer_asked ∙ sym r.7;
        says = t.6 ∙ ap (λ (es : List Entry). answer_of None es (Some own) (if own.have && turn.have then Some Done else None)) send ∙ sym r.6;
      }

  judges_one : (fault : Option PeerFault) (now : SessionData) (turn own : TurnData) → Judges fault s now turn own next out → Judges fault s now turn own next_two out_two → AreOne
  judges_one (Some f) now turn own j k = record { state = k.0 ∙ sym j.0; says = k.1 ∙ sym j.1 }
  judges_one None now turn own j k = replies_one (s.sent_have && turn.have) (is_first s.role s.reading) now turn own j k

  same_turn : (x y : TurnData) → y.have ≡ x.have → y.needs ≡ x.needs → y ≡ x
  same_turn x y e f = λ k. turn_with (e k) (f k)

  turns_one : (waits : List Entry) (own two : TurnData) → IsPermutation after after_two → IsTurn s after waits own → IsTurn s after_two waits two → two ≡ own
  turns_one waits own two lists a b =
      let held = same_held after after_two lists in
      let have : two.have ≡ own.have = b.have ∙ all_alike (holds after_two) (holds after) (λ id. sym (held id)) (heads_in s.peer) ∙ sym a.have in
      let needs_two = subst (λ (h : Bool). AreNeeds h (is_wanted (heads_in s.peer) after_two waits s.asked) two.needs) have b.needs in
      let needs = needs_alike (is_wanted (heads_in s.peer) after waits s.asked) (is_wanted (heads_in s.peer) after_two waits s.asked)
      (λ id. ap (λ (h : Bool). (has (heads_in s.peer) id || names waits id) && (not h && (not (holds waits id) && not (has s.asked id)))) (held id)) own.have own.needs two.needs a.needs needs_two in
      same_turn own two have needs

  abbrev with_added : TurnData → ℕ → List Entry → SessionData
  with_added turn n waits = record s {
    began = true;
    turns = s.turns + cond s.began 0 1;
    gathered = [];
    waiting = waits;
    gained = s.gained + n;
    got_have = turn.have;
  }

  added_one : (turn : TurnData) (added waits more waits_two : List Entry) → Commits limits list (s.waiting ++ s.gathered) (Added added waits) after → Commits limits other (s.waiting ++ s.gathered) (Added more waits_two) after_two
      → Concludes (Added added waits) s turn after next out → Concludes (Added more waits_two) s turn after_two next_two out_two → One
  added_one turn added waits more waits_two c d g h =
      let adds = adds_same list other (s.waiting ++ s.gathered) added waits more waits_two same apart c.0 d.0 in
      let lists : IsPermutation after after_two = rw (c.2, d.2) adds.list in
      let long : length more ≡ length added = length_permutation added more adds.news in
      let turn_two = subst (λ (es : List Entry). IsTurn s after_two es h.0) adds.rest h.1 in
      let own : h.0 ≡ g.0 = turns_one waits g.0 h.0 lists g.1 turn_two in
      let now : committed s turn more waits_two ≡ committed s turn added waits = ap₂ (λ (n : ℕ) (es : List Entry). with_added turn n es) long adds.rest in
      let judged = subst (λ (o : TurnData). Judges (late_fault s turn o) s (committed s turn more waits_two) turn o next_two out_two) own h.2 in
      let judged_now = subst (λ (x : SessionData). Judges (late_fault s turn g.0) s x turn g.0 next_two out_two) now judged in
      let led = judges_one (late_fault s turn g.0) (committed s turn added waits) turn g.0 g.2 judged_now in
      record { state = led.state; says = led.says; list = lists }

  -- a batch that one list has room for the other has room for
  no_room : (added waits more waits_two : List Entry) → AreApart (s.waiting ++ s.gathered) → Adds list (s.waiting ++ s.gathered) added waits → Adds other (s.waiting ++ s.gathered) more waits_two
      → fits limits (list ++ added) ≢ fits limits (other ++ more) → ⊥
  no_room added waits more waits_two apart c d differ = differ (sym (same_fits limits (list ++ added) (other ++ more) (adds_same list other (s.waiting ++ s.gathered) added waits more waits_two same apart c d).list))

  differ : (a b : Bool) → a ≡ true → b ≡ false → a ≢ b
  differ a b e f is = let never : true ≡ false = sym e ∙ is ∙ f in cc

  stored : (n : SessionData) → n.ended ≡ Some Store → (x : SessionData) → x ≡ n → x.ended ≢ Some Store → One
  stored n is x e never = absurd (never (ap (λ (y : SessionData). y.ended) e ∙ is))

  settles_one : (turn : TurnData) (answer answer_two : Committed) → Commits limits list (s.waiting ++ s.gathered) answer after → Commits limits other (s.waiting ++ s.gathered) answer_two after_two
      → Concludes answer s turn after next out → Concludes answer_two s turn after_two next_two out_two → One
  settles_one turn (Added added waits) (Added more waits_two) c d g h = added_one turn added waits more waits_two c d g h
  settles_one turn (Added added waits) TooMuch c d g h =
      absurd (no_room added waits d.0.added d.0.waiting apart c.0 d.0.adds (differ (fits limits (list ++ added)) (fits limits (other ++ d.0.added)) c.1 d.0.passes))
  settles_one turn TooMuch (Added more waits_two) c d g h =
      absurd (no_room c.0.added c.0.waiting more waits_two apart c.0.adds d.0 (λ is. differ (fits limits (other ++ more)) (fits limits (list ++ c.0.added)) d.1 c.0.passes (sym is)))
  settles_one turn TooMuch TooMuch c d g h = one _ _ g.0 h.0 g.1 h.1 c.1 d.1
  settles_one turn DiskFault answer_two c d g h = stored _ refl next g.0 no_store
  settles_one turn (Added added waits) DiskFault c d g h = stored _ refl next_two h.0 no_store_two
  settles_one turn TooMuch DiskFault c d g h = stored _ refl next_two h.0 no_store_two

  pub takes_one : (frame : FrameData) → Takes limits s list frame next out after → Takes limits s other frame next_two out_two after_two → One
  takes_one (Hello hello) u v =
      by_fault (Greets s.role s list hello next out after) (Greets s.role s other hello next_two out_two after_two) (hello_fault s hello) (hello_fault s hello) refl u v (λ none g h. greets_one hello s.role refl none g h)
  takes_one OtherVersion u v = ends_one _ u v
  takes_one (Item e) u v =
      by_fault (Gathers (is_within (s.waiting ++ gathers s e)) s list e next out after) (Gathers (is_within (s.waiting ++ gathers s e)) s other e next_two out_two after_two) (item_fault s e) (item_fault s e) refl u v
      (λ none g h. gathers_one (is_within (s.waiting ++ gathers s e)) e g h)
  takes_one (BadItem why) u v = ends_one _ u v
  takes_one (Turn turn) u v =
      by_fault (Settles limits s list turn next out after) (Settles limits s other turn next_two out_two after_two) (turn_fault s turn) (turn_fault s turn) refl u v (λ none g h. settles_one turn g.0 h.0 g.1 h.1 g.2 h.2)
  takes_one (NoFrame place) u v = ends_one _ u v
