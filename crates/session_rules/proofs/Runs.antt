-- Whole runs: from the opening Hello on, whatever is carried and however the lists grow.
use Rattle.std.proofs.Common.{◌≡◌, ℕ, ◌+◌, ◌≤◌, Bool, true, false, not, ◌&&◌, if◌then◌else◌, List, [], ◌∷◌, ◌++◌, length, map, Option, Some, None, refl, sym, ap, subst, ◌∙◌, arith, bytes_eq, append-nil, append_assoc}
use Rattle.std.specs.List.{list_all}
use Rattle.update_model.specs.declared.limits.TheConstants.{MAX_MEMBERS}
use Rattle.update_model.specs.declared.update_id.UpdateId.{UpdateId}
use Rattle.update_model.specs.Entry.{Entry}
use Rattle.update_model.specs.Graph.{holds, IsClosed}
use Rattle.update_model.specs.Batch.{Limits}
use Rattle.session_rules.specs.Pair.{PairData, swapped, missing, Carries, Event, carries_a, carries_b, grows_a, grows_b, Reaches, begins, goes, Opens}
use Rattle.session_rules.specs.State.{Role, Initiator, Responder, HelloData, FrameData, Hello, Item, Turn, End, Done, Opening, Burst, SessionData, OutData}
use Rattle.session_rules.specs.Steps.{counted, silent, Steps, StepsBy, IsHello, begun, hello_fault, Greets}
use Rattle.std.proofs.lemmas.List.Elements.{filter_agree}
use Rattle.std.proofs.lemmas.Slice.Eq.{bytes_eq-Decides}
use Rattle.session_rules.proofs.Sends.{burst_within, burst_few}
use Rattle.session_rules.specs.Burst.{IsBurst}
use Rattle.bloom_summary.specs.Bloom.{is_member}
use Rattle.update_model.proofs.Closed.{Follows-front}
use Rattle.session_rules.proofs.Ends.{Knows, left}
use Rattle.session_rules.proofs.Phases.{Reads, Over, Goes, reads_on, turns_round, ends, reader_grows, waiter_grows, over_grows_a, over_grows_b}
use Rattle.session_rules.proofs.ItemStep.{takes_from, goes_on, stepped, stepped_same, item_step}
use Rattle.session_rules.proofs.TurnStep.{turn_step}

-- the next frame of the turn that is read
pub reads_carry : (limits : Limits) (p q : PairData) → Reads p → Carries limits p q → Goes q
reads_carry limits p q r k = by_items r.items refl
  where
    by_items : (items : List Entry) → r.items ≡ items → Goes q
    by_items [] none =
        let way : Turn r.turn ∷ [] ≡ k.frame ∷ k.rest = sym (r.way ∙ ap (λ (xs : List Entry). map Item xs ++ Turn r.turn ∷ []) none) ∙ k.first in
        let frame : k.frame ≡ Turn r.turn = cc in
        let rest : [] ≡ k.rest = cc in
        let step = subst (λ (f : FrameData). Steps limits p.a p.list_a f k.next k.out k.after) frame k.step in
        rw k.is (subst (λ (fs : List FrameData). Goes (stepped p k.next k.after fs k.out)) rest (turn_step limits p r none k.next k.out k.after step))
    by_items (e ∷ es) is =
        let way : Item e ∷ (map Item es ++ Turn r.turn ∷ []) ≡ k.frame ∷ k.rest = sym (r.way ∙ ap (λ (xs : List Entry). map Item xs ++ Turn r.turn ∷ []) is) ∙ k.first in
        let frame : k.frame ≡ Item e = cc in
        let rest : map Item es ++ Turn r.turn ∷ [] ≡ k.rest = cc in
        let step = subst (λ (f : FrameData). Steps limits p.a p.list_a f k.next k.out k.after) frame k.step in
        rw k.is (subst (λ (fs : List FrameData). Goes (stepped p k.next k.after fs k.out)) rest (item_step limits p r e es is k.next k.out k.after step))

-- nothing is on its way there
pub no_carry : (limits : Limits) (p q : PairData) → p.to_a ≡ [] → Carries limits p q → ⊥
no_carry limits p q none k = let first = k.first in cc

-- an end that has ended stays as it is
pub over_carry : (limits : Limits) (p q : PairData) → Over p → Carries limits p q → Over q
over_carry limits p q o k =
    let step = subst (λ (e : Option End). StepsBy e limits p.a p.list_a k.frame k.next k.out k.after) o.ended k.step in
    let same = stepped_same p k.next p.a k.after p.list_a k.rest k.out silent step.0 step.2 step.1 in
    rw k.is (subst Over same (record {
      back = ap (λ (fs : List FrameData). fs ++ []) o.back;
      ending = o.ending;
      ended = o.ended;
      fine = o.fine;
      last = o.last;
      last_b = o.last_b;
      knows = o.knows;
      knows_b = o.knows_b;
      done = o.done;
      both = o.both;
      ended_b = o.ended_b;
      low = o.low;
      low_b = o.low_b;
    }))

-- ---- the opening

-- the pair before any frame was read
abbrev pub started : (database node_a node_b : List ℕ) (old_a old_b : List UpdateId) (start list_a list_b : List Entry) → HelloData → PairData
started database node_a node_b old_a old_b start list_a list_b hello = record {
  a = record (begun Initiator database node_a old_a start) { turns = 1 };
  list_a = list_a;
  b = begun Responder database node_b old_b [];
  list_b = list_b;
  to_a = [];
  to_b = Hello hello ∷ [];
}

pub record Starts (p : PairData) : Type 0 where
  pub database : List ℕ
  pub node_a : List ℕ
  pub node_b : List ℕ
  pub old_a : List UpdateId
  pub old_b : List UpdateId
  pub start : List Entry
  pub more : List Entry
  pub list_a : List Entry
  pub list_b : List Entry
  pub hello : HelloData
  pub is : p ≡ started database node_a node_b old_a old_b start list_a list_b hello
  pub grown : list_a ≡ start ++ more
  pub closed_a : IsClosed list_a
  pub few_a : length start ≤ MAX_MEMBERS
  pub closed_b : IsClosed list_b
  pub few_b : length list_b ≤ MAX_MEMBERS
  pub is_hello : IsHello (record (begun Initiator database node_a old_a start) { turns = 1 }) hello

-- The responder's Hello is on its way, and then its turn.
pub record Greeted (p : PairData) : Type 0 where
  pub own : HelloData
  pub rest : List FrameData
  pub coming : p.to_a ≡ Hello own ∷ rest
  pub running : p.a.ended ≡ None
  pub role : p.a.role ≡ Initiator
  pub reading : p.a.reading ≡ Opening
  pub database : bytes_eq own.database p.a.database ≡ true
  pub reads : Reads (record p { a = record (counted p.a) { peer = Some own; reading = Burst }; to_a = rest })

pub data Inv (p : PairData) : Type 0 where
  starts : Starts p → Inv p
  greeted : Greeted p → Inv p
  reads_a : Reads p → Inv p
  reads_b : Reads (swapped p) → Inv p
  over_a : Over p → Inv p
  over_b : Over (swapped p) → Inv p

left_start : (start other : List Entry) → left start other [] ≡ missing start other
left_start start other = filter_agree (λ (e : Entry). not (holds start e.id) && true) (λ (e : Entry). not (holds start e.id)) (λ e. and_one (not (holds start e.id))) other
  where
    and_one : (b : Bool) → (b && true) ≡ b
    and_one true = refl
    and_one false = refl

and_none : (b : Bool) → (b && false) ≡ false
and_none true = refl
and_none false = refl

same_bytes : (xs ys : List ℕ) → xs ≡ ys → bytes_eq xs ys ≡ true
same_bytes xs ys e = (bytes_eq-Decides xs ys).1 e

-- the responder once it has read the Hello
abbrev pub greeting : (database node_b : List ℕ) (old_b : List UpdateId) (list_b : List Entry) → HelloData → SessionData
greeting database node_b old_b list_b hello =
    record (begun Responder database node_b old_b []) { start = list_b; peer = Some hello; reading = Burst; turns = 0 + 2; sent_have = list_all (holds list_b) hello.heads }

abbrev pub first_turn : List Entry → HelloData → HelloData → List Entry → OutData
first_turn list_b hello own send = record { hello = Some own; send = send; turn = Some (record { have = list_all (holds list_b) hello.heads; needs = [] }); end = None }

module _ (database node_a node_b : List ℕ) (old_a old_b : List UpdateId) (start more list_a list_b : List Entry) (hello : HelloData)
    (grown : list_a ≡ start ++ more) (closed_a : IsClosed list_a) (few_a : length start ≤ MAX_MEMBERS) (closed_b : IsClosed list_b) (few_b : length list_b ≤ MAX_MEMBERS)
    (is_hello : IsHello (record (begun Initiator database node_a old_a start) { turns = 1 }) hello) where
  closed_start : IsClosed start
  closed_start = Follows-front [] start more (subst IsClosed grown closed_a)

  module _ (own : HelloData) (send : List Entry) (is_own : IsHello (record (begun Responder database node_b old_b []) { start = list_b }) own)
      (burst : IsBurst list_b hello.old (is_member hello.filter) send) where
    knows_first : Knows start own.heads [] false 1 list_a list_b
    knows_first = record {
      closed = closed_a;
      more = more;
      begins = grown;
      few = few_a;
      closed_other = closed_b;
      are_heads = is_own.heads;
      theirs = λ id h. absurd cc;
      kept = λ h. absurd cc;
      slow = λ _. let same = ap length (left_start start list_b) in omega arith;
    }

    knows_second : Knows list_b hello.heads [] (list_all (holds list_b) hello.heads) (0 + 2) list_b start
    knows_second = record {
      closed = closed_b;
      more = [];
      begins = sym (append-nil list_b);
      few = few_b;
      closed_other = closed_start;
      are_heads = is_hello.heads;
      theirs = λ id h. absurd cc;
      kept = λ h. h;
      slow = λ _. let same = ap length (left_start list_b start) in omega arith;
    }

    first_reads : Reads (record (swapped (stepped (swapped (started database node_a node_b old_a old_b start list_a list_b hello)) (greeting database node_b old_b list_b hello) list_b [] (first_turn list_b hello own send))) {
      a = record (counted (record (begun Initiator database node_a old_a start) { turns = 1 })) { peer = Some own; reading = Burst };
      to_a = map Item send ++ Turn (record { have = list_all (holds list_b) hello.heads; needs = [] }) ∷ [];
    })
    first_reads = record {
      items = send;
      turn = record { have = list_all (holds list_b) hello.heads; needs = [] };
      way = refl;
      back = refl;
      last = 1;
      running = refl;
      knows = knows_first;
      waiting = tt;
      gathered = tt;
      coming = burst_within list_b hello.old (is_member hello.filter) send burst;
      expects = tt;
      room = let few = burst_few list_b hello.old (is_member hello.filter) send burst in omega arith;
      answered = λ id h. absurd cc;
      first = λ h. refl;
      stays = refl;
      lively = refl;
      known = tt;
      anew = tt;
      few = omega arith;
      knows_b = knows_second;
      waiting_b = tt;
      gathered_b = refl;
      began_b = refl;
      items_b = refl;
      reading_b = refl;
      second = refl;
      answered_b = λ id h. absurd cc;
      ended_b = sym (ap (λ b. if b then Some Done else None) (and_none (list_all (holds list_b) hello.heads)));
      sent = refl;
      got = refl;
      asked_b = λ id. refl;
      asked_a = λ id. refl;
      turns = refl;
      turns_a = refl;
      low = omega arith;
    }

    pub greeted_on : Greeted (swapped (stepped (swapped (started database node_a node_b old_a old_b start list_a list_b hello)) (greeting database node_b old_b list_b hello) list_b [] (first_turn list_b hello own send)))
    greeted_on = record {
      own = own;
      rest = map Item send ++ Turn (record { have = list_all (holds list_b) hello.heads; needs = [] }) ∷ [];
      coming = refl;
      running = refl;
      role = refl;
      reading = refl;
      database = same_bytes own.database database is_own.database;
      reads = first_reads;
    }

  -- what the responder's step at the Hello leads to
  pub record IsGreeted (q : PairData) : Type 0 where
    pub own : HelloData
    pub send : List Entry
    pub is_own : IsHello (record (begun Responder database node_b old_b []) { start = list_b }) own
    pub burst : IsBurst list_b hello.old (is_member hello.filter) send
    pub is : q ≡ swapped (stepped (swapped (started database node_a node_b old_a old_b start list_a list_b hello)) (greeting database node_b old_b list_b hello) list_b [] (first_turn list_b hello own send))

  pub greets_is : (limits : Limits) (q : PairData) → Carries limits (swapped (started database node_a node_b old_a old_b start list_a list_b hello)) (swapped q) → IsGreeted q
  greets_is limits q k =
      let first = k.first in
      let frame : k.frame ≡ Hello hello = cc in
      let rest : k.rest ≡ [] = cc in
      let step = subst (λ (f : FrameData). Steps limits (begun Responder database node_b old_b []) list_b f k.next k.out k.after) frame k.step in
      let fine : hello_fault (begun Responder database node_b old_b []) hello ≡ None = rw (same_bytes hello.database database is_hello.database) refl in
      let g = goes_on (hello_fault (begun Responder database node_b old_b []) hello) (begun Responder database node_b old_b []) list_b k.next k.out k.after
      (Greets Responder (begun Responder database node_b old_b []) list_b hello k.next k.out k.after) fine step in
      let same = stepped_same (swapped (started database node_a node_b old_a old_b start list_a list_b hello)) k.next (greeting database node_b old_b list_b hello) k.after list_b [] k.out
      (first_turn list_b hello g.0 g.1) g.4.0 g.5 g.4.1 in
      let at_rest = subst (λ (fs : List FrameData). stepped (swapped (started database node_a node_b old_a old_b start list_a list_b hello)) k.next k.after [] k.out
      ≡ stepped (swapped (started database node_a node_b old_a old_b start list_a list_b hello)) k.next k.after fs k.out) (sym rest) refl in
      record { own = g.0; send = g.1; is_own = g.2; burst = g.3; is = sym (ap swapped (same ∙ at_rest ∙ sym k.is)) }

  pub greets : (limits : Limits) (q : PairData) → Carries limits (swapped (started database node_a node_b old_a old_b start list_a list_b hello)) (swapped q) → Greeted q
  greets limits q k = let g = greets_is limits q k in subst Greeted (sym g.is) (greeted_on g.own g.send g.is_own g.burst)

-- the initiator reads the responder's Hello
pub greeted_carry : (limits : Limits) (p q : PairData) → Greeted p → Carries limits p q → Reads q
greeted_carry limits p q g k =
    let coming = g.coming in
    let first = k.first in
    let frame : k.frame ≡ Hello g.own = cc in
    let rest : g.rest ≡ k.rest = cc in
    let step = subst (λ (f : FrameData). Steps limits p.a p.list_a f k.next k.out k.after) frame k.step in
    let takes = takes_from limits p.a p.list_a (Hello g.own) k.next k.out k.after g.running step in
    let fine : hello_fault p.a g.own ≡ None = rw (g.database, g.reading) refl in
    let greets = goes_on (hello_fault p.a g.own) p.a p.list_a k.next k.out k.after (Greets p.a.role p.a p.list_a g.own k.next k.out k.after) fine takes in
    let own = subst (λ (r : Role). Greets r p.a p.list_a g.own k.next k.out k.after) g.role greets in
    let same = stepped_same p k.next (record (counted p.a) { peer = Some g.own; reading = Burst }) k.after p.list_a k.rest k.out silent own.0 own.2 own.1 in
    rw k.is (subst Reads same (at_rest k.rest rest))
  where
    at_rest : (rest : List FrameData) → g.rest ≡ rest → Reads (stepped p (record (counted p.a) { peer = Some g.own; reading = Burst }) p.list_a rest silent)
    at_rest rest is =
        let behind = subst (λ (fs : List FrameData). Reads (record p { a = record (counted p.a) { peer = Some g.own; reading = Burst }; to_a = g.rest; to_b = fs })) (sym (append-nil p.to_b)) g.reads in
        subst (λ (fs : List FrameData). Reads (record p { a = record (counted p.a) { peer = Some g.own; reading = Burst }; to_a = fs; to_b = p.to_b ++ [] })) is behind

greeted_grows_a : (p : PairData) (new : List Entry) → Greeted p → IsClosed (p.list_a ++ new) → Greeted (record p { list_a = p.list_a ++ new })
greeted_grows_a p new g closed = record {
  own = g.own;
  rest = g.rest;
  coming = g.coming;
  running = g.running;
  role = g.role;
  reading = g.reading;
  database = g.database;
  reads = reader_grows (record p { a = record (counted p.a) { peer = Some g.own; reading = Burst }; to_a = g.rest }) new g.reads closed;
}

greeted_grows_b : (p : PairData) (new : List Entry) → Greeted p → IsClosed (p.list_b ++ new) → Greeted (record p { list_b = p.list_b ++ new })
greeted_grows_b p new g closed = record {
  own = g.own;
  rest = g.rest;
  coming = g.coming;
  running = g.running;
  role = g.role;
  reading = g.reading;
  database = g.database;
  reads = waiter_grows (record p { a = record (counted p.a) { peer = Some g.own; reading = Burst }; to_a = g.rest }) new g.reads closed;
}

starts_grows_a : (p : PairData) (new : List Entry) → Starts p → IsClosed (p.list_a ++ new) → Starts (record p { list_a = p.list_a ++ new })
starts_grows_a p new s closed =
    let same : p.list_a ≡ s.list_a = ap (λ (p : PairData). p.list_a) s.is in
    record {
      database = s.database;
      node_a = s.node_a;
      node_b = s.node_b;
      old_a = s.old_a;
      old_b = s.old_b;
      start = s.start;
      more = s.more ++ new;
      list_a = s.list_a ++ new;
      list_b = s.list_b;
      hello = s.hello;
      is = ap (λ (p : PairData). record p { list_a = p.list_a ++ new }) s.is;
      grown = ap (λ xs. xs ++ new) s.grown ∙ append_assoc s.start s.more new;
      closed_a = subst (λ (xs : List Entry). IsClosed (xs ++ new)) same closed;
      few_a = s.few_a;
      closed_b = s.closed_b;
      few_b = s.few_b;
      is_hello = s.is_hello;
    }

starts_grows_b : (p : PairData) (new : List Entry) → Starts p → IsClosed (p.list_b ++ new) → length (p.list_b ++ new) ≤ MAX_MEMBERS → Starts (record p { list_b = p.list_b ++ new })
starts_grows_b p new s closed few =
    let same : p.list_b ≡ s.list_b = ap (λ (p : PairData). p.list_b) s.is in
    record {
      database = s.database;
      node_a = s.node_a;
      node_b = s.node_b;
      old_a = s.old_a;
      old_b = s.old_b;
      start = s.start;
      more = s.more;
      list_a = s.list_a;
      list_b = s.list_b ++ new;
      hello = s.hello;
      is = ap (λ (p : PairData). record p { list_b = p.list_b ++ new }) s.is;
      grown = s.grown;
      closed_a = s.closed_a;
      few_a = s.few_a;
      closed_b = subst (λ (xs : List Entry). IsClosed (xs ++ new)) same closed;
      few_b = subst (λ (xs : List Entry). length (xs ++ new) ≤ MAX_MEMBERS) same few;
      is_hello = s.is_hello;
    }

-- ---- each event keeps the invariant

from_goes_a : (p : PairData) → Goes p → Inv p
from_goes_a p (reads_on r) = reads_a r
from_goes_a p (turns_round r) = reads_b r
from_goes_a p (ends o) = over_a o

from_goes_b : (p : PairData) → Goes (swapped p) → Inv p
from_goes_b p (reads_on r) = reads_b r
from_goes_b p (turns_round r) = reads_a r
from_goes_b p (ends o) = over_b o

keeps_carry_a : (limits : Limits) (p q : PairData) → Inv p → Carries limits p q → Inv q
keeps_carry_a limits p q (starts s) k = absurd (no_carry limits p q (ap (λ (p : PairData). p.to_a) s.is) k)
keeps_carry_a limits p q (greeted g) k = reads_a (greeted_carry limits p q g k)
keeps_carry_a limits p q (reads_a r) k = from_goes_a q (reads_carry limits p q r k)
keeps_carry_a limits p q (reads_b r) k = absurd (no_carry limits p q r.back k)
keeps_carry_a limits p q (over_a o) k = over_a (over_carry limits p q o k)
keeps_carry_a limits p q (over_b o) k = absurd (no_carry limits p q o.back k)

keeps_carry_b : (limits : Limits) (p q : PairData) → Inv p → Carries limits (swapped p) (swapped q) → Inv q
keeps_carry_b limits p q (starts s) k = greeted (greets s.database s.node_a s.node_b s.old_a s.old_b s.start s.more s.list_a s.list_b s.hello s.grown s.closed_a s.few_a s.closed_b s.few_b s.is_hello
    limits q (subst (λ (p : PairData). Carries limits (swapped p) (swapped q)) s.is k))
keeps_carry_b limits p q (greeted g) k = absurd (no_carry limits (swapped p) (swapped q) g.reads.back k)
keeps_carry_b limits p q (reads_a r) k = absurd (no_carry limits (swapped p) (swapped q) r.back k)
keeps_carry_b limits p q (reads_b r) k = from_goes_b q (reads_carry limits (swapped p) (swapped q) r k)
keeps_carry_b limits p q (over_a o) k = absurd (no_carry limits (swapped p) (swapped q) o.back k)
keeps_carry_b limits p q (over_b o) k = over_b (over_carry limits (swapped p) (swapped q) o k)

keeps_grow_a : (p : PairData) (new : List Entry) → Inv p → IsClosed (p.list_a ++ new) → Inv (record p { list_a = p.list_a ++ new })
keeps_grow_a p new (starts s) c = starts (starts_grows_a p new s c)
keeps_grow_a p new (greeted g) c = greeted (greeted_grows_a p new g c)
keeps_grow_a p new (reads_a r) c = reads_a (reader_grows p new r c)
keeps_grow_a p new (reads_b r) c = reads_b (waiter_grows (swapped p) new r c)
keeps_grow_a p new (over_a o) c = over_a (over_grows_a p new o c)
keeps_grow_a p new (over_b o) c = over_b (over_grows_b (swapped p) new o c)

keeps_grow_b : (p : PairData) (new : List Entry) → Inv p → IsClosed (p.list_b ++ new) → length (p.list_b ++ new) ≤ MAX_MEMBERS → Inv (record p { list_b = p.list_b ++ new })
keeps_grow_b p new (starts s) c few = starts (starts_grows_b p new s c few)
keeps_grow_b p new (greeted g) c few = greeted (greeted_grows_b p new g c)
keeps_grow_b p new (reads_a r) c few = reads_a (waiter_grows p new r c)
keeps_grow_b p new (reads_b r) c few = reads_b (reader_grows (swapped p) new r c)
keeps_grow_b p new (over_a o) c few = over_a (over_grows_b p new o c)
keeps_grow_b p new (over_b o) c few = over_b (over_grows_a (swapped p) new o c)

keeps : (limits_a limits_b : Limits) (p q : PairData) → Inv p → Event limits_a limits_b p q → Inv q
keeps limits_a limits_b p q inv (carries_a k) = keeps_carry_a limits_a p q inv k
keeps limits_a limits_b p q inv (carries_b k) = keeps_carry_b limits_b p q inv k
keeps limits_a limits_b p q inv (grows_a g) = rw g.is (keeps_grow_a p g.more inv g.closed)
keeps limits_a limits_b p q inv (grows_b g) = subst Inv (sym (ap swapped g.is)) (keeps_grow_b p g.more inv g.closed g.few)

pub same_pair : (a x b y : SessionData) (list_a list_b : List Entry) (to_a u to_b v : List FrameData) → a ≡ x → b ≡ y → to_a ≡ u → to_b ≡ v
    → ◌≡◌ {A = PairData} (record { a = a; list_a = list_a; b = b; list_b = list_b; to_a = to_a; to_b = to_b }) (record { a = x; list_a = list_a; b = y; list_b = list_b; to_a = u; to_b = v })
same_pair a x b y list_a list_b to_a u to_b v e f g h = cc

-- the invariant at the opening
abbrev pub opening : (p : PairData) → Opens p → Starts p
opening p o = record {
  database = o.database;
  node_a = o.node_a;
  node_b = o.node_b;
  old_a = o.old_a;
  old_b = o.old_b;
  start = p.list_a;
  more = [];
  list_a = p.list_a;
  list_b = p.list_b;
  hello = o.hello;
  is = same_pair p.a (record (begun Initiator o.database o.node_a o.old_a p.list_a) { turns = 1 }) p.b (begun Responder o.database o.node_b o.old_b []) p.list_a p.list_b p.to_a [] p.to_b (Hello o.hello ∷ []) o.a o.b o.to_a o.to_b;
  grown = sym (append-nil p.list_a);
  closed_a = o.closed_a;
  few_a = o.few_a;
  closed_b = o.closed_b;
  few_b = o.few_b;
  is_hello = subst (λ (s : SessionData). IsHello s o.hello) o.a o.is_hello;
}

pub opens : (p : PairData) → Opens p → Inv p
opens p o = starts (opening p o)

pub holds_always : (limits_a limits_b : Limits) (p q : PairData) → Opens p → Reaches limits_a limits_b p q → Inv q
holds_always limits_a limits_b p q o (begins q' is) = rw is (opens p o)
holds_always limits_a limits_b p q o (goes m q' before event) = keeps limits_a limits_b m q (holds_always limits_a limits_b p m o before) event
