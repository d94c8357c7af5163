-- A session that nothing disturbs leaves both lists as the union.
use Rattle.std.proofs.Common.{◌≡◌, ◌⊎◌, inl, inr, ℕ, ◌+◌, Bool, true, false, ◌||◌, List, [], ◌∷◌, ◌++◌, length, Contains, Option, Some, None, refl, sym, ap, subst, ◌∙◌, arith, append-nil, append_assoc, length-append}
use Rattle.std.specs.List.{AllByRecursion}
use Rattle.std.proofs.lemmas.List.Elements.{Contains-push, Contains-append_left, Contains-append_right, Contains-append_cases}
use Rattle.update_model.specs.declared.update_id.UpdateId.{UpdateId}
use Rattle.update_model.specs.Entry.{Entry, same_id}
use Rattle.update_model.specs.Graph.{holds, Follows, IsClosed, HaveSameMembers}
use Rattle.update_model.proofs.Closed.{Follows-join}
use Rattle.update_model.proofs.Ids.{same_id-symm}
use Rattle.update_model.specs.Batch.{Limits}
use Rattle.session_rules.specs.Laws.{NoCollision, HasAll, IsUnion}
use Rattle.session_rules.specs.Pair.{PairData, swapped, missing, Carries, CarriesOn, at_first, then_a, then_b, Opens}
use Rattle.session_rules.specs.State.{Initiator, Reading, Opening, Burst, Answers, End, Done, SessionData, HelloData}
use Rattle.session_rules.specs.Steps.{takes_hello, StepsBy}
use Rattle.session_rules.proofs.Words.{cons_cases, each_from, each_append, each_member, each_weaker, is_either}
use Rattle.session_rules.proofs.Held.{Within, held_member, holds_append, later_differs}
use Rattle.session_rules.proofs.Phases.{Expects, Reads, Over, Goes, reads_on, turns_round, ends}
use Rattle.session_rules.proofs.Growth.{steps_grow}
use Rattle.session_rules.proofs.Runs.{Greeted, Inv, greeted, reads_a, reads_b, over_a, over_b, reads_carry, no_carry, over_carry, greeted_carry, greets_is, greeted_on, opening, started, greeting, first_turn}
use Rattle.session_rules.proofs.ItemStep.{stepped}
use Rattle.session_rules.proofs.Facts.{done_a, done_b}

-- ---- counting

or_none : (b : Bool) → (b || false) ≡ b
or_none true = refl
or_none false = refl

-- an id that is not the new member's
holds_other : (graph : List Entry) (e : Entry) (id : UpdateId) → same_id id e.id ≡ false → holds (graph ++ e ∷ []) id ≡ holds graph id
holds_other graph e id other = holds_append graph (e ∷ []) id ∙ ap (λ b. holds graph id || (b || false)) other ∙ or_none (holds graph id)

missing_same : (graph : List Entry) (e : Entry) (xs : List Entry) → AllByRecursion (λ x. same_id x.id e.id ≡ false) xs → missing (graph ++ e ∷ []) xs ≡ missing graph xs
missing_same graph e [] all = refl
missing_same graph e (x ∷ xs) all = rw (holds_other graph e x.id all.0, missing_same graph e xs all.1) refl

differ : (b : Bool) → (b ≡ true → ⊥) → b ≡ false
differ true h = absurd (h refl)
differ false h = refl

missing_one : (graph before es : List Entry) (e : Entry) → Follows before es → Contains es e → holds graph e.id ≡ false → length (missing (graph ++ e ∷ []) es) + 1 ≡ length (missing graph es)
missing_one graph before [] e f c new = absurd (omega (arith, c.1))
missing_one graph before (x ∷ xs) e f c new = elim (cons_cases x xs e c) [
  | inl is ↦
      let others : AllByRecursion (λ y. same_id y.id e.id ≡ false) xs = each_from (λ y. same_id y.id e.id ≡ false) xs (λ y held. differ (same_id y.id e.id) (λ same.
      later_differs (before ++ x ∷ []) xs x y f.1 (Contains-push before x) held (ap (λ (m : Entry). same_id y.id m.id) is ∙ same))) in
      let now : holds (graph ++ e ∷ []) x.id ≡ true = subst (λ (m : Entry). holds (graph ++ e ∷ []) m.id ≡ true) (sym is) (held_member (graph ++ e ∷ []) e (Contains-push graph e)) in
      let was : holds graph x.id ≡ false = ap (λ (m : Entry). holds graph m.id) is ∙ new in
      let rest = missing_same graph e xs others in
      rw (now, was, rest) (omega arith)
  | inr held ↦
      let other : same_id x.id e.id ≡ false = differ (same_id x.id e.id) (λ same. later_differs (before ++ x ∷ []) xs x e f.1 (Contains-push before x) held (same_id-symm e.id x.id ∙ same)) in
      let rest = missing_one graph (before ++ x ∷ []) xs e f.1 held new in
      let same = holds_other graph e x.id other in
      elim (is_either (holds graph x.id)) [
        | inl was ↦ rw (same, was) rest
        | inr was ↦ rw (same, was) (omega arith)
      ]
]

pub missing_added : (graph added set : List Entry) → IsClosed set → Follows graph added → Within set added → length (missing (graph ++ added) set) + length added ≡ length (missing graph set)
missing_added graph [] set closed f all = rw append-nil (omega arith)
missing_added graph (e ∷ es) set closed f all =
    let one = missing_one graph [] set e closed all.0 f.0.new in
    let rest = missing_added (graph ++ e ∷ []) es set closed f.1 all.1 in
    let same = ap (λ (g : List Entry). length (missing g set)) (append_assoc graph (e ∷ []) es) in
    omega arith

pub none_missing : (graph set : List Entry) → AllByRecursion (λ e. holds graph e.id ≡ true) set → missing graph set ≡ []
none_missing graph [] all = refl
none_missing graph (x ∷ xs) all = rw all.0 (none_missing graph xs all.1)

-- ---- what was added so far, once the responder has read the Hello

pub record Later (la lb : List Entry) (p : PairData) : Type 0 where
  pub start_a : p.a.start ≡ la
  pub start_b : p.b.start ≡ lb
  pub added_a : List Entry
  pub added_b : List Entry
  pub is_a : p.list_a ≡ la ++ added_a
  pub is_b : p.list_b ≡ lb ++ added_b
  pub from_a : Within lb added_a
  pub from_b : Within la added_b
  pub follows_a : Follows la added_a
  pub follows_b : Follows lb added_b
  pub gained_a : p.a.gained ≡ length added_a
  pub gained_b : p.b.gained ≡ length added_b

turned : (la lb : List Entry) (p : PairData) → Later la lb p → Later lb la (swapped p)
turned la lb p l = record {
  start_a = l.start_b;
  start_b = l.start_a;
  added_a = l.added_b;
  added_b = l.added_a;
  is_a = l.is_b;
  is_b = l.is_a;
  from_a = l.from_b;
  from_b = l.from_a;
  follows_a = l.follows_b;
  follows_b = l.follows_a;
  gained_a = l.gained_b;
  gained_b = l.gained_a;
}

length_more : (xs ys : List Entry) → length (xs ++ ys) ≡ length xs + length ys
length_more xs ys = omega (arith, length-append xs ys)

-- a step of the first end
more : (limits : Limits) (la lb : List Entry) (p q : PairData) → Later la lb p → Carries limits p q → Within p.b.start p.a.waiting → Within p.b.start p.a.gathered
    → (takes_hello p.a.reading ≡ false) ⊎ (p.a.role ≡ Initiator) → Later la lb q
more limits la lb p q l k waiting gathered closed =
    let g = steps_grow limits p.a p.list_a k.next k.out k.after k.frame k.step in
    let all = each_append (Contains p.b.start) p.a.waiting p.a.gathered waiting gathered in
    let from : Within p.b.start g.new = each_weaker (Contains (p.a.waiting ++ p.a.gathered)) (Contains p.b.start) (λ e c. each_member (Contains p.b.start) (p.a.waiting ++ p.a.gathered) e all c) g.new g.from in
    rw k.is (record {
      start_a = g.start closed ∙ l.start_a;
      start_b = l.start_b;
      added_a = l.added_a ++ g.new;
      added_b = l.added_b;
      is_a = g.is ∙ ap (λ xs. xs ++ g.new) l.is_a ∙ append_assoc la l.added_a g.new;
      is_b = l.is_b;
      from_a = each_append (Contains lb) l.added_a g.new l.from_a (subst (λ (s : List Entry). Within s g.new) l.start_b from);
      from_b = l.from_b;
      follows_a = Follows-join la l.added_a g.new l.follows_a (subst (λ (xs : List Entry). Follows xs g.new) l.is_a g.follows);
      follows_b = l.follows_b;
      gained_a = g.gained ∙ ap (λ n. n + length g.new) l.gained_a ∙ sym (length_more l.added_a g.new);
      gained_b = l.gained_b;
    })

over_more : (limits : Limits) (la lb : List Entry) (p q : PairData) → Later la lb p → Over p → Carries limits p q → Later la lb q
over_more limits la lb p q l o k =
    let step = subst (λ (e : Option End). StepsBy e limits p.a p.list_a k.frame k.next k.out k.after) o.ended k.step in
    rw k.is (record {
      start_a = ap (λ (s : SessionData). s.start) step.0 ∙ l.start_a;
      start_b = l.start_b;
      added_a = l.added_a;
      added_b = l.added_b;
      is_a = step.2 ∙ l.is_a;
      is_b = l.is_b;
      from_a = l.from_a;
      from_b = l.from_b;
      follows_a = l.follows_a;
      follows_b = l.follows_b;
      gained_a = ap (λ (s : SessionData). s.gained) step.0 ∙ l.gained_a;
      gained_b = l.gained_b;
    })

no_hello : (r : Reading) (items : List Entry) → Expects r items → takes_hello r ≡ false
no_hello Opening items x = absurd x
no_hello Burst items x = refl
no_hello (Answers ids) items x = refl

-- ---- the phases after the responder has read the Hello

pub data Late (p : PairData) : Type 0 where
  late_greeted : Greeted p → Late p
  late_reads_a : Reads p → Late p
  late_reads_b : Reads (swapped p) → Late p
  late_over_a : Over p → Late p
  late_over_b : Over (swapped p) → Late p

from_late : (p : PairData) → Late p → Inv p
from_late p (late_greeted g) = greeted g
from_late p (late_reads_a r) = reads_a r
from_late p (late_reads_b r) = reads_b r
from_late p (late_over_a o) = over_a o
from_late p (late_over_b o) = over_b o

late_goes_a : (p : PairData) → Goes p → Late p
late_goes_a p (reads_on r) = late_reads_a r
late_goes_a p (turns_round r) = late_reads_b r
late_goes_a p (ends o) = late_over_a o

late_goes_b : (p : PairData) → Goes (swapped p) → Late p
late_goes_b p (reads_on r) = late_reads_b r
late_goes_b p (turns_round r) = late_reads_a r
late_goes_b p (ends o) = late_over_b o

step_a : (limits : Limits) (la lb : List Entry) (p q : PairData) → Late p → Later la lb p → Carries limits p q → Late q × Later la lb q
step_a limits la lb p q (late_greeted g) l k = (late_reads_a (greeted_carry limits p q g k), more limits la lb p q l k g.reads.waiting g.reads.gathered (inr g.role))
step_a limits la lb p q (late_reads_a r) l k = (late_goes_a q (reads_carry limits p q r k), more limits la lb p q l k r.waiting r.gathered (inl (no_hello p.a.reading r.items r.expects)))
step_a limits la lb p q (late_reads_b r) l k = absurd (no_carry limits p q r.back k)
step_a limits la lb p q (late_over_a o) l k = (late_over_a (over_carry limits p q o k), over_more limits la lb p q l o k)
step_a limits la lb p q (late_over_b o) l k = absurd (no_carry limits p q o.back k)

step_b : (limits : Limits) (la lb : List Entry) (p q : PairData) → Late p → Later la lb p → Carries limits (swapped p) (swapped q) → Late q × Later la lb q
step_b limits la lb p q (late_greeted g) l k = absurd (no_carry limits (swapped p) (swapped q) g.reads.back k)
step_b limits la lb p q (late_reads_a r) l k = absurd (no_carry limits (swapped p) (swapped q) r.back k)
step_b limits la lb p q (late_reads_b r) l k =
    (late_goes_b q (reads_carry limits (swapped p) (swapped q) r k), turned lb la (swapped q) (more limits lb la (swapped p) (swapped q) (turned la lb p l) k r.waiting r.gathered (inl (no_hello p.b.reading r.items r.expects))))
step_b limits la lb p q (late_over_a o) l k = absurd (no_carry limits (swapped p) (swapped q) o.back k)
step_b limits la lb p q (late_over_b o) l k = (late_over_b (over_carry limits (swapped p) (swapped q) o k), turned lb la (swapped q) (over_more limits lb la (swapped p) (swapped q) (turned la lb p l) o k))

-- ---- the whole run

module _ (p : PairData) (o : Opens p) where
  first_later : (q : PairData) → (own : HelloData) (send : List Entry)
      → q ≡ swapped (stepped (swapped (started o.database o.node_a o.node_b o.old_a o.old_b p.list_a p.list_a p.list_b o.hello)) (greeting o.database o.node_b o.old_b p.list_b o.hello) p.list_b [] (first_turn p.list_b o.hello own send))
      → Later p.list_a p.list_b q
  first_later q own send is = rw is (record {
    start_a = refl;
    start_b = refl;
    added_a = [];
    added_b = [];
    is_a = sym (append-nil p.list_a);
    is_b = sym (append-nil p.list_b);
    from_a = tt;
    from_b = tt;
    follows_a = tt;
    follows_b = tt;
    gained_a = refl;
    gained_b = refl;
  })

  first_step : (limits : Limits) (q : PairData) → Carries limits (swapped p) (swapped q) → Late q × Later p.list_a p.list_b q
  first_step limits q k =
      let s = opening p o in
      let at = subst (λ (p : PairData). Carries limits (swapped p) (swapped q)) s.is k in
      let g = greets_is o.database o.node_a o.node_b o.old_a o.old_b p.list_a [] p.list_a p.list_b o.hello s.grown o.closed_a o.few_a o.closed_b o.few_b s.is_hello limits q at in (
        late_greeted (subst Greeted (sym g.is) (greeted_on o.database o.node_a o.node_b o.old_a o.old_b p.list_a [] p.list_a p.list_b o.hello s.grown o.closed_a o.few_a o.closed_b o.few_b s.is_hello g.own g.send g.is_own g.burst)),
        first_later q g.own g.send g.is,
      )

  pub carries_on : (limits_a limits_b : Limits) (q : PairData) → CarriesOn limits_a limits_b p q → (q ≡ p) ⊎ (Late q × Later p.list_a p.list_b q)
  carries_on limits_a limits_b q (at_first q' is) = inl is
  carries_on limits_a limits_b q (then_a m q' before k) = elim (carries_on limits_a limits_b m before) [
    | inl is ↦ absurd (no_carry limits_a m q (ap (λ (p : PairData). p.to_a) is ∙ o.to_a) k)
    | inr late ↦ inr (step_a limits_a p.list_a p.list_b m q late.0 late.1 k)
  ]
  carries_on limits_a limits_b q (then_b m q' before k) = elim (carries_on limits_a limits_b m before) [
    | inl is ↦ inr (first_step limits_b q (subst (λ (m : PairData). Carries limits_b (swapped m) (swapped q)) is k))
    | inr late ↦ inr (step_b limits_b p.list_a p.list_b m q late.0 late.1 k)
  ]

-- one end's list and count, once it has all of the other's
union_of : (la lb added list : List Entry) (gained : ℕ) → list ≡ la ++ added → Within lb added → HasAll list lb → HaveSameMembers list (la ++ lb)
union_of la lb added list gained is from all = λ e. (
  λ c. elim (Contains-append_cases la added e (subst (λ (xs : List Entry). Contains xs e) is c)) [
    | inl old ↦ Contains-append_left la lb e old
    | inr new ↦ Contains-append_right la lb e (each_member (Contains lb) added e from new)
  ],
  λ c. elim (Contains-append_cases la lb e c) [
    | inl old ↦ subst (λ (xs : List Entry). Contains xs e) (sym is) (Contains-append_left la added e old)
    | inr new ↦ all e new
  ],
)

gained_of : (la lb added list : List Entry) (gained : ℕ) → list ≡ la ++ added → Within lb added → Follows la added → IsClosed lb → HasAll list lb → gained ≡ length added → gained ≡ length (missing la lb)
gained_of la lb added list gained is from follows closed all count =
    let each : AllByRecursion (λ e. holds (la ++ added) e.id ≡ true) lb = each_from (λ e. holds (la ++ added) e.id ≡ true) lb (λ e c. subst (λ (xs : List Entry). holds xs e.id ≡ true) is (held_member list e (all e c))) in
    let none = ap length (none_missing (la ++ added) lb each) in
    let sum = missing_added la added lb closed follows from in
    omega arith

pub is_union : (limits_a limits_b : Limits) (p q : PairData) → Opens p → CarriesOn limits_a limits_b p q → NoCollision q.list_a q.list_b → q.a.ended ≡ Some Done → q.b.ended ≡ Some Done → IsUnion p q
is_union limits_a limits_b p q o run alike end_a end_b = elim (carries_on p o limits_a limits_b q run) [
  | inl is ↦ absurd (let not_yet : q.a.ended ≡ None = ap (λ (p : PairData). p.a.ended) is ∙ ap (λ (s : SessionData). s.ended) o.a in cc)
  | inr late ↦
      let l = late.1 in
      let inv = from_late q late.0 in
      let all_a = subst (λ (s : List Entry). HasAll q.list_a s) l.start_b (done_a q inv alike end_a) in
      let all_b = subst (λ (s : List Entry). HasAll q.list_b s) l.start_a (done_b q inv alike end_b) in
      record {
        list_a = union_of p.list_a p.list_b l.added_a q.list_a q.a.gained l.is_a l.from_a all_a;
        list_b = turn_round q.list_b p.list_a p.list_b (union_of p.list_b p.list_a l.added_b q.list_b q.b.gained l.is_b l.from_b all_b);
        gained_a = gained_of p.list_a p.list_b l.added_a q.list_a q.a.gained l.is_a l.from_a l.follows_a o.closed_b all_a l.gained_a;
        gained_b = gained_of p.list_b p.list_a l.added_b q.list_b q.b.gained l.is_b l.from_b l.follows_b o.closed_a all_b l.gained_b;
      }
]
  where
    either : (xs ys : List Entry) (e : Entry) → Contains (xs ++ ys) e → Contains (ys ++ xs) e
    either xs ys e c = elim (Contains-append_cases xs ys e c) [
      | inl one ↦ Contains-append_right ys xs e one
      | inr two ↦ Contains-append_left ys xs e two
    ]

    turn_round : (list xs ys : List Entry) → HaveSameMembers list (ys ++ xs) → HaveSameMembers list (xs ++ ys)
    turn_round list xs ys same = λ e. (λ c. either ys xs e ((same e).0 c), λ c. (same e).1 (either xs ys e c))
