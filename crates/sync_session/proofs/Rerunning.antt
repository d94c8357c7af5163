-- Two runs of one pair.
use Rattle.std.proofs.Common.{◌≡◌, ◌≢◌, ◌⊎◌, inl, inr, ℕ, max, List, [], ◌∷◌, ◌++◌, map, Option, Some, None, refl, sym, ap, ap₂, subst, ◌∙◌}
use Rattle.std.specs.List.Sorted.{IsPermutation}
use Rattle.std.proofs.lemmas.List.Sorted.{IsPermutation-map, IsPermutation-refl, IsPermutation-sym}
use Rattle.update_codec.specs.Parts.{entry_of}
use Rattle.update_model.specs.declared.update_id.UpdateId.{UpdateId}
use Rattle.update_model.specs.Batch.{Limits}
use Rattle.update_model.specs.Entry.{Entry}
use Rattle.update_model.specs.Rule.{RuleData}
use Rattle.session_rules.specs.Course.{Remembers, RemembersBy, opened}
use Rattle.session_rules.specs.Pair.{PairData, frames_of, swapped}
use Rattle.session_rules.specs.declared.limits.TheConstants.{MAX_NEEDS}
use Rattle.session_rules.specs.declared.end.End.{End}
use Rattle.session_rules.specs.declared.end.End.TheVariants.{Done, Peer, Full, Store}
use Rattle.session_rules.specs.declared.role.Role.TheVariants.{Initiator, Responder}
use Rattle.session_rules.specs.State.{HelloData, FrameData, Hello, SessionData, OutData}
use Rattle.session_rules.specs.Steps.{Takes}
use Rattle.session_rules.proofs.ItemStep.{takes_from}
use Rattle.sync_session.specs.Carrying.{Arrives, EndsBy, Hands, HandsOn, at_first, then_a, then_b, IsGoing, Syncs}
use Rattle.sync_session.specs.Reruns.{AreOneRun}
use Rattle.sync_session.specs.declared.pair.PairStart.{PairStart}
use Rattle.sync_session.specs.declared.pair.PairEnd.{PairEnd}
use Rattle.sync_session.proofs.Repeats.{OneCause, OneSummary, arrives_alike, hello_alike, least_alike, takes_one}
use Rattle.sync_session.proofs.Stopping.{not_going, not_running}
use Rattle.sync_session.proofs.Tidy.{IsPast, leads, IsTidy, hello_past, takes_past, takes_tidy}
use Rattle.sync_session.proofs.Uniting.{NoCause}

-- ---- two pairs that differ by the order of members alone

pub record AreAlike (p q : PairData) : Type 0 where
  pub a : q.a ≡ p.a
  pub list_a : IsPermutation p.list_a q.list_a
  pub b : q.b ≡ p.b
  pub list_b : IsPermutation p.list_b q.list_b
  pub to_a : q.to_a ≡ p.to_a
  pub to_b : q.to_b ≡ p.to_b

turn_alike : (p q : PairData) → AreAlike p q → AreAlike (swapped p) (swapped q)
turn_alike p q s = record { a = s.b; list_a = s.list_b; b = s.a; list_b = s.list_a; to_a = s.to_b; to_b = s.to_a }

-- both ends have had the other's Hello, or led, and are tidy
record IsUnderway (p : PairData) : Type 0 where
  tidy_a : IsTidy p.a
  tidy_b : IsTidy p.b
  past_a : IsPast p.a
  past_b : IsPast p.b

turn_underway : (p : PairData) → IsUnderway p → IsUnderway (swapped p)
turn_underway p u = record { tidy_a = u.tidy_b; tidy_b = u.tidy_a; past_a = u.past_b; past_b = u.past_a }

head_of : (x y : FrameData) (xs ys : List FrameData) → x ∷ xs ≡ y ∷ ys → x ≡ y
head_of x y xs ys e = cc

tail_of : (x y : FrameData) (xs ys : List FrameData) → x ∷ xs ≡ y ∷ ys → xs ≡ ys
tail_of x y xs ys e = cc

taken : (limits : Limits) (rule : RuleData) (p q : PairData) (k : Hands limits rule p q) → Takes limits p.a p.list_a k.arrived k.next k.out k.after
taken limits rule p q k = takes_from limits p.a p.list_a k.arrived k.next k.out k.after k.running k.step

goes_underway : (limits : Limits) (rule : RuleData) (p q : PairData) → IsUnderway p → Hands limits rule p q → IsUnderway q
goes_underway limits rule p q u k = rw k.is (record {
  tidy_a = takes_tidy limits p.a p.list_a k.next k.out k.after u.tidy_a k.arrived (taken limits rule p q k);
  tidy_b = u.tidy_b;
  past_a = takes_past limits p.a p.list_a k.next k.out k.after k.arrived k.running u.past_a (taken limits rule p q k);
  past_b = u.past_b;
})

module _ (no_cause : NoCause) (one_cause : OneCause) (one_summary : OneSummary) where
  -- one frame to each
  hands_alike : (limits : Limits) (rule : RuleData) (p two q q_two : PairData) → AreAlike p two → IsTidy p.a → (two.list_a ≡ p.list_a) ⊎ IsPast p.a → Hands limits rule p q → Hands limits rule two q_two
      → q.a.ended ≢ Some Store → q_two.a.ended ≢ Some Store → AreAlike q q_two
  hands_alike limits rule p two q q_two s tidy at k l no_store no_store_two =
      let way : l.frame ∷ l.rest ≡ k.frame ∷ k.rest = sym l.first ∙ s.to_a ∙ k.first in
      let frame : l.frame ≡ k.frame = head_of l.frame k.frame l.rest k.rest way in
      let rest : l.rest ≡ k.rest = tail_of l.frame k.frame l.rest k.rest way in
      let arrives_two = subst (λ (f : FrameData). Arrives rule f l.arrived) frame l.arrives in
      let arrived : l.arrived ≡ k.arrived = arrives_alike no_cause one_cause rule k.frame k.arrived l.arrived k.arrives arrives_two in
      let taken_two = subst (λ (f : FrameData). Takes limits p.a two.list_a f l.next l.out l.after) arrived
      (subst (λ (x : SessionData). Takes limits x two.list_a l.arrived l.next l.out l.after) s.a (taken limits rule two q_two l)) in
      let next_is : q.a ≡ k.next = ap (λ (x : PairData). x.a) k.is in
      let next_two_is : q_two.a ≡ l.next = ap (λ (x : PairData). x.a) l.is in
      let one = takes_one one_summary limits p.a p.list_a two.list_a s.list_a tidy.apart k.running at k.next k.out k.after l.next l.out l.after
      (λ e. no_store (ap (λ (x : SessionData). x.ended) next_is ∙ e)) (λ e. no_store_two (ap (λ (x : SessionData). x.ended) next_two_is ∙ e)) k.arrived (taken limits rule p q k) taken_two in
      rw (k.is, l.is) (record {
        a = one.state;
        list_a = one.list;
        b = s.b;
        list_b = s.list_b;
        to_a = rest;
        to_b = ap₂ (λ (xs : List FrameData) (o : OutData). xs ++ frames_of o) s.to_b one.says;
      })

-- ---- runs, from their first frame on

data Goes (limits_a limits_b : Limits) (rule_a rule_b : RuleData) (q : PairData) : PairData → Type 0 where
  there : (p : PairData) → p ≡ q → Goes limits_a limits_b rule_a rule_b q p
  by_a : (p r : PairData) → Hands limits_a rule_a p r → Goes limits_a limits_b rule_a rule_b q r → Goes limits_a limits_b rule_a rule_b q p
  by_b : (p r : PairData) → Hands limits_b rule_b (swapped p) (swapped r) → Goes limits_a limits_b rule_a rule_b q r → Goes limits_a limits_b rule_a rule_b q p

-- the session has ended so
record IsOver (ending : End) (p : PairData) : Type 0 where
  ends : EndsBy ending p
  no_store : ending ≢ Store

turn_ends : (ending : End) (p : PairData) → EndsBy ending p → EndsBy ending (swapped p)
turn_ends Done p e = (e.1, e.0)
turn_ends (Peer fault) p (inl a) = inr a
turn_ends (Peer fault) p (inr b) = inl b
turn_ends Full p (inl a) = inr a
turn_ends Full p (inr b) = inl b
turn_ends Store p (inl a) = inr a
turn_ends Store p (inr b) = inl b

undone_peer : (fault : _) → Peer fault ≢ Done
undone_peer fault is = cc

undone_full : Full ≢ Done
undone_full is = cc

undone_store : Store ≢ Done
undone_store is = cc

-- where the other end goes on, this one has ended so
decides : (ending : End) (p : PairData) → EndsBy ending p → IsGoing p.b → p.a.ended ≡ Some ending
decides Done p e going = e.0
decides (Peer fault) p (inl a) going = a
decides (Peer fault) p (inr b) going = absurd (not_going p.b (Peer fault) b (undone_peer fault) going)
decides Full p (inl a) going = a
decides Full p (inr b) going = absurd (not_going p.b Full b undone_full going)
decides Store p (inl a) going = a
decides Store p (inr b) going = absurd (not_going p.b Store b undone_store going)

-- no frame comes where the session has ended
none_comes : (limits : Limits) (rule : RuleData) (ending : End) (p q : PairData) → EndsBy ending p → Hands limits rule p q → ⊥
none_comes limits rule ending p q e k = not_running p.a ending (decides ending p e k.other) k.running

ends_alike : (ending : End) (p two : PairData) → AreAlike p two → EndsBy ending two → EndsBy ending p
ends_alike Done p two s e = (ap (λ (x : SessionData). x.ended) (sym s.a) ∙ e.0, ap (λ (x : SessionData). x.ended) (sym s.b) ∙ e.1)
ends_alike (Peer fault) p two s (inl a) = inl (ap (λ (x : SessionData). x.ended) (sym s.a) ∙ a)
ends_alike (Peer fault) p two s (inr b) = inr (ap (λ (x : SessionData). x.ended) (sym s.b) ∙ b)
ends_alike Full p two s (inl a) = inl (ap (λ (x : SessionData). x.ended) (sym s.a) ∙ a)
ends_alike Full p two s (inr b) = inr (ap (λ (x : SessionData). x.ended) (sym s.b) ∙ b)
ends_alike Store p two s (inl a) = inl (ap (λ (x : SessionData). x.ended) (sym s.a) ∙ a)
ends_alike Store p two s (inr b) = inr (ap (λ (x : SessionData). x.ended) (sym s.b) ∙ b)

alike_sym : (p two : PairData) → AreAlike p two → AreAlike two p
alike_sym p two s = record {
  a = sym s.a;
  list_a = IsPermutation-sym p.list_a two.list_a s.list_a;
  b = sym s.b;
  list_b = IsPermutation-sym p.list_b two.list_b s.list_b;
  to_a = sym s.to_a;
  to_b = sym s.to_b;
}

-- nothing is on its way to both ends
one_way : (limits rule_limits : Limits) (rule other : RuleData) (p two q q_two : PairData) → AreAlike p two → Hands limits rule p q → Hands rule_limits other (swapped two) q_two → ⊥
one_way limits rule_limits rule other p two q q_two s k l = let never : l.frame ∷ l.rest ≡ [] = sym l.first ∙ s.to_b ∙ k.alone in cc

module _ (limits_a limits_b : Limits) (rule_a rule_b : RuleData) where
  abbrev Run : PairData → PairData → Type 0
  Run q p = Goes limits_a limits_b rule_a rule_b q p

  -- the last of a run that goes on from an end by the store
  last_stored : (q r : PairData) (ending : End) → Run q r → r.a.ended ≡ Some Store → IsGoing r.b → IsOver ending q → ⊥
  last_stored q r ending (there r' is) e going over =
      let here : EndsBy ending r = subst (EndsBy ending) (sym is) over.ends in
      let same : Some ending ≡ Some Store = sym (decides ending r here going) ∙ e in
      over.no_store cc
  last_stored q r ending (by_a r' x k rest) e going over = not_running r.a Store e k.running
  last_stored q r ending (by_b r' x k rest) e going over = not_going r.a Store e undone_store k.other

  last_stored_b : (q r : PairData) (ending : End) → Run q r → r.b.ended ≡ Some Store → IsGoing r.a → IsOver ending q → ⊥
  last_stored_b q r ending (there r' is) e going over =
      let here : EndsBy ending r = subst (EndsBy ending) (sym is) over.ends in
      let same : Some ending ≡ Some Store = sym (decides ending (swapped r) (turn_ends ending r here) going) ∙ e in
      over.no_store cc
  last_stored_b q r ending (by_a r' x k rest) e going over = not_going r.b Store e undone_store k.other
  last_stored_b q r ending (by_b r' x k rest) e going over = not_running r.b Store e k.running

  not_stored : (p q r : PairData) (ending : End) → Hands limits_a rule_a p r → Run q r → IsOver ending q → r.a.ended ≢ Some Store
  not_stored p q r ending k rest over e = last_stored q r ending rest e (subst IsGoing (sym (ap (λ (x : PairData). x.b) k.is)) k.other) over

  not_stored_b : (p q r : PairData) (ending : End) → Hands limits_b rule_b (swapped p) (swapped r) → Run q r → IsOver ending q → r.b.ended ≢ Some Store
  not_stored_b p q r ending k rest over e = last_stored_b q r ending rest e (subst IsGoing (sym (ap (λ (x : PairData). x.b) k.is)) k.other) over

  -- at the end one of both goes on, or is done
  one_goes : (q p : PairData) → Run q p → IsGoing p.a ⊎ IsGoing p.b → IsGoing q.a ⊎ IsGoing q.b
  one_goes q p (there p' is) g = subst (λ (x : PairData). IsGoing x.a ⊎ IsGoing x.b) is g
  one_goes q p (by_a p' r k rest) g = one_goes q r rest (inr (subst IsGoing (sym (ap (λ (x : PairData). x.b) k.is)) k.other))
  one_goes q p (by_b p' r k rest) g = one_goes q r rest (inl (subst IsGoing (sym (ap (λ (x : PairData). x.b) k.is)) k.other))

  from_first : (p m q : PairData) → HandsOn limits_a limits_b rule_a rule_b p m → Run q m → Run q p
  from_first p m q (at_first m' is) rest = subst (Run q) is rest
  from_first p m q (then_a x m' before k) rest = from_first p x q before (by_a x m k rest)
  from_first p m q (then_b x m' before k) rest = from_first p x q before (by_b x m k rest)

  module _ (no_cause : NoCause) (one_cause : OneCause) (one_summary : OneSummary) (q q_two : PairData) (ending ending_two : End) (over : IsOver ending q) (over_two : IsOver ending_two q_two) where
    reruns : (p two : PairData) → AreAlike p two → IsUnderway p → Run q p → Run q_two two → AreAlike q q_two
    reruns p two s u (there p' is) (there two' too) = subst (λ (x : PairData). AreAlike q x) too (subst (λ (x : PairData). AreAlike x two) is s)
    reruns p two s u (there p' is) (by_a two' r k rest) =
        absurd (none_comes limits_a rule_a ending two r (ends_alike ending two p (alike_sym p two s) (subst (EndsBy ending) (sym is) over.ends)) k)
    reruns p two s u (there p' is) (by_b two' r k rest) =
        absurd (none_comes limits_b rule_b ending (swapped two) (swapped r) (turn_ends ending two (ends_alike ending two p (alike_sym p two s) (subst (EndsBy ending) (sym is) over.ends))) k)
    reruns p two s u (by_a p' r k rest) (there two' too) =
        absurd (none_comes limits_a rule_a ending_two p r (ends_alike ending_two p two s (subst (EndsBy ending_two) (sym too) over_two.ends)) k)
    reruns p two s u (by_b p' r k rest) (there two' too) =
        absurd (none_comes limits_b rule_b ending_two (swapped p) (swapped r) (turn_ends ending_two p (ends_alike ending_two p two s (subst (EndsBy ending_two) (sym too) over_two.ends))) k)
    reruns p two s u (by_a p' r k rest) (by_b two' r_two l rest_two) = absurd (one_way limits_a limits_b rule_a rule_b p two r (swapped r_two) s k l)
    reruns p two s u (by_b p' r k rest) (by_a two' r_two l rest_two) = absurd (one_way limits_b limits_a rule_b rule_a (swapped p) (swapped two) (swapped r) r_two (turn_alike p two s) k l)
    reruns p two s u (by_a p' r k rest) (by_a two' r_two l rest_two) =
        reruns r r_two (hands_alike no_cause one_cause one_summary limits_a rule_a p two r r_two s u.tidy_a (inr u.past_a) k l (not_stored p q r ending k rest over) (not_stored two q_two r_two ending_two l rest_two over_two))
        (goes_underway limits_a rule_a p r u k) rest rest_two
    reruns p two s u (by_b p' r k rest) (by_b two' r_two l rest_two) =
        let next = hands_alike no_cause one_cause one_summary limits_b rule_b (swapped p) (swapped two) (swapped r) (swapped r_two) (turn_alike p two s) u.tidy_b (inr u.past_b) k l
        (not_stored_b p q r ending k rest over) (not_stored_b two q_two r_two ending_two l rest_two over_two) in
        reruns r r_two (turn_alike (swapped r) (swapped r_two) next) (turn_underway (swapped r) (goes_underway limits_b rule_b (swapped p) (swapped r) (turn_underway p u) k)) rest rest_two

-- ---- from the first frame on

module _ (start : PairStart) (list_a list_b : List Entry) where
  abbrev lead : SessionData
  lead = opened Initiator start.database_a start.node_a start.old_a list_a

  abbrev answerer : SessionData
  answerer = opened Responder start.database_b start.node_b start.old_b list_b

  abbrev first_at : HelloData → PairData
  first_at hello = record { a = lead; list_a = list_a; b = answerer; list_b = list_b; to_a = []; to_b = Hello hello ∷ [] }

  tidy_lead : IsTidy lead
  tidy_lead = record { apart = tt; due = tt }

  tidy_answerer : IsTidy answerer
  tidy_answerer = record { apart = tt; due = tt }

  first_alike : (hello : HelloData) → AreAlike (first_at hello) (first_at hello)
  first_alike hello = record { a = refl; list_a = IsPermutation-refl list_a; b = refl; list_b = IsPermutation-refl list_b; to_a = refl; to_b = refl }

  module _ (hello : HelloData) (limits_a limits_b : Limits) (rule_a rule_b : RuleData) (no_cause : NoCause) (one_cause : OneCause) (one_summary : OneSummary) (q q_two : PairData) (ending ending_two : End) (over : IsOver ending q) (over_two : IsOver ending_two q_two) where
    none_yet : (ending : End) → EndsBy ending (first_at hello) → ⊥
    none_yet ending e = not_running lead ending (decides ending (first_at hello) e (inl refl)) refl

    nothing_comes : (limits : Limits) (rule : RuleData) (r : PairData) → Hands limits rule (first_at hello) r → ⊥
    nothing_comes limits rule r k = let never : [] ≡ k.frame ∷ k.rest = k.first in cc

    underway : (r : PairData) → Hands limits_b rule_b (swapped (first_at hello)) (swapped r) → IsUnderway r
    underway r k =
        let frame : Hello hello ≡ k.frame = head_of (Hello hello) k.frame [] k.rest k.first in
        let arrived : k.arrived ≡ Hello hello = subst (λ (f : FrameData). Arrives rule_b f k.arrived) (sym frame) k.arrives in
        let came = subst (λ (f : FrameData). Takes limits_b answerer list_b f k.next k.out k.after) arrived (taken limits_b rule_b (swapped (first_at hello)) (swapped r) k) in
        turn_underway (swapped r) (rw k.is (record {
          tidy_a = takes_tidy limits_b answerer list_b k.next k.out k.after tidy_answerer (Hello hello) came;
          tidy_b = tidy_lead;
          past_a = hello_past limits_b answerer list_b k.next k.out k.after hello came;
          past_b = leads refl;
        }))

    abbrev One : PairData → Type 0
    One p = Goes limits_a limits_b rule_a rule_b q p

    abbrev Two : PairData → Type 0
    Two p = Goes limits_a limits_b rule_a rule_b q_two p

    from_firsts : (p two : PairData) → p ≡ first_at hello → two ≡ first_at hello → One p → Two two → AreAlike q q_two
    from_firsts p two e f (there p' is) run = absurd (none_yet ending (subst (EndsBy ending) (sym is ∙ e) over.ends))
    from_firsts p two e f (by_a p' r k rest) run = absurd (nothing_comes limits_a rule_a r (subst (λ (x : PairData). Hands limits_a rule_a x r) e k))
    from_firsts p two e f (by_b p' r k rest) (there two' too) = absurd (none_yet ending_two (subst (EndsBy ending_two) (sym too ∙ f) over_two.ends))
    from_firsts p two e f (by_b p' r k rest) (by_a two' r_two l rest_two) = absurd (nothing_comes limits_a rule_a r_two (subst (λ (x : PairData). Hands limits_a rule_a x r_two) f l))
    from_firsts p two e f (by_b p' r k rest) (by_b two' r_two l rest_two) =
        let k_first = subst (λ (x : PairData). Hands limits_b rule_b (swapped x) (swapped r)) e k in
        let l_first = subst (λ (x : PairData). Hands limits_b rule_b (swapped x) (swapped r_two)) f l in
        let next = hands_alike no_cause one_cause one_summary limits_b rule_b (swapped (first_at hello)) (swapped (first_at hello)) (swapped r) (swapped r_two) (turn_alike (first_at hello) (first_at hello) (first_alike hello)) tidy_answerer (inl refl) k_first l_first
        (not_stored_b limits_a limits_b rule_a rule_b (first_at hello) q r ending k_first rest over) (not_stored_b limits_a limits_b rule_a rule_b (first_at hello) q_two r_two ending_two l_first rest_two over_two) in
        reruns limits_a limits_b rule_a rule_b no_cause one_cause one_summary q q_two ending ending_two over over_two r r_two (turn_alike (swapped r) (swapped r_two) next) (underway r k_first) rest rest_two

-- ---- what both answer

some_end : (x y : End) → Some x ≡ Some y → x ≡ y
some_end x y e = cc

one_end : (x y : End) (p : PairData) → IsGoing p.a ⊎ IsGoing p.b → EndsBy x p → EndsBy y p → y ≡ x
one_end x y p (inr going) e f = some_end y x (sym (decides y p f going) ∙ decides x p e going)
one_end x y p (inl going) e f = some_end y x (sym (decides y (swapped p) (turn_ends y p f) going) ∙ decides x (swapped p) (turn_ends x p e) going)

remembers_by : (o : Option End) (s : SessionData) (ids others : List UpdateId) → RemembersBy o s ids → RemembersBy o s others → others ≡ ids
remembers_by None s ids others a b = b ∙ sym a
remembers_by (Some Done) s ids others a b = least_alike _ _ (λ id. refl) MAX_NEEDS ids others a b
remembers_by (Some (Peer fault)) s ids others a b = b ∙ sym a
remembers_by (Some Full) s ids others a b = b ∙ sym a
remembers_by (Some Store) s ids others a b = b ∙ sym a

remember_one : (s two : SessionData) (ids others : List UpdateId) → two ≡ s → Remembers s ids → Remembers two others → others ≡ ids
remember_one s two ids others is a b = remembers_by s.ended s ids others a (subst (λ (x : SessionData). Remembers x others) is b)

abbrev end_with : End → End → ℕ → ℕ → ℕ → List UpdateId → List UpdateId → PairEnd
end_with a b gained_a gained_b turns remembered_a remembered_b =
    record { a = a; b = b; gained_a = gained_a; gained_b = gained_b; turns = turns; remembered_a = remembered_a; remembered_b = remembered_b }

same_answer : (x y : PairEnd) → y.a ≡ x.a → y.b ≡ x.b → y.gained_a ≡ x.gained_a → y.gained_b ≡ x.gained_b → y.turns ≡ x.turns → y.remembered_a ≡ x.remembered_a → y.remembered_b ≡ x.remembered_b → y ≡ x
same_answer x y a b c d e f g = λ k. end_with (a k) (b k) (c k) (d k) (e k) (f k) (g k)

bytes_back : (members : List (List ℕ)) → map (λ (e : Entry). e.bytes) (map entry_of members) ≡ members
bytes_back [] = refl
bytes_back (x ∷ xs) = ap (λ (ys : List (List ℕ)). x ∷ ys) (bytes_back xs)

members_alike : (xs ys : List (List ℕ)) (list other : List Entry) → list ≡ map entry_of xs → other ≡ map entry_of ys → IsPermutation list other → IsPermutation xs ys
members_alike xs ys list other e f p =
    let entries = subst (λ (es : List Entry). IsPermutation es (map entry_of ys)) e (subst (λ (es : List Entry). IsPermutation list es) f p) in
    let bytes = IsPermutation-map (λ (x : Entry). x.bytes) (map entry_of xs) (map entry_of ys) entries in
    subst (λ (zs : List (List ℕ)). IsPermutation zs ys) (bytes_back xs) (subst (λ (zs : List (List ℕ)). IsPermutation (map (λ (x : Entry). x.bytes) (map entry_of xs)) zs) (bytes_back ys) bytes)

pub one_run : NoCause → OneCause → OneSummary → (limits_a limits_b : Limits) (rule_a rule_b : RuleData) (start : PairStart) (before_a before_b after_a after_b others_a others_b : List (List ℕ)) (ended other : PairEnd)
    → Syncs limits_a limits_b rule_a rule_b start before_a before_b ended after_a after_b → Syncs limits_a limits_b rule_a rule_b start before_a before_b other others_a others_b
    → ended.a ≢ Store → other.a ≢ Store → AreOneRun ended other after_a after_b others_a others_b
one_run no_cause one_cause one_summary limits_a limits_b rule_a rule_b start before_a before_b after_a after_b others_a others_b ended other one two no_store no_store_two =
    let list_a = map entry_of before_a in
    let list_b = map entry_of before_b in
    let hello : two.begins.hello ≡ one.begins.hello = hello_alike one_summary (lead start list_a list_b) one.begins.hello two.begins.hello one.begins.is_hello two.begins.is_hello in
    let first_two : two.first ≡ first_at start list_a list_b one.begins.hello = two.begins.is ∙ ap (first_at start list_a list_b) hello in
    let over : IsOver ended.a one.last = record { ends = one.ends; no_store = no_store } in
    let over_two : IsOver other.a two.last = record { ends = two.ends; no_store = no_store_two } in
    let run = from_first limits_a limits_b rule_a rule_b one.first one.last one.last one.run (there one.last refl) in
    let run_two = from_first limits_a limits_b rule_a rule_b two.first two.last two.last two.run (there two.last refl) in
    let last = from_firsts start list_a list_b one.begins.hello limits_a limits_b rule_a rule_b no_cause one_cause one_summary one.last two.last ended.a other.a over over_two one.first two.first one.begins.is first_two run run_two in
    let going = one_goes limits_a limits_b rule_a rule_b one.last one.first run (subst (λ (x : PairData). IsGoing x.a ⊎ IsGoing x.b) (sym one.begins.is) (inl (inl refl))) in
    let end : other.a ≡ ended.a = one_end ended.a other.a one.last going one.ends (ends_alike other.a one.last two.last last two.ends) in
    record {
      answer = same_answer ended other end (two.both ∙ end ∙ sym one.both) (two.gained_a ∙ ap (λ (s : SessionData). s.gained) last.a ∙ sym one.gained_a) (two.gained_b ∙ ap (λ (s : SessionData). s.gained) last.b ∙ sym one.gained_b)
          (two.turns ∙ ap₂ (λ (x y : SessionData). max x.turns y.turns) last.a last.b ∙ sym one.turns)
          (remember_one one.last.a two.last.a ended.remembered_a other.remembered_a last.a one.remembered_a two.remembered_a) (remember_one one.last.b two.last.b ended.remembered_b other.remembered_b last.b one.remembered_b two.remembered_b);
      list_a = members_alike after_a others_a one.last.list_a two.last.list_a one.list_a two.list_a last.list_a;
      list_b = members_alike after_b others_b one.last.list_b two.last.list_b one.list_b two.list_b last.list_b;
    }
