-- The session of two holders: how it begins, what a round makes of it, and how it ends.
use Rattle.std.proofs.Common.{◌≡◌, ◌≢◌, inl, inr, ℕ, ◌+◌, ◌<◌, max, Bool, true, false, ◌&&◌, if◌then◌else◌, List, [], ◌∷◌, ◌++◌, All, Contains, map, Option, Some, None, option_map, refl, sym, ap, subst, ◌∙◌, arith}
use Rattle.std.specs.List.{AllByRecursion}
use Rattle.std.proofs.lemmas.List.{length-map}
use Rattle.std.proofs.lemmas.List.Elements.{All-contains_itself, Contains-append_left, Contains-append_right}
use Rattle.update_check.specs.Holding.{IsHeld}
use Rattle.update_check.specs.Signed.{IsChecked}
use Rattle.update_codec.specs.Parts.{entry_of}
use Rattle.update_model.specs.Batch.{Limits}
use Rattle.update_model.specs.Entry.{Entry}
use Rattle.update_model.specs.Rule.{RuleData}
use Rattle.session_rules.specs.Course.{Greets, Remembers, opened}
use Rattle.session_rules.specs.Laws.{NoCollision}
use Rattle.session_rules.specs.Pair.{PairData, frames_of}
use Rattle.session_rules.specs.declared.role.Role.TheVariants.{Initiator, Responder}
use Rattle.session_rules.specs.declared.end.End.{End}
use Rattle.session_rules.specs.declared.end.End.TheVariants.{Done, Peer, Full, Store}
use Rattle.session_rules.specs.declared.peer_fault.PeerFault.{PeerFault}
use Rattle.session_rules.specs.State.{HelloData, FrameData, Hello, SessionData, OutData}
use Rattle.session_rules.specs.Steps as rules
use Rattle.session_rules.specs.Steps.{hello_fault, silent, Steps, Unless}
use Rattle.session_rules.proofs.ItemStep.{takes_from}
use Rattle.session_rules.proofs.Courses.{continues_few}
use Rattle.sync_session.specs.Carrying.{at_hand, facing, Begins, EndsBy, Going, HandsOn, at_first, then_b, HasGot, on, over, IsHanded, IsOnItsWay, IsWell, Syncs, Unites}
use Rattle.sync_session.specs.Kept.{out_of, seen, updates_in, GrowsBy, Kept}
use Rattle.sync_session.specs.declared.out.Out.{Out}
use Rattle.sync_session.specs.declared.pair.PairStart.{PairStart}
use Rattle.sync_session.specs.declared.pair.PairEnd.{PairEnd}
use Rattle.sync_session.proofs.Gains.{entries_from, grown_within, grows_on, grows_wider}
use Rattle.sync_session.proofs.Hellos.{members_few}
use Rattle.sync_session.proofs.Rounds.{IsIn, at_hand_within, pending_in}
use Rattle.sync_session.proofs.Uniting.{IsFine, NoCause, carries_all, opens_from, united}
use Rattle.sync_session.proofs.Within.{EndIn, PairIn, run_in}

-- ---- the first two frames

-- the pair before any frame was read
abbrev first_pair : PairStart → List Entry → List Entry → HelloData → PairData
first_pair start list_a list_b hello = record {
  a = opened Initiator start.database_a start.node_a start.old_a list_a;
  list_a = list_a;
  b = opened Responder start.database_b start.node_b start.old_b list_b;
  list_b = list_b;
  to_a = [];
  to_b = Hello hello ∷ [];
}

-- a session has begun, and the second end has answered the first one's Hello
pub record Opening (start : PairStart) (limits_a limits_b : Limits) (rule_a rule_b : RuleData) (before_a before_b : List Entry) (a b : SessionData) (list_b : List Entry) (out : OutData) : Type 0 where
  pub first : PairData
  pub begins : Begins start before_a before_b first
  pub got : HasGot limits_a limits_b rule_a rule_b first a before_a b list_b out
  pub runs : out.turn ≢ None → out.end ≡ None

no_have : (b : Bool) → None ≡ (if b && false then Some Done else None)
no_have true = refl
no_have false = refl

module _ (start : PairStart) (limits_a limits_b : Limits) (rule_a rule_b : RuleData) (list_a list_b : List Entry) (hello : HelloData) (b : SessionData) (out : OutData) (after : List Entry)
    (step : Steps limits_b (opened Responder start.database_b start.node_b start.old_b list_b) list_b (Hello hello) b out after) where
  abbrev begun_a : SessionData
  begun_a = opened Initiator start.database_a start.node_a start.old_a list_a

  abbrev begun_b : SessionData
  begun_b = opened Responder start.database_b start.node_b start.old_b list_b

  answered : HandsOn limits_a limits_b rule_a rule_b (first_pair start list_a list_b hello) (facing begun_a list_a b after (frames_of out))
  answered = then_b (first_pair start list_a list_b hello) (facing begun_a list_a b after (frames_of out)) (at_first (first_pair start list_a list_b hello) refl) (record {
    running = refl;
    other = inl refl;
    alone = refl;
    frame = Hello hello;
    rest = [];
    arrived = Hello hello;
    next = b;
    out = out;
    after = after;
    first = refl;
    arrives = refl;
    step = step;
    is = refl;
  })

  by_fault : (fault : Option PeerFault) → Unless fault begun_b list_b b out after (rules.Greets Responder begun_b list_b hello b out after)
      → HasGot limits_a limits_b rule_a rule_b (first_pair start list_a list_b hello) begun_a list_a b after out
  by_fault (Some fault) u = over (facing begun_a list_a b after (frames_of out)) (Peer fault) (ap (λ (o : OutData). o.turn) u.1) (ap (λ (o : OutData). o.end) u.1) answered refl refl refl refl (inr (ap (λ (x : SessionData). x.ended) u.0))
  by_fault None g = on (record {
    turn = _;
    is_turn = ap (λ (o : OutData). o.turn) g.4.1;
    hello = inr refl;
    running = refl;
    sent_have = ap (λ (x : SessionData). x.sent_have) g.4.0;
    got_have = ap (λ (x : SessionData). x.got_have) g.4.0;
    ended = rw g.4.0 (no_have _);
  }) answered

  first_answer : HasGot limits_a limits_b rule_a rule_b (first_pair start list_a list_b hello) begun_a list_a b after out
  first_answer = by_fault (hello_fault begun_b hello) (takes_from limits_b begun_b list_b (Hello hello) b out after refl step)

  runs_by : (fault : Option PeerFault) → Unless fault begun_b list_b b out after (rules.Greets Responder begun_b list_b hello b out after) → out.turn ≢ None → out.end ≡ None
  runs_by (Some fault) u some = absurd (some (ap (λ (o : OutData). o.turn) u.1))
  runs_by None g some = ap (λ (o : OutData). o.end) g.4.1

  first_runs : out.turn ≢ None → out.end ≡ None
  first_runs = runs_by (hello_fault begun_b hello) (takes_from limits_b begun_b list_b (Hello hello) b out after refl step)

pub opening : (start : PairStart) (limits_a limits_b : Limits) (rule_a rule_b : RuleData) (list_a list_b : List Entry) (a begun b : SessionData) (after : List Entry) (hello : Option HelloData) (gives out : OutData)
    → a ≡ opened Initiator start.database_a start.node_a start.old_a list_a → Greets Initiator a gives → hello ≡ gives.hello → begun ≡ opened Responder start.database_b start.node_b start.old_b list_b
    → IsHanded limits_b rule_b begun list_b (option_map Hello hello) b out after → Opening start limits_a limits_b rule_a rule_b list_a list_b a b after out
opening start limits_a limits_b rule_a rule_b list_a list_b a begun b after hello gives out is_a greets same is_b handed =
    let some : hello ≡ Some greets.0 = same ∙ ap (λ (o : OutData). o.hello) greets.2 in
    let given = subst (λ (h : Option HelloData). IsHanded limits_b rule_b begun list_b (option_map Hello h) b out after) some handed in
    let came = subst (λ (f : FrameData). Steps limits_b begun list_b f b out after) given.1 given.2 in
    let step = subst (λ (s : SessionData). Steps limits_b s list_b (Hello greets.0) b out after) is_b came in
    record {
      first = first_pair start list_a list_b greets.0;
      begins = record { hello = greets.0; is_hello = subst (λ (s : SessionData). rules.IsHello s greets.0) is_a greets.1; is = refl };
      got = subst (λ (s : SessionData). HasGot limits_a limits_b rule_a rule_b (first_pair start list_a list_b greets.0) s list_a b after out) (sym is_a)
          (first_answer start limits_a limits_b rule_a rule_b list_a list_b greets.0 b out after step);
      runs = first_runs start limits_a limits_b rule_a rule_b list_a list_b greets.0 b out after step;
    }

-- all that two ends begin with is of a set where their lists are
pub begins_in : (P : Entry → Type 0) (start : PairStart) (list_a list_b : List Entry) (p : PairData) → Begins start list_a list_b p → AllByRecursion P list_a → AllByRecursion P list_b → PairIn P p
begins_in P start list_a list_b p b all_a all_b = subst (PairIn P) (sym b.is) (record {
  a = record { start = all_a; waiting = tt; gathered = tt };
  list_a = all_a;
  b = record { start = tt; waiting = tt; gathered = tt };
  list_b = all_b;
  to_a = tt;
  to_b = (tt, tt);
})

-- ---- the end

pub syncs_from : (start : PairStart) (limits_a limits_b : Limits) (rule_a rule_b : RuleData) (before_a before_b after_a after_b : List (List ℕ)) (first : PairData) (a b : SessionData) (out : OutData) (ended : PairEnd)
    → Begins start (map entry_of before_a) (map entry_of before_b) first → HasGot limits_a limits_b rule_a rule_b first a (map entry_of after_a) b (map entry_of after_b) out → out.turn ≡ None → out.end ≡ Some ended.a → ended.b ≡ ended.a
    → ended.gained_a ≡ a.gained → ended.gained_b ≡ b.gained → ended.turns ≡ max a.turns b.turns → Remembers a ended.remembered_a → Remembers b ended.remembered_b
    → Syncs limits_a limits_b rule_a rule_b start before_a before_b ended after_a after_b
syncs_from start limits_a limits_b rule_a rule_b before_a before_b after_a after_b first a b out ended begins (on w run) none is both gained_a gained_b turns remembered_a remembered_b = absurd (let some = w.is_turn in cc)
syncs_from start limits_a limits_b rule_a rule_b before_a before_b after_a after_b first a b out ended begins (over q ending no_turn says run is_a is_list_a is_b is_list_b ends) none is both gained_a gained_b turns remembered_a remembered_b =
    let same : Some ending ≡ Some ended.a = sym says ∙ is in
    let same_end : ending ≡ ended.a = cc in
    record {
      first = first;
      last = q;
      begins = begins;
      run = run;
      list_a = is_list_a;
      list_b = is_list_b;
      ends = subst (λ (x : End). EndsBy x q) same_end ends;
      both = both;
      gained_a = gained_a ∙ ap (λ (s : SessionData). s.gained) (sym is_a);
      gained_b = gained_b ∙ ap (λ (s : SessionData). s.gained) (sym is_b);
      turns = turns ∙ ap (λ (s : SessionData). max s.turns b.turns) (sym is_a) ∙ ap (λ (s : SessionData). max q.a.turns s.turns) (sym is_b);
      remembered_a = subst (λ (s : SessionData). Remembers s ended.remembered_a) (sym is_a) remembered_a;
      remembered_b = subst (λ (s : SessionData). Remembers s ended.remembered_b) (sym is_b) remembered_b;
    }

-- between two holders of one rule and one database
pub unites_from : NoCause → (start : PairStart) (limits_a limits_b : Limits) (rule_a rule_b : RuleData) (before_a before_b after_a after_b : List (List ℕ)) (ended : PairEnd) → IsHeld limits_a rule_a before_a → IsHeld limits_b rule_b before_b
    → Syncs limits_a limits_b rule_a rule_b start before_a before_b ended after_a after_b → rule_a ≡ rule_b → start.database_a ≡ start.database_b → NoCollision (map entry_of before_a) (map entry_of before_b) → ended.a ≢ Full → ended.a ≢ Store
    → Unites before_a before_b ended after_a after_b
unites_from no_cause start limits_a limits_b rule_a rule_b before_a before_b after_a after_b ended held_a held_b s one_rule one_database alike room disk =
    let few_a = members_few limits_a rule_a before_a held_a in
    let few_b = members_few limits_b rule_b before_b held_b in
    let long_a = length-map before_a entry_of in
    let long_b = length-map before_b entry_of in
    let o = opens_from start (map entry_of before_a) (map entry_of before_b) s.first held_a.closed held_b.closed (omega arith) (omega arith) one_database s.begins in
    let fine_a = entries_from (IsChecked rule_a) before_a held_a.checked in
    let fine_b = entries_from (IsChecked rule_a) before_b (subst (λ (r : RuleData). All (IsChecked r) before_b) (sym one_rule) held_b.checked) in
    let first_in = begins_in (IsFine rule_a) start (map entry_of before_a) (map entry_of before_b) s.first s.begins fine_a fine_b in
    let run = subst (λ (r : RuleData). HandsOn limits_a limits_b rule_a r s.first s.last) (sym one_rule) s.run in
    let first_a : s.first.list_a ≡ map entry_of before_a = ap (λ (p : PairData). p.list_a) s.begins.is in
    let first_b : s.first.list_b ≡ map entry_of before_b = ap (λ (p : PairData). p.list_b) s.begins.is in
    let u = united limits_a limits_b (map entry_of before_a) (map entry_of before_b) s.first s.last ended.a o first_a first_b (carries_all no_cause rule_a limits_a limits_b s.first s.last first_in run) alike s.ends room disk in
    record {
      done_a = u.0;
      done_b = s.both ∙ u.0;
      turns = rw s.turns u.2;
      list_a = rw (← s.list_a, ← first_a, ← first_b) u.1.list_a;
      list_b = rw (← s.list_b, ← first_a, ← first_b) u.1.list_b;
      gained_a = s.gained_a ∙ (rw (← first_a, ← first_b) u.1.gained_a);
      gained_b = s.gained_b ∙ (rw (← first_a, ← first_b) u.1.gained_b);
    }

-- ---- from round to round

module _ (start : PairStart) (limits_a limits_b : Limits) (rule_a rule_b : RuleData) (before_a before_b : List (List ℕ)) (faults_a faults_b : ℕ)
    (k_a : Kept) (now_a : List (List ℕ)) (limits_now_a : Limits) (rule_now_a : RuleData) (faults_now_a : ℕ)
    (k_b : Kept) (now_b : List (List ℕ)) (limits_now_b : Limits) (rule_now_b : RuleData) (faults_now_b : ℕ) (out : Out)
    (g : Going start limits_a limits_b rule_a rule_b before_a before_b faults_a faults_b k_a now_a limits_now_a rule_now_a faults_now_a k_b now_b limits_now_b rule_now_b faults_now_b out) where
  abbrev union : List (List ℕ)
  union = before_a ++ before_b

  first_a : All (Contains union) before_a
  first_a = λ i d low. Contains-append_left before_a before_b _ (All-contains_itself before_a i d low)

  first_b : All (Contains union) before_b
  first_b = λ i d low. Contains-append_right before_a before_b _ (All-contains_itself before_b i d low)

  all_a : All (Contains union) now_a
  all_a = grown_within (Contains union) union before_a now_a g.grows_a first_a (λ u c. c)

  all_b : All (Contains union) now_b
  all_b = grown_within (Contains union) union before_b now_b g.grows_b first_b (λ u c. c)

  pub well_now_a : IsWell limits_now_a rule_now_a k_a now_a
  well_now_a = rw (g.same_limits_a, g.same_rule_a) g.well_a

  pub well_now_b : IsWell limits_now_b rule_now_b k_b now_b
  well_now_b = rw (g.same_limits_b, g.same_rule_b) g.well_b

  way_by : HasGot limits_a limits_b rule_a rule_b g.first (seen now_a k_a) (map entry_of now_a) (seen now_b k_b) (map entry_of now_b) (out_of (map entry_of now_b) out) → (out_of (map entry_of now_b) out).turn ≢ None
      → IsOnItsWay (seen now_a k_a) (seen now_b k_b) (out_of (map entry_of now_b) out)
  way_by (on w run) some = w
  way_by (over q ending none says run is_a is_list_a is_b is_list_b ends) some = absurd (some none)

  module _ (some : (out_of (map entry_of now_b) out).turn ≢ None) where
    pub way : IsOnItsWay (seen now_a k_a) (seen now_b k_b) (out_of (map entry_of now_b) out)
    way = way_by g.got some

    pair_by : HasGot limits_a limits_b rule_a rule_b g.first (seen now_a k_a) (map entry_of now_a) (seen now_b k_b) (map entry_of now_b) (out_of (map entry_of now_b) out)
        → EndIn (IsIn union) (seen now_a k_a) × EndIn (IsIn union) (seen now_b k_b)
    pair_by (over q ending none says run is_a is_list_a is_b is_list_b ends) = absurd (some none)
    pair_by (on w run) =
        let i = run_in (IsIn union) limits_a limits_b rule_a rule_b g.first _ run (begins_in (IsIn union) start (map entry_of before_a) (map entry_of before_b) g.first g.begins (entries_from (Contains union) before_a first_a) (entries_from (Contains union) before_b first_b)) in
        (i.a, i.b)

    pending_a : All (Contains union) (updates_in k_a)
    pending_a = pending_in union k_a now_a (pair_by g.got).0

    pending_b : All (Contains union) (updates_in k_b)
    pending_b = pending_in union k_b now_b (pair_by g.got).1

    module _ (next_a next_b : List (List ℕ)) (grows_a : GrowsBy (at_hand k_a now_b now_a) now_a next_a) (grows_b : GrowsBy (at_hand k_b next_a now_b) now_b next_b) where
      -- what a round adds is of the two first lists
      pub grows_next_a : GrowsBy union before_a next_a
      grows_next_a = grows_on union before_a now_a next_a g.grows_a (grows_wider (at_hand k_a now_b now_a) union now_a next_a (at_hand_within union k_a now_b now_a pending_a all_b all_a) grows_a)

      all_next_a : All (Contains union) next_a
      all_next_a = grown_within (Contains union) union before_a next_a grows_next_a first_a (λ u c. c)

      pub grows_next_b : GrowsBy union before_b next_b
      grows_next_b = grows_on union before_b now_b next_b g.grows_b (grows_wider (at_hand k_b next_a now_b) union now_b next_b (at_hand_within union k_b next_a now_b pending_b all_next_a all_b) grows_b)

  -- two ends that have not failed have counted few turns
  pub few_turns : k_a.state.turns + k_b.state.turns < 1600000
  few_turns =
      let low_a = continues_few limits_a (seen now_a k_a) (map entry_of now_a) g.small_a g.well_a.belongs.continues in
      let low_b = continues_few limits_b (seen now_b k_b) (map entry_of now_b) g.small_b g.well_b.belongs.continues in
      omega arith
