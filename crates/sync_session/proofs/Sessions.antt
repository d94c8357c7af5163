-- What holds of two ends once they have met, and from round to round; and what is told of them when the session has ended.
use Rattle.std.proofs.Common.{◌≡◌, ◌≢◌, ◌⊎◌, inl, inr, ℕ, ◌+◌, ◌-◌, ◌<◌, cond, is_some, Bool, true, false, List, ◌++◌, All, Contains, map, Some, None, option_map, Result, Ok, Err, IfOk, OnOk, refl, sym, ap, subst, ◌∙◌, arith}
use Rattle.std.proofs.lemmas.List.Elements.{All-contains}
use Rattle.bec_bytes.specs.Causes.{Rose}
use Rattle.update_check.specs.Holding.{IsHeld}
use Rattle.update_codec.specs.Parts.{entry_of}
use Rattle.update_model.specs.Batch.{Limits}
use Rattle.update_model.specs.Rule.{RuleData}
use Rattle.update_model.specs.declared.update_id.UpdateId.{UpdateId}
use Rattle.session_rules.specs.Course.{Remembers, opened}
use Rattle.session_rules.specs.Pair.{PairData}
use Rattle.session_rules.specs.declared.role.Role.TheVariants.{Initiator, Responder}
use Rattle.session_rules.specs.declared.end.End.{End}
use Rattle.session_rules.specs.declared.end.End.TheVariants.{Done, Full, Store}
use Rattle.session_rules.specs.State.{Hello}
use Rattle.sync_session.specs.Carrying.{at_hand, start_of, Closes, Going, HasGot, on, over, IsHanded, IsUnrefused, IsWell, Syncs}
use Rattle.sync_session.specs.Kept.{hello_of, out_of, seen, updates_in, BelongsTo, Kept, Moves, Stands, turn_of}
use Rattle.sync_session.specs.Starts.{before_hello, IsFresh, RemembersBy, StartsAs}
use Rattle.sync_session.specs.declared.out.Out.{Out}
use Rattle.sync_session.specs.declared.pair.PairStart.{PairStart}
use Rattle.sync_session.specs.declared.pair.PairEnd.{PairEnd}
use Rattle.sync_session.proofs.Gains.{grows_none, grows_wider}
use Rattle.sync_session.proofs.Moving.{mapped_missing, mapped_some, rose_since}
use Rattle.sync_session.proofs.Rounds.{IsIn, is_there, none_not, pending_in, rounds_left}
use Rattle.sync_session.proofs.Starting.{responder_belongs}
use Rattle.sync_session.proofs.Syncing.{Opening, grows_next_a, grows_next_b, opening, syncs_from}
use Rattle.sync_session.proofs.Within.{EndIn}

-- ---- the first two frames

-- a session that has begun has gathered nothing
none_gathered : (set : List (List ℕ)) (database node : List ℕ) (old : List UpdateId) (members : List (List ℕ)) (k : Kept) → seen members k ≡ opened Responder database node old (map entry_of members) → All (Contains set) (updates_in k)
none_gathered set database node old members k is = pending_in set k members (subst (EndIn (IsIn set)) (sym is) (record { start = tt; waiting = tt; gathered = tt }))

-- a session that waits for the first Hello is well
pub well_fresh : (limits : Limits) (rule : RuleData) (k : Kept) (members : List (List ℕ)) → IsHeld limits rule members → IsFresh Responder k → IsWell limits rule k members
well_fresh limits rule k members held is =
    let fine : k.failed ≡ false = ap (λ (x : Kept). x.failed) is in
    record { fine = fine; belongs = responder_belongs limits rule Responder k.state.database k.state.node k.state.old members k held refl is fine }

-- two ends as they are made keep what they begin with
pub start_is : (start : PairStart) (a b : Kept) → a ≡ before_hello Initiator start.database_a start.node_a start.old_a → b ≡ before_hello Responder start.database_b start.node_b start.old_b → start_of a b ≡ start
start_is start a b is_a is_b =
    subst (λ (x : Kept). start_of x b ≡ start) (sym is_a)
    (subst (λ (x : Kept). start_of (before_hello Initiator start.database_a start.node_a start.old_a) x ≡ start) (sym is_b) refl)

module _ (start : PairStart) (limits_a limits_b : Limits) (rule_a rule_b : RuleData) (before_a before_b : List (List ℕ)) (faults_a faults_b : ℕ) (k_a begun : Kept) (gives : Out)
    (starts_a : StartsAs Initiator start.database_a start.node_a start.old_a before_a k_a gives) (opened_b : seen before_b begun ≡ opened Responder start.database_b start.node_b start.old_b (map entry_of before_b))
    (limits_now : Limits) (rule_now : RuleData) (now_b : List (List ℕ)) (faults_now : ℕ) (m : Moves (updates_in begun) limits_b rule_b before_b faults_b limits_now rule_now now_b faults_now) where
  -- nothing but what either holder had comes to the second
  pub first_moves : Moves (before_a ++ before_b) limits_b rule_b before_b faults_b limits_now rule_now now_b faults_now
  first_moves = record {
    grows = grows_wider (updates_in begun) (before_a ++ before_b) before_b now_b
        (λ u c. All-contains (Contains (before_a ++ before_b)) (updates_in begun) u (none_gathered (before_a ++ before_b) start.database_b start.node_b start.old_b before_b begun opened_b) c) m.grows;
    later = m.later;
    same_limits = m.same_limits;
    same_rule = m.same_rule;
  }

  opens : (k_b : Kept) (out : Out) → IsHanded limits_b rule_b (seen before_b begun) (map entry_of before_b) (option_map Hello (option_map hello_of gives.hello)) (seen now_b k_b) (out_of (map entry_of now_b) out) (map entry_of now_b)
      → Opening start limits_a limits_b rule_a rule_b (map entry_of before_a) (map entry_of before_b) (seen before_a k_a) (seen now_b k_b) (map entry_of now_b) (out_of (map entry_of now_b) out)
  opens k_b out handed = opening start limits_a limits_b rule_a rule_b (map entry_of before_a) (map entry_of before_b) (seen before_a k_a) (seen before_b begun) (seen now_b k_b) (map entry_of now_b) (option_map hello_of gives.hello)
      (out_of (map entry_of before_a) gives) (out_of (map entry_of now_b) out) starts_a.state starts_a.greets refl opened_b handed

  -- an end that sends a turn has not ended
  pub first_unrefused : (k_b : Kept) (out : Out) → IsHanded limits_b rule_b (seen before_b begun) (map entry_of before_b) (option_map Hello (option_map hello_of gives.hello)) (seen now_b k_b) (out_of (map entry_of now_b) out) (map entry_of now_b)
      → IsUnrefused out → (out.end ≢ Some Full) × (out.end ≢ Some Store)
  first_unrefused k_b out handed (inr ends) = ends
  first_unrefused k_b out handed (inl some) = let none = (opens k_b out handed).runs (mapped_some turn_of out.turn some) in (none_not out.end Full none, none_not out.end Store none)

  -- and both ends go on from there
  pub first_going : (k_b : Kept) (out : Out) → IsHeld limits_a rule_a before_a → IsHeld limits_b rule_b before_b → BelongsTo limits_a rule_a k_a before_a
      → IsHanded limits_b rule_b (seen before_b begun) (map entry_of before_b) (option_map Hello (option_map hello_of gives.hello)) (seen now_b k_b) (out_of (map entry_of now_b) out) (map entry_of now_b)
      → IsWell limits_b rule_b k_b now_b → (out.end ≡ Some Store → Rose faults_b faults_now)
      → Going start limits_a limits_b rule_a rule_b before_a before_b faults_a faults_b k_a before_a limits_a rule_a faults_a k_b now_b limits_now rule_now faults_now out
  first_going k_b out held_a held_b belongs handed well store =
      let o = opens k_b out handed in
      record {
        first = o.first;
        begins = o.begins;
        got = o.got;
        well_a = record { fine = starts_a.failed; belongs = belongs starts_a.failed };
        well_b = well;
        grows_a = grows_none (before_a ++ before_b) before_a before_a refl;
        grows_b = first_moves.grows;
        later_a = omega arith;
        later_b = m.later;
        store = λ is. inr (store is);
        same_limits_a = refl;
        same_limits_b = m.same_limits;
        same_rule_a = refl;
        same_rule_b = m.same_rule;
        small_a = held_a.updates;
        small_b = held_b.updates;
      }

  -- so by what the second answers
  module _ {E : Type 0} (k_b : Kept) (r : Result Out E)
      (handed : IfOk r (λ out. IsHanded limits_b rule_b (seen before_b begun) (map entry_of before_b) (option_map Hello (option_map hello_of gives.hello)) (seen now_b k_b) (out_of (map entry_of now_b) out) (map entry_of now_b))) where
    pub first_goes : IsHeld limits_a rule_a before_a → IsHeld limits_b rule_b before_b → BelongsTo limits_a rule_a k_a before_a → OnOk r (IsWell limits_b rule_b k_b now_b) → IfOk r (λ out. out.end ≡ Some Store → Rose faults_b faults_now)
        → IfOk r (λ out. Going start limits_a limits_b rule_a rule_b before_a before_b faults_a faults_b k_a before_a limits_a rule_a faults_a k_b now_b limits_now rule_now faults_now out)
    first_goes held_a held_b belongs well store = by r handed well store
      where
        by : (r : Result Out E) → IfOk r (λ out. IsHanded limits_b rule_b (seen before_b begun) (map entry_of before_b) (option_map Hello (option_map hello_of gives.hello)) (seen now_b k_b) (out_of (map entry_of now_b) out) (map entry_of now_b))
            → OnOk r (IsWell limits_b rule_b k_b now_b) → IfOk r (λ out. out.end ≡ Some Store → Rose faults_b faults_now)
            → IfOk r (λ out. Going start limits_a limits_b rule_a rule_b before_a before_b faults_a faults_b k_a before_a limits_a rule_a faults_a k_b now_b limits_now rule_now faults_now out)
        by (Ok out) h w s = first_going k_b out held_a held_b belongs h w s
        by (Err e) h w s = tt

    pub first_whole : (W : Type 0) → IfOk r (λ out. out.end ≢ Some Full → out.end ≢ Some Store → W) → IfOk r (λ out. IsUnrefused out → W)
    first_whole W w = by r handed w
      where
        by : (r : Result Out E) → IfOk r (λ out. IsHanded limits_b rule_b (seen before_b begun) (map entry_of before_b) (option_map Hello (option_map hello_of gives.hello)) (seen now_b k_b) (out_of (map entry_of now_b) out) (map entry_of now_b))
            → IfOk r (λ out. out.end ≢ Some Full → out.end ≢ Some Store → W) → IfOk r (λ out. IsUnrefused out → W)
        by (Ok out) h w = λ unrefused. let ends = first_unrefused k_b out h unrefused in w ends.0 ends.1
        by (Err e) h w = tt

-- ---- from round to round

module _ (start : PairStart) (limits_a limits_b : Limits) (rule_a rule_b : RuleData) (before_a before_b : List (List ℕ)) (faults_a faults_b : ℕ)
    (k_a : Kept) (now_a : List (List ℕ)) (limits_now_a : Limits) (rule_now_a : RuleData) (faults_now_a : ℕ)
    (k_b : Kept) (now_b : List (List ℕ)) (limits_now_b : Limits) (rule_now_b : RuleData) (faults_now_b : ℕ) (out : Out)
    (g : Going start limits_a limits_b rule_a rule_b before_a before_b faults_a faults_b k_a now_a limits_now_a rule_now_a faults_now_a k_b now_b limits_now_b rule_now_b faults_now_b out) where
  -- what a holder has gained so far
  pub moves_so_far_a : Moves (before_a ++ before_b) limits_a rule_a before_a faults_a limits_now_a rule_now_a now_a faults_now_a
  moves_so_far_a = record { grows = g.grows_a; later = g.later_a; same_limits = g.same_limits_a; same_rule = g.same_rule_a }

  pub moves_so_far_b : Moves (before_a ++ before_b) limits_b rule_b before_b faults_b limits_now_b rule_now_b now_b faults_now_b
  moves_so_far_b = record { grows = g.grows_b; later = g.later_b; same_limits = g.same_limits_b; same_rule = g.same_rule_b }

  -- a session that has no turn on its way has ended
  pub has_end : is_some out.turn ≡ false → is_some out.end ≡ true
  has_end none = by g.got
    where
      by : HasGot limits_a limits_b rule_a rule_b g.first (seen now_a k_a) (map entry_of now_a) (seen now_b k_b) (map entry_of now_b) (out_of (map entry_of now_b) out) → is_some out.end ≡ true
      by (on w run) = absurd (let some = w.is_turn in let missing = mapped_missing turn_of out.turn none in cc)
      by (over q ending no_turn says run is_a is_list_a is_b is_list_b ends) = ap is_some says

  -- a round leaves this
  module _ (some : is_some out.turn ≡ true) (next_a next_b : List (List ℕ)) (limits_next_a limits_next_b : Limits) (rule_next_a rule_next_b : RuleData) (faults_next_a faults_next_b : ℕ)
      (round_a : Moves (at_hand k_a now_b now_a) limits_now_a rule_now_a now_a faults_now_a limits_next_a rule_next_a next_a faults_next_a)
      (round_b : Moves (at_hand k_b next_a now_b) limits_now_b rule_now_b now_b faults_now_b limits_next_b rule_next_b next_b faults_next_b) where
    turned : (out_of (map entry_of now_b) out).turn ≢ None
    turned = mapped_some turn_of out.turn (is_there out.turn some)

    pub moves_next_a : Moves (before_a ++ before_b) limits_a rule_a before_a faults_a limits_next_a rule_next_a next_a faults_next_a
    moves_next_a = record {
      grows = grows_next_a start limits_a limits_b rule_a rule_b before_a before_b faults_a faults_b k_a now_a limits_now_a rule_now_a faults_now_a k_b now_b limits_now_b rule_now_b faults_now_b out g turned next_a next_b round_a.grows round_b.grows;
      later = let low = g.later_a in let high = round_a.later in omega arith;
      same_limits = round_a.same_limits ∙ g.same_limits_a;
      same_rule = round_a.same_rule ∙ g.same_rule_a;
    }

    pub moves_next_b : Moves (before_a ++ before_b) limits_b rule_b before_b faults_b limits_next_b rule_next_b next_b faults_next_b
    moves_next_b = record {
      grows = grows_next_b start limits_a limits_b rule_a rule_b before_a before_b faults_a faults_b k_a now_a limits_now_a rule_now_a faults_now_a k_b now_b limits_now_b rule_now_b faults_now_b out g turned next_a next_b round_a.grows round_b.grows;
      later = let low = g.later_b in let high = round_b.later in omega arith;
      same_limits = round_b.same_limits ∙ g.same_limits_b;
      same_rule = round_b.same_rule ∙ g.same_rule_b;
    }

    pub goes_on : (m_a m_b : Kept) (next : Out)
        → ((first : PairData) → HasGot limits_now_a limits_now_b rule_now_a rule_now_b first (seen now_a k_a) (map entry_of now_a) (seen now_b k_b) (map entry_of now_b) (out_of (map entry_of now_b) out)
        → HasGot limits_now_a limits_now_b rule_now_a rule_now_b first (seen next_a m_a) (map entry_of next_a) (seen next_b m_b) (map entry_of next_b) (out_of (map entry_of next_b) next))
        → IsWell limits_now_a rule_now_a m_a next_a → IsWell limits_now_b rule_now_b m_b next_b
        → (next.end ≡ Some Store → Rose faults_now_a faults_next_a ⊎ Rose faults_now_b faults_next_b)
        → Going start limits_a limits_b rule_a rule_b before_a before_b faults_a faults_b m_a next_a limits_next_a rule_next_a faults_next_a m_b next_b limits_next_b rule_next_b faults_next_b next
    goes_on m_a m_b next got well_a well_b store = record {
      first = g.first;
      begins = g.begins;
      got = here (got g.first) g.got;
      well_a = rw (← g.same_limits_a, ← g.same_rule_a) well_a;
      well_b = rw (← g.same_limits_b, ← g.same_rule_b) well_b;
      grows_a = moves_next_a.grows;
      grows_b = moves_next_b.grows;
      later_a = moves_next_a.later;
      later_b = moves_next_b.later;
      store = λ is. by (store is);
      same_limits_a = moves_next_a.same_limits;
      same_limits_b = moves_next_b.same_limits;
      same_rule_a = moves_next_a.same_rule;
      same_rule_b = moves_next_b.same_rule;
      small_a = g.small_a;
      small_b = g.small_b;
    }
      where
        here : (HasGot limits_now_a limits_now_b rule_now_a rule_now_b g.first (seen now_a k_a) (map entry_of now_a) (seen now_b k_b) (map entry_of now_b) (out_of (map entry_of now_b) out)
            → HasGot limits_now_a limits_now_b rule_now_a rule_now_b g.first (seen next_a m_a) (map entry_of next_a) (seen next_b m_b) (map entry_of next_b) (out_of (map entry_of next_b) next))
            → HasGot limits_a limits_b rule_a rule_b g.first (seen now_a k_a) (map entry_of now_a) (seen now_b k_b) (map entry_of now_b) (out_of (map entry_of now_b) out)
            → HasGot limits_a limits_b rule_a rule_b g.first (seen next_a m_a) (map entry_of next_a) (seen next_b m_b) (map entry_of next_b) (out_of (map entry_of next_b) next)
        here f = rw (← g.same_limits_a, ← g.same_limits_b, ← g.same_rule_a, ← g.same_rule_b) f

        by : Rose faults_now_a faults_next_a ⊎ Rose faults_now_b faults_next_b → Rose faults_a faults_next_a ⊎ Rose faults_b faults_next_b
        by (inl rose) = inl (rose_since faults_a faults_now_a faults_next_a g.later_a rose)
        by (inr rose) = inr (rose_since faults_b faults_now_b faults_next_b g.later_b rose)

-- fewer rounds are left after each
left_falls : (turned : Bool) (sum more : ℕ) → (turned ≡ true → sum < more) → sum < 1600000 → more < 1600000 → cond turned (1600000 - more) 0 < 1600000 - sum
left_falls true sum more grows low high = let g = grows refl in omega arith
left_falls false sum more grows low high = omega arith

pub fewer_left : (out next : Out) (k_a k_b m_a m_b : Kept) → is_some out.turn ≡ true → (next.turn ≢ None → k_a.state.turns + k_b.state.turns < m_a.state.turns + m_b.state.turns)
    → k_a.state.turns + k_b.state.turns < 1600000 → m_a.state.turns + m_b.state.turns < 1600000 → rounds_left next m_a m_b < rounds_left out k_a k_b
fewer_left out next k_a k_b m_a m_b some more low high =
    let left : rounds_left out k_a k_b ≡ 1600000 - (k_a.state.turns + k_b.state.turns) = ap (λ (b : Bool). cond b (1600000 - (k_a.state.turns + k_b.state.turns)) 0) some in
    subst (λ (n : ℕ). rounds_left next m_a m_b < n) (sym left)
    (left_falls (is_some next.turn) (k_a.state.turns + k_b.state.turns) (m_a.state.turns + m_b.state.turns) (λ is. more (is_there next.turn is)) low high)

-- ---- the end

module _ (start : PairStart) (limits_a limits_b : Limits) (rule_a rule_b : RuleData) (before_a before_b : List (List ℕ)) (faults_a faults_b : ℕ)
    (k_a : Kept) (now_a : List (List ℕ)) (limits_now_a : Limits) (rule_now_a : RuleData) (faults_now_a : ℕ)
    (k_b : Kept) (now_b : List (List ℕ)) (limits_now_b : Limits) (rule_now_b : RuleData) (faults_now_b : ℕ) (out : Out)
    (g : Going start limits_a limits_b rule_a rule_b before_a before_b faults_a faults_b k_a now_a limits_now_a rule_now_a faults_now_a k_b now_b limits_now_b rule_now_b faults_now_b out)
    (none : is_some out.turn ≡ false) (ending : End) (says : out.end ≡ Some ending) (ended : PairEnd) (closes : Closes k_a k_b ending ended) where
  pub told : out.end ≡ Some ended.a
  told = says ∙ ap (λ (e : End). Some e) (sym closes.a)

  pub syncs_here : Syncs limits_a limits_b rule_a rule_b start before_a before_b ended now_a now_b
  syncs_here = syncs_from start limits_a limits_b rule_a rule_b before_a before_b now_a now_b g.first (seen now_a k_a) (seen now_b k_b) (out_of (map entry_of now_b) out) ended g.begins g.got
      (mapped_missing turn_of out.turn none) told (closes.b ∙ sym closes.a) closes.gained_a closes.gained_b closes.turns
      (remembered rule_a k_a now_a ended.remembered_a g.well_a.fine closes.remembered_a g.well_a.belongs.stands)
      (remembered rule_b k_b now_b ended.remembered_b g.well_b.fine closes.remembered_b g.well_b.belongs.stands)
    where
      remembered : (rule : RuleData) (k : Kept) (members : List (List ℕ)) (ids : List UpdateId) → k.failed ≡ false → RemembersBy k.failed k ids → Stands rule k members → Remembers (seen members k) ids
      remembered rule k members ids fine r stands = (subst (λ (b : Bool). RemembersBy b k ids) fine r) rule members stands

  pub store_here : ended.a ≡ Store → Rose faults_a faults_now_a ⊎ Rose faults_b faults_now_b
  store_here is = g.store (told ∙ ap (λ (e : End). Some e) is)

  -- where it is done neither store was full, nor did a disk fail
  pub unrefused : ended.a ≡ Done → IsUnrefused out
  unrefused done = let t = told in inr (λ is. cc, λ is. cc)
