-- What carrying makes of a holder's list, frame by frame.
use Rattle.std.proofs.Common.{◌≡◌, inl, inr, ◌≤◌, ◌<◌, ◌+◌, ℕ, List, ◌++◌, All, Contains, map, Option, Some, None, option_map, Result, Ok, Err, IfOk, true, false, is_some, ◌≢◌, refl, sym, subst, ◌∙◌, arith}
use Rattle.std.proofs.lemmas.List.Elements.{All-contains, All-weaker, Contains-append_left}
use Rattle.bec_bytes.specs.Causes.{Rose}
use Rattle.update_codec.specs.Parts.{entry_of}
use Rattle.update_model.specs.Batch.{Limits}
use Rattle.update_model.specs.Entry.{Entry}
use Rattle.update_model.specs.Rule.{RuleData}
use Rattle.session_rules.specs.State.{HelloData, FrameData, Hello, SessionData, OutData}
use Rattle.session_rules.specs.Pair.{PairData}
use Rattle.sync_session.specs.Carrying.{at_hand, AreHanded, HasGot, on, over, IsCarried, IsHanded, IsOnItsWay, IsUnrefused, IsWell}
use Rattle.session_rules.specs.declared.end.End.TheVariants.{Full, Store}
use Rattle.sync_session.specs.Kept.{out_of, turn_of, updates_in, Kept, Moves}
use Rattle.sync_session.specs.declared.out.Out.{Out}
use Rattle.sync_session.proofs.Gains.{grown_within, grows_none, grows_on, grows_wider}
use Rattle.sync_session.proofs.Handing.{turned_end}
use Rattle.sync_session.proofs.Rounds.{HasFrame, at_hand_within, from_at_hand, is_missing, to_at_hand}

module _ (limits : Limits) (rule : RuleData) (k : Kept) (before from : List (List ℕ)) (faults : ℕ) where
  abbrev set : List (List ℕ)
  set = at_hand k from before

  -- one frame
  pub moves_first : (limits_1 : Limits) (rule_1 : RuleData) (now : List (List ℕ)) (faults_1 : ℕ) → Moves (updates_in k) limits rule before faults limits_1 rule_1 now faults_1 → Moves set limits rule before faults limits_1 rule_1 now faults_1
  moves_first limits_1 rule_1 now faults_1 m = record {
    grows = grows_wider (updates_in k) set before now (λ u c. Contains-append_left (updates_in k) (from ++ before) u c) m.grows;
    later = m.later;
    same_limits = m.same_limits;
    same_rule = m.same_rule;
  }

  module _ (limits_1 : Limits) (rule_1 : RuleData) (now : List (List ℕ)) (faults_1 : ℕ) (m : Moves (updates_in k) limits rule before faults limits_1 rule_1 now faults_1) (next : Kept) (pending : All (Contains set) (updates_in next)) where
    one : Moves set limits rule before faults limits_1 rule_1 now faults_1
    one = moves_first limits_1 rule_1 now faults_1 m

    within_here : (u : List ℕ) → Contains (at_hand next from now) u → Contains set u
    within_here u c = at_hand_within set next from now pending (from_at_hand k from before) (grown_within (Contains set) set before now one.grows (to_at_hand k from before) (λ u c. c)) u c

    -- and then the updates
    pub moves_second : (limits_2 : Limits) (rule_2 : RuleData) (now_2 : List (List ℕ)) (faults_2 : ℕ) → Moves (at_hand next from now) limits_1 rule_1 now faults_1 limits_2 rule_2 now_2 faults_2
        → Moves set limits rule before faults limits_2 rule_2 now_2 faults_2
    moves_second limits_2 rule_2 now_2 faults_2 m_2 = record {
      grows = grows_on set before now now_2 one.grows (grows_wider (at_hand next from now) set now now_2 within_here m_2.grows);
      later = let low = m.later in let high = m_2.later in omega arith;
      same_limits = m_2.same_limits ∙ m.same_limits;
      same_rule = m_2.same_rule ∙ m.same_rule;
    }

    pub pending_second : (next_2 : Kept) → All (Contains (at_hand next from now)) (updates_in next_2) → All (Contains set) (updates_in next_2)
    pending_second next_2 all = All-weaker (Contains (at_hand next from now)) (Contains set) within_here (updates_in next_2) all

-- and one frame more
pub moves_on : (set before now now_2 : List (List ℕ)) (limits limits_1 limits_2 : Limits) (rule rule_1 rule_2 : RuleData) (faults faults_1 faults_2 : ℕ) (next : Kept) → Moves set limits rule before faults limits_1 rule_1 now faults_1
    → All (Contains set) (updates_in next) → Moves (updates_in next) limits_1 rule_1 now faults_1 limits_2 rule_2 now_2 faults_2 → Moves set limits rule before faults limits_2 rule_2 now_2 faults_2
moves_on set before now now_2 limits limits_1 limits_2 rule rule_1 rule_2 faults faults_1 faults_2 next m pending m_2 = record {
  grows = grows_on set before now now_2 m.grows (grows_wider (updates_in next) set now now_2 (λ u c. All-contains (Contains set) (updates_in next) u pending c) m_2.grows);
  later = let low = m.later in let high = m_2.later in omega arith;
  same_limits = m_2.same_limits ∙ m.same_limits;
  same_rule = m_2.same_rule ∙ m.same_rule;
}

-- a Hello has no update
pub hello_of_set : (from : List (List ℕ)) (hello : Option HelloData) → HasFrame from (option_map Hello hello)
hello_of_set from None = tt
hello_of_set from (Some hello) = tt

-- a count that rose since a later moment rose
pub rose_since : (before mid now : ℕ) → before ≤ mid → Rose mid now → Rose before now
rose_since before mid now low rose = omega arith

-- ---- under the same limits and the same rule

module _ (limits limits_now : Limits) (rule rule_now : RuleData) (same_limits : limits_now ≡ limits) (same_rule : rule_now ≡ rule) where
  pub well_at : (k : Kept) (members : List (List ℕ)) → IsWell limits rule k members → IsWell limits_now rule_now k members
  well_at k members w = subst (λ (r : RuleData). IsWell limits_now r k members) (sym same_rule) (subst (λ (l : Limits). IsWell l rule k members) (sym same_limits) w)

  pub well_back : (k : Kept) (members : List (List ℕ)) → IsWell limits_now rule_now k members → IsWell limits rule k members
  well_back k members w = subst (λ (r : RuleData). IsWell limits r k members) same_rule (subst (λ (l : Limits). IsWell l rule_now k members) same_limits w)

  pub updates_back : (s : SessionData) (list send : List Entry) (next : SessionData) (out : OutData) → AreHanded limits_now rule_now s list send next out → AreHanded limits rule s list send next out
  updates_back s list send next out h = subst (λ (r : RuleData). AreHanded limits r s list send next out) same_rule (subst (λ (l : Limits). AreHanded l rule_now s list send next out) same_limits h)

  pub handed_back : (s : SessionData) (list list_now : List Entry) (frame : Option FrameData) (next : SessionData) (out : OutData) (after : List Entry) → list_now ≡ list → IsHanded limits_now rule_now s list_now frame next out after
      → IsHanded limits rule s list frame next out after
  handed_back s list list_now frame next out after is h =
      subst (λ (es : List Entry). IsHanded limits rule s es frame next out after) is
      (subst (λ (r : RuleData). IsHanded limits r s list_now frame next out after) same_rule (subst (λ (l : Limits). IsHanded l rule_now s list_now frame next out after) same_limits h))

-- ---- where a call leaves a holder alone, and what it hands out

pub moves_none : (from : List (List ℕ)) (limits : Limits) (rule : RuleData) (before : List (List ℕ)) (faults : ℕ) → Moves from limits rule before faults limits rule before faults
moves_none from limits rule before faults = record { grows = grows_none from before before refl; later = omega arith; same_limits = refl; same_rule = refl }

pub mapped_missing : {X Y : Type 0} (f : X → Y) (o : Option X) → is_some o ≡ false → option_map f o ≡ None
mapped_missing f None e = refl
mapped_missing f (Some x) e = absurd cc

pub mapped_there : {X Y : Type 0} (f : X → Y) (o : Option X) → is_some o ≡ true → option_map f o ≢ None
mapped_there f None e = absurd cc
mapped_there f (Some x) e = λ is. cc

pub mapped_some : {X Y : Type 0} (f : X → Y) (o : Option X) → o ≢ None → option_map f o ≢ None
mapped_some f None some = absurd (some refl)
mapped_some f (Some x) some = λ is. cc

-- what ends a session tells so over any list
pub got_over : (limits_a limits_b : Limits) (rule_a rule_b : RuleData) (first : PairData) (a : SessionData) (list_a : List Entry) (b : SessionData) (list_b : List Entry) (out other : OutData) → out.turn ≡ None → other.turn ≡ out.turn → other.end ≡ out.end
    → HasGot limits_a limits_b rule_a rule_b first a list_a b list_b out → HasGot limits_a limits_b rule_a rule_b first a list_a b list_b other
got_over limits_a limits_b rule_a rule_b first a list_a b list_b out other none turn end (on w run) = absurd (let some = w.is_turn in cc)
got_over limits_a limits_b rule_a rule_b first a list_a b list_b out other none turn end (over q ending no_turn says run is_a is_list_a is_b is_list_b ends) =
    over q ending (turn ∙ no_turn) (end ∙ says) run is_a is_list_a is_b is_list_b ends

pub add_turns : (a b more_a more_b : ℕ) → a < more_a → b < more_b → a + b < more_a + more_b
add_turns a b more_a more_b one two = omega arith

-- ---- a commit that was not refused

-- an answer that sends no turn
pub over_unrefused : (out : Out) → is_some out.turn ≡ false → IsUnrefused out → (out.end ≢ Some Full) × (out.end ≢ Some Store)
over_unrefused out none (inl some) = absurd (some (is_missing out.turn none))
over_unrefused out none (inr ends) = ends

-- any answer of an end that runs
pub unrefused_end : (limits : Limits) (rule : RuleData) (a b a_next : SessionData) (list_a after_a : List Entry) (sent : OutData) (answer : Out) (members : List (List ℕ)) (w : IsOnItsWay a b sent)
    → IsCarried limits rule a list_a sent a_next (out_of (map entry_of members) answer) after_a → IsUnrefused answer → (answer.end ≢ Some Full) × (answer.end ≢ Some Store)
unrefused_end limits rule a b a_next list_a after_a sent answer members w carried (inl some) = turned_end limits rule a b a_next list_a after_a sent (out_of (map entry_of members) answer) w carried (mapped_some turn_of answer.turn some)
unrefused_end limits rule a b a_next list_a after_a sent answer members w carried (inr ends) = ends

-- of two facts of a value that is there
pub IfOk-both : {X E : Type 0} (r : Result X E) (P Q R : X → Type 0) → ((x : X) → P x → Q x → R x) → IfOk r P → IfOk r Q → IfOk r R
IfOk-both (Ok x) P Q R f p q = f x p q
IfOk-both (Err e) P Q R f p q = tt
