-- Frames that are handed to an end, one after another, as a run of the two ends.
use Rattle.std.proofs.Common.{◌≡◌, ◌≢◌, ◌⊎◌, inl, inr, ◌<◌, Bool, true, false, ◌&&◌, if◌then◌else◌, List, [], ◌∷◌, ◌++◌, map, Option, Some, None, option_map, refl, sym, ap, subst, ◌∙◌, arith, append_assoc}
use Rattle.update_model.specs.Batch.{Limits}
use Rattle.update_model.specs.Entry.{Entry}
use Rattle.update_model.specs.Rule.{RuleData}
use Rattle.session_rules.specs.Pair.{PairData, frames_of, hello_frames, swapped, turn_frames}
use Rattle.session_rules.specs.declared.role.Role.TheVariants.{Initiator}
use Rattle.session_rules.specs.declared.end.End.{End}
use Rattle.session_rules.specs.declared.end.End.TheVariants.{Done, Peer, Full, Store}
use Rattle.session_rules.specs.State.{HelloData, TurnData, FrameData, Item, Turn, SessionData, OutData}
use Rattle.session_rules.specs.Steps.{closing, silent, Steps}
use Rattle.session_rules.proofs.Words.{and_both}
use Rattle.sync_session.specs.Carrying.{EndsBy, Hands, HandsOn, then_a, then_b, HasGot, on, over, Hears, IsCarried, to_turn, to_end, IsGoing, IsHanded, IsOnItsWay, facing}
use Rattle.sync_session.proofs.Quiet.{goes, has_all, gives_up, Quiet, heard, stops, Same, answers_turn, quiet_hello, quiet_update, silent_runs}

-- ---- frames that are heard

pub hears_join : (limits : Limits) (rule : RuleData) (s : SessionData) (list : List Entry) (xs ys : List FrameData) (t u : SessionData) → Hears limits rule s list xs t → Hears limits rule t list ys u → Hears limits rule s list (xs ++ ys) u
hears_join limits rule s list [] ys t u one two = subst (λ (x : SessionData). Hears limits rule x list ys u) one two
hears_join limits rule s list (x ∷ xs) ys t u one two = (one.0, one.1, one.2, one.3, hears_join limits rule one.1 list xs ys t u one.4 two)

pub same_refl : (s : SessionData) → s.ended ≡ None → Same s s
same_refl s running = record { role = refl; sent_have = refl; got_have = refl; ended = running; turns = omega arith }

same_trans : (s t u : SessionData) → Same s t → Same t u → Same s u
same_trans s t u one two = record {
  role = two.role ∙ one.role;
  sent_have = two.sent_have ∙ one.sent_have;
  got_have = two.got_have ∙ one.got_have;
  ended = two.ended;
  turns = let low = one.turns in let high = two.turns in omega arith;
}

-- what is answered silently was heard
silent_same : (s next : SessionData) (before after : List Entry) → Quiet s next before silent after → Same s next
silent_same s next before after (heard out list same) = same
silent_same s next before after (stops ending e list) = absurd (let never = ap (λ (o : OutData). o.end) e.says in cc)

pub hears_updates : (limits : Limits) (rule : RuleData) (s : SessionData) (list es : List Entry) (t : SessionData) → s.ended ≡ None → Hears limits rule s list (map Item es) t → Same s t
hears_updates limits rule s list [] t running is = subst (Same s) (sym is) (same_refl s running)
hears_updates limits rule s list (e ∷ es) t running h =
    let one = silent_same s h.1 list list (quiet_update limits rule s h.1 list e h.0 silent list running h.2 h.3) in
    same_trans s h.1 t one (hears_updates limits rule h.1 list es t one.ended h.4)

pub hears_sent : (limits : Limits) (rule : RuleData) (s : SessionData) (list : List Entry) (hello : Option HelloData) (es : List Entry) (t : SessionData) → (hello ≡ None) ⊎ (s.role ≡ Initiator) → s.ended ≡ None
    → Hears limits rule s list (hello_frames hello ++ map Item es) t → Same s t
hears_sent limits rule s list None es t either running h = hears_updates limits rule s list es t running h
hears_sent limits rule s list (Some hello) es t (inl none) running h = absurd cc
hears_sent limits rule s list (Some hello) es t (inr role) running h =
    let step = subst (λ (f : FrameData). Steps limits s list f h.1 silent list) h.2 h.3 in
    let one = silent_same s h.1 list list (quiet_hello limits s h.1 list hello silent list role running step) in
    same_trans s h.1 t one (hears_updates limits rule h.1 list es t one.ended h.4)

-- an end that answers nothing runs on
hears_on : (limits : Limits) (rule : RuleData) (s : SessionData) (list : List Entry) (frames : List FrameData) (t : SessionData) → s.ended ≡ None → Hears limits rule s list frames t → t.ended ≡ None
hears_on limits rule s list [] t running is = ap (λ (x : SessionData). x.ended) is ∙ running
hears_on limits rule s list (frame ∷ frames) t running h = hears_on limits rule h.1 list frames t (silent_runs limits s h.1 list list running h.0 h.3) h.4

-- an end whose turn is on its way runs, or is done
sender_goes : (to from : SessionData) (sent : OutData) → IsOnItsWay to from sent → IsGoing from
sender_goes to from sent w = by_have (from.sent_have && from.got_have) w.ended
  where
    by_have : (b : Bool) → from.ended ≡ (if b then Some Done else None) → IsGoing from
    by_have true e = inr e
    by_have false e = inl e

-- ---- as a run

-- What comes of carrying what the other end, `x`, handed out: the next turn is on its way back, or the session has ended.
pub data Comes (R : PairData → Type 0) (s : SessionData) (turn : TurnData) (x : SessionData) (list_x : List Entry) (next : SessionData) (answer : OutData) (after : List Entry) : Type 0 where
  answers : (t : SessionData) → Same s t → (own : TurnData) → answer.hello ≡ None → answer.turn ≡ Some own → next.role ≡ t.role → next.sent_have ≡ own.have → next.got_have ≡ turn.have
      → next.ended ≡ (if own.have && turn.have then Some Done else None) → (s.sent_have && turn.have) ≡ false → s.turns < next.turns
      → R (record { a = next; list_a = after; b = x; list_b = list_x; to_a = []; to_b = frames_of answer }) → Comes R s turn x list_x next answer after
  closes : (q : PairData) (ending : End) → answer ≡ closing ending → next.ended ≡ Some ending → (ending ≡ Done → (s.sent_have && turn.have) ≡ true) → R q → q.a ≡ next → q.list_a ≡ after → q.b ≡ x → q.list_b ≡ list_x
      → Comes R s turn x list_x next answer after

module _ (limits : Limits) (rule : RuleData) (R : PairData → Type 0) (extend : (q r : PairData) → R q → Hands limits rule q r → R r) (x : SessionData) (list_x : List Entry) (going : IsGoing x) where
  handed : (s : SessionData) (before : List Entry) (frame : FrameData) (rest : List FrameData) (next : SessionData) (out : OutData) (after : List Entry) → s.ended ≡ None → IsHanded limits rule s before (Some frame) next out after
      → R (facing s before x list_x (frame ∷ rest)) → R (record { a = next; list_a = after; b = x; list_b = list_x; to_a = rest; to_b = frames_of out })
  handed s before frame rest next out after running h run =
      extend (facing s before x list_x (frame ∷ rest)) (record { a = next; list_a = after; b = x; list_b = list_x; to_a = rest; to_b = frames_of out }) run (record {
        running = running;
        other = going;
        alone = refl;
        frame = frame;
        rest = rest;
        arrived = h.0;
        next = next;
        out = out;
        after = after;
        first = refl;
        arrives = h.1;
        step = h.2;
        is = refl;
      })

  hears_run : (s : SessionData) (list : List Entry) (frames rest : List FrameData) (t : SessionData) → s.ended ≡ None → Hears limits rule s list frames t → R (facing s list x list_x (frames ++ rest)) → R (facing t list x list_x rest)
  hears_run s list [] rest t running is run = subst (λ (y : SessionData). R (facing y list x list_x rest)) (sym is) run
  hears_run s list (frame ∷ frames) rest t running h run =
      hears_run h.1 list frames rest t (silent_runs limits s h.1 list list running h.0 h.3) h.4 (handed s list frame (frames ++ rest) h.1 silent list running (h.0, h.2, h.3) run)

  at_turn : (s t next : SessionData) (before : List Entry) (turn : TurnData) (answer : OutData) (after : List Entry) → Same s t → IsHanded limits rule t before (Some (Turn turn)) next answer after
      → R (facing t before x list_x (Turn turn ∷ [])) → Comes R s turn x list_x next answer after
  at_turn s t next before turn answer after same h run =
      let led = handed t before (Turn turn) [] next answer after same.ended h run in
      elim (answers_turn limits t next before turn answer after same.ended (subst (λ (f : FrameData). Steps limits t before f next answer after) h.1 h.2)) [
        | goes own hello sent role sent_have got_have ended end unmet turns ↦
            let low = same.turns in
            answers t same own hello sent role sent_have got_have ended (ap (λ b. b && turn.have) (sym same.sent_have) ∙ unmet) (omega arith) led
        | has_all out ended both ↦ closes _ Done out ended (λ _. ap (λ b. b && turn.have) (sym same.sent_have) ∙ both) led refl refl refl refl
        | gives_up ending s ↦ closes _ ending s.says s.ended (λ done. absurd (s.undone done)) led refl refl refl refl
      ]

  pub comes : (s next : SessionData) (before : List Entry) (sent : OutData) (turn : TurnData) (answer : OutData) (after : List Entry) → (sent.hello ≡ None) ⊎ (s.role ≡ Initiator) → s.ended ≡ None → sent.turn ≡ Some turn
      → IsCarried limits rule s before sent next answer after → R (facing s before x list_x (frames_of sent)) → Comes R s turn x list_x next answer after
  comes s next before sent turn answer after either running is (to_turn t h last) run =
      at_turn s t next before turn answer after (hears_sent limits rule s before sent.hello sent.send t either running h)
      (subst (λ (o : Option FrameData). IsHanded limits rule t before o next answer after) (ap (option_map Turn) is) last)
      (hears_run s before (hello_frames sent.hello ++ map Item sent.send) (Turn turn ∷ []) t running h (subst (λ (fs : List FrameData). R (facing s before x list_x fs)) split run))
    where
      split : frames_of sent ≡ (hello_frames sent.hello ++ map Item sent.send) ++ Turn turn ∷ []
      split = ap (λ (o : Option TurnData). hello_frames sent.hello ++ (map Item sent.send ++ turn_frames o)) is ∙ sym (append_assoc (hello_frames sent.hello) (map Item sent.send) (Turn turn ∷ []))
  comes s next before sent turn answer after either running is (to_end first rest frame t ending split h last e) run =
      closes _ ending e.says e.ended (λ done. absurd (e.undone done))
      (handed t before frame rest next answer after (hears_on limits rule s before first t running h) last (hears_run s before first (frame ∷ rest) t running h (subst (λ (fs : List FrameData). R (facing s before x list_x fs)) split run))) refl refl refl refl

-- ---- from one end to the other

-- the answer is on its way back
pub turned_round : (s next x t : SessionData) (sent answer : OutData) (turn own : TurnData) → IsOnItsWay s x sent → sent.turn ≡ Some turn → answer.hello ≡ None → answer.turn ≡ Some own → next.sent_have ≡ own.have → next.got_have ≡ turn.have
    → next.ended ≡ (if own.have && turn.have then Some Done else None) → (s.sent_have && turn.have) ≡ false → IsOnItsWay x next answer
turned_round s next x t sent answer turn own w is hello sends sent_have got_have ended unmet =
    let same : Some w.turn ≡ Some turn = sym w.is_turn ∙ is in
    let same_turn : w.turn ≡ turn = cc in
    let x_has : x.sent_have ≡ turn.have = w.sent_have ∙ ap (λ (t : TurnData). t.have) same_turn in
    record {
      turn = own;
      is_turn = sends;
      hello = inl hello;
      running = w.ended ∙ by_have x.sent_have x.got_have turn.have s.sent_have x_has w.got_have unmet;
      sent_have = sent_have;
      got_have = got_have ∙ sym x_has;
      ended = ended ∙ ap (λ b. if b && turn.have then Some Done else None) (sym sent_have) ∙ ap (λ b. if next.sent_have && b then Some Done else None) (sym got_have);
    }
  where
    by_have : (a b have had : Bool) → a ≡ have → b ≡ had → (had && have) ≡ false → (if a && b then Some Done else None) ≡ None
    by_have true true have had e f g = absurd (let never : (true && true) ≡ false = ap (λ b. b && true) f ∙ ap (λ b. had && b) e ∙ g in cc)
    by_have true false have had e f g = refl
    by_have false b have had e f g = refl

-- both have all, or one has ended otherwise
pub closed_by : (s next x : SessionData) (sent : OutData) (turn : TurnData) (ending : End) → IsOnItsWay s x sent → sent.turn ≡ Some turn → next.ended ≡ Some ending → (ending ≡ Done → (s.sent_have && turn.have) ≡ true)
    → (p : PairData) → p.a ≡ next → p.b ≡ x → EndsBy ending p
closed_by s next x sent turn Done w is ended both p a b =
    let same : Some w.turn ≡ Some turn = sym w.is_turn ∙ is in
    let same_turn : w.turn ≡ turn = cc in
    let all = and_both s.sent_have turn.have (both refl) in
    let one : x.sent_have ≡ true = w.sent_have ∙ ap (λ (t : TurnData). t.have) same_turn ∙ all.1 in
    let two : x.got_have ≡ true = w.got_have ∙ all.0 in
    let done : x.ended ≡ Some Done = w.ended ∙ (rw (one, two) refl) in
    (ap (λ (y : SessionData). y.ended) a ∙ ended, ap (λ (y : SessionData). y.ended) b ∙ done)
closed_by s next x sent turn (Peer fault) w is ended both p a b = inl (ap (λ (y : SessionData). y.ended) a ∙ ended)
closed_by s next x sent turn Full w is ended both p a b = inl (ap (λ (y : SessionData). y.ended) a ∙ ended)
closed_by s next x sent turn Store w is ended both p a b = inl (ap (λ (y : SessionData). y.ended) a ∙ ended)

-- seen from the other end
ends_swapped : (ending : End) (p : PairData) → EndsBy ending p → EndsBy ending (swapped p)
ends_swapped Done p e = (e.1, e.0)
ends_swapped (Peer fault) p (inl a) = inr a
ends_swapped (Peer fault) p (inr b) = inl b
ends_swapped Full p (inl a) = inr a
ends_swapped Full p (inr b) = inl b
ends_swapped Store p (inl a) = inr a
ends_swapped Store p (inr b) = inl b

-- ---- a round: to the first end, and back

module _ (limits_a limits_b : Limits) (rule_a rule_b : RuleData) (first : PairData) where
  abbrev Run : PairData → Type 0
  Run p = HandsOn limits_a limits_b rule_a rule_b first p

  abbrev RunBack : PairData → Type 0
  RunBack p = HandsOn limits_a limits_b rule_a rule_b first (swapped p)

  module _ (a b a_next : SessionData) (list_a list_b after_a : List Entry) (out answer : OutData) (w : IsOnItsWay a b out) (carried : IsCarried limits_a rule_a a list_a out a_next answer after_a) where
    comes_a : Run (facing a list_a b list_b (frames_of out)) → Comes Run a w.turn b list_b a_next answer after_a
    comes_a run = comes limits_a rule_a Run (λ q r before k. then_a q r before k) b list_b (sender_goes a b out w) a a_next list_a out w.turn answer after_a w.hello w.running w.is_turn carried run

    by_end : answer.turn ≡ None → Comes Run a w.turn b list_b a_next answer after_a → HasGot limits_a limits_b rule_a rule_b first a_next after_a b list_b answer
    by_end none (answers t same own hello sends role sent_have got_have ended unmet turns run) = absurd cc
    by_end none (closes q ending says ended both run is_a is_list_a is_b is_list_b) =
        over q ending none (ap (λ (o : OutData). o.end) says) run is_a is_list_a is_b is_list_b (closed_by a a_next b out w.turn ending w w.is_turn ended both q is_a is_b)

    -- the first end has ended the session
    pub round_ends : HasGot limits_a limits_b rule_a rule_b first a list_a b list_b out → answer.turn ≡ None → HasGot limits_a limits_b rule_a rule_b first a_next after_a b list_b answer
    round_ends (on way run) none = by_end none (comes_a run)
    round_ends (over q ending no_turn end run is_a is_list_a is_b is_list_b ends) none = absurd (let some = w.is_turn in cc)

    module _ (b_next : SessionData) (after_b : List Entry) (next : OutData) (back : IsCarried limits_b rule_b b list_b answer b_next next after_b) where
      come_round : (v : IsOnItsWay b a_next answer) → Comes RunBack b v.turn a_next after_a b_next next after_b → HasGot limits_a limits_b rule_a rule_b first a_next after_a b_next after_b next
      come_round v (answers t same own hello sends role sent_have got_have ended unmet turns run) =
          on (turned_round b b_next a_next b answer next v.turn own v v.is_turn hello sends sent_have got_have ended unmet) run
      come_round v (closes q ending says ended both run is_a is_list_a is_b is_list_b) =
          over (swapped q) ending (ap (λ (o : OutData). o.turn) says) (ap (λ (o : OutData). o.end) says) run is_b is_list_b is_a is_list_a
          (ends_swapped ending q (closed_by b b_next a_next answer v.turn ending v v.is_turn ended both q is_a is_b))

      by_answer : answer.turn ≢ None → Comes Run a w.turn b list_b a_next answer after_a → HasGot limits_a limits_b rule_a rule_b first a_next after_a b_next after_b next
      by_answer some (closes q ending says ended both run is_a is_list_a is_b is_list_b) = absurd (some (ap (λ (o : OutData). o.turn) says))
      by_answer some (answers t same own hello sends role sent_have got_have ended unmet turns run) =
          let v = turned_round a a_next b a out answer w.turn own w w.is_turn hello sends sent_have got_have ended unmet in
          come_round v (comes limits_b rule_b RunBack (λ q r before k. then_b (swapped q) (swapped r) before k) a_next after_a (sender_goes b a_next answer v) b b_next list_b answer v.turn next after_b v.hello v.running v.is_turn back run)

      -- the second end has answered
      pub round_goes : HasGot limits_a limits_b rule_a rule_b first a list_a b list_b out → answer.turn ≢ None → HasGot limits_a limits_b rule_a rule_b first a_next after_a b_next after_b next
      round_goes (on way run) some = by_answer some (comes_a run)
      round_goes (over q ending no_turn end run is_a is_list_a is_b is_list_b ends) some = absurd (let turn = w.is_turn in cc)

-- what no run decides
abbrev Any : PairData → Type 0
Any p = Unit {0}

-- the answer is on its way back to an end that runs
pub way_back : (limits : Limits) (rule : RuleData) (a b a_next : SessionData) (list_a list_b after_a : List Entry) (out answer : OutData) (w : IsOnItsWay a b out) → IsCarried limits rule a list_a out a_next answer after_a
    → answer.turn ≢ None → IsOnItsWay b a_next answer
way_back limits rule a b a_next list_a list_b after_a out answer w carried some =
    by_answer (comes limits rule Any (λ q r before k. tt) b list_b (sender_goes a b out w) a a_next list_a out w.turn answer after_a w.hello w.running w.is_turn carried tt)
  where
    by_answer : Comes Any a w.turn b list_b a_next answer after_a → IsOnItsWay b a_next answer
    by_answer (closes q ending says ended both run is_a is_list_a is_b is_list_b) = absurd (some (ap (λ (o : OutData). o.turn) says))
    by_answer (answers t same own hello sends role sent_have got_have ended unmet turns run) = turned_round a a_next b a out answer w.turn own w w.is_turn hello sends sent_have got_have ended unmet

-- an end that answers has counted more turns
pub more_turns : (limits : Limits) (rule : RuleData) (a b a_next : SessionData) (list_a list_b after_a : List Entry) (out answer : OutData) (w : IsOnItsWay a b out) → IsCarried limits rule a list_a out a_next answer after_a
    → answer.turn ≢ None → a.turns < a_next.turns
more_turns limits rule a b a_next list_a list_b after_a out answer w carried some =
    by_answer (comes limits rule Any (λ q r before k. tt) b list_b (sender_goes a b out w) a a_next list_a out w.turn answer after_a w.hello w.running w.is_turn carried tt)
  where
    by_answer : Comes Any a w.turn b list_b a_next answer after_a → a.turns < a_next.turns
    by_answer (closes q ending says ended both run is_a is_list_a is_b is_list_b) = absurd (some (ap (λ (o : OutData). o.turn) says))
    by_answer (answers t same own hello sends role sent_have got_have ended unmet turns run) = turns

-- ---- how an answer ends

-- an end that sends a turn has not ended, or is done
pub turned_end : (limits : Limits) (rule : RuleData) (a b a_next : SessionData) (list_a after_a : List Entry) (out answer : OutData) (w : IsOnItsWay a b out) → IsCarried limits rule a list_a out a_next answer after_a
    → answer.turn ≢ None → (answer.end ≢ Some Full) × (answer.end ≢ Some Store)
turned_end limits rule a b a_next list_a after_a out answer w (to_end first rest frame t ending split h last e) some = absurd (some (ap (λ (o : OutData). o.turn) e.says))
turned_end limits rule a b a_next list_a after_a out answer w (to_turn t h last) some =
    let handed : IsHanded limits rule t list_a (Some (Turn w.turn)) a_next answer after_a = subst (λ (o : Option FrameData). IsHanded limits rule t list_a o a_next answer after_a) (ap (option_map Turn) w.is_turn) last in
    let same = hears_sent limits rule a list_a out.hello out.send t w.hello w.running h in
    elim (answers_turn limits t a_next list_a w.turn answer after_a same.ended (subst (λ (f : FrameData). Steps limits t list_a f a_next answer after_a) handed.1 handed.2)) [
      | goes own hello sent role sent_have got_have ended end unmet turns ↦ (λ is. not_full (own.have && w.turn.have) (sym end ∙ is), λ is. not_store (own.have && w.turn.have) (sym end ∙ is))
      | has_all is ended both ↦ absurd (some (ap (λ (o : OutData). o.turn) is))
      | gives_up ending s ↦ absurd (some (ap (λ (o : OutData). o.turn) s.says))
    ]
  where
    not_full : (b : Bool) → (if b then Some Done else None) ≢ Some Full
    not_full true is = cc
    not_full false is = cc

    not_store : (b : Bool) → (if b then Some Done else None) ≢ Some Store
    not_store true is = cc
    not_store false is = cc
