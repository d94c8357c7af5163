-- A run in which an end has ended.
use Rattle.std.proofs.Common.{◌≡◌, ◌≢◌, inl, inr, List, [], ◌++◌, Some, None, refl, sym, ap, subst, ◌∙◌, append_assoc, append-nil}
use Rattle.update_model.specs.Batch.{Limits}
use Rattle.update_model.specs.Rule.{RuleData}
use Rattle.session_rules.specs.Pair.{PairData, frames_of, swapped}
use Rattle.session_rules.specs.declared.end.End.{End}
use Rattle.session_rules.specs.declared.end.End.TheVariants.{Done}
use Rattle.session_rules.specs.State.{FrameData, SessionData}
use Rattle.sync_session.specs.Carrying.{Hands, HandsOn, at_first, then_a, then_b, IsGoing}
use Rattle.sync_session.specs.Reruns.{HasStopped, IsLeftAlone}

pub not_running : (s : SessionData) (ending : End) → s.ended ≡ Some ending → s.ended ≡ None → ⊥
not_running s ending e f = let never : Some ending ≡ None = sym e ∙ f in cc

pub not_going : (s : SessionData) (ending : End) → s.ended ≡ Some ending → ending ≢ Done → IsGoing s → ⊥
not_going s ending e undone (inl f) = not_running s ending e f
not_going s ending e undone (inr f) = let same : Some ending ≡ Some Done = sym e ∙ f in undone cc

-- no frame is handed where an end has stopped
never_hands : (limits : Limits) (rule : RuleData) (p q : PairData) → HasStopped p → Hands limits rule p q → ⊥
never_hands limits rule p q s k = elim s.ended [
  | inl a ↦ not_running p.a s.ending a k.running
  | inr b ↦ not_going p.b s.ending b s.undone k.other
]

turned : (p : PairData) → HasStopped p → HasStopped (swapped p)
turned p s = record { ending = s.ending; undone = s.undone; ended = elim s.ended [ inl a ↦ inr a | inr b ↦ inl b ] }

module _ (limits_a limits_b : Limits) (rule_a rule_b : RuleData) (p : PairData) where
  pub stays : (q : PairData) → HandsOn limits_a limits_b rule_a rule_b p q → HasStopped p → q ≡ p
  stays q (at_first q' is) s = is
  stays q (then_a m q' before k) s = let same = stays m before s in absurd (never_hands limits_a rule_a m q (subst HasStopped (sym same) s) k)
  stays q (then_b m q' before k) s = let same = stays m before s in absurd (never_hands limits_b rule_b (swapped m) (swapped q) (turned m (subst HasStopped (sym same) s)) k)

  -- a frame to the other end
  alone_on : (limits : Limits) (rule : RuleData) (m q : PairData) → IsLeftAlone p (swapped m) → Hands limits rule m q → IsLeftAlone p (swapped q)
  alone_on limits rule m q l k = record {
    a = ap (λ (x : PairData). x.b) k.is ∙ l.a;
    list_a = ap (λ (x : PairData). x.list_b) k.is ∙ l.list_a;
    more = l.more ++ frames_of k.out;
    to_a = ap (λ (x : PairData). x.to_b) k.is ∙ ap (λ (fs : List FrameData). fs ++ frames_of k.out) l.to_a ∙ append_assoc p.to_a l.more (frames_of k.out);
  }

  -- nothing is handed to an end that has ended
  pub alone_a : (q : PairData) (ending : End) → HandsOn limits_a limits_b rule_a rule_b p q → p.a.ended ≡ Some ending → IsLeftAlone p q
  alone_a q ending (at_first q' is) e = subst (IsLeftAlone p) (sym is) (record { a = refl; list_a = refl; more = []; to_a = sym (append-nil p.to_a) })
  alone_a q ending (then_a m q' before k) e = let l = alone_a m ending before e in absurd (not_running m.a ending (ap (λ (s : SessionData). s.ended) l.a ∙ e) k.running)
  alone_a q ending (then_b m q' before k) e = alone_on limits_b rule_b (swapped m) (swapped q) (alone_a m ending before e) k

pub over_for_b : (limits_a limits_b : Limits) (rule_a rule_b : RuleData) (p q : PairData) → HandsOn limits_a limits_b rule_a rule_b p q → HandsOn limits_b limits_a rule_b rule_a (swapped p) (swapped q)
over_for_b limits_a limits_b rule_a rule_b p q (at_first q' is) = at_first (swapped q) (ap swapped is)
over_for_b limits_a limits_b rule_a rule_b p q (then_a m q' before k) = then_b (swapped m) (swapped q) (over_for_b limits_a limits_b rule_a rule_b p m before) k
over_for_b limits_a limits_b rule_a rule_b p q (then_b m q' before k) = then_a (swapped m) (swapped q) (over_for_b limits_a limits_b rule_a rule_b p m before) k
