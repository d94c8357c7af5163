-- Runs of updates that are checked at once, and the frames between them.
use Rattle.std.proofs.Common.{◌≡◌, inl, inr, ℕ, List, [], ◌∷◌, ◌++◌, map, All, Result, Ok, Err, refl, sym, ap, subst, ◌∙◌, append-nil}
use Rattle.std.proofs.lemmas.List.{map-append}
use Rattle.std.proofs.lemmas.List.Elements.{All-append, All-cons, All-nil, All-push}
use Rattle.update_check.specs.declared.check_error.CheckFault.{CheckFault}
use Rattle.update_codec.specs.Parts.{entry_of}
use Rattle.update_model.specs.Rule.{RuleData}
use Rattle.record_check.specs.Records.{AreAnswers, IsAnswer}
use Rattle.session_rules.specs.State.{Item}
use Rattle.sync_frames.specs.declared.frame.Frame.{Frame}
use Rattle.sync_session.specs.Carrying.{Arrives}
use Rattle.sync_session.specs.Kept.{frame_of, IsFrameUnder}
use Rattle.sync_session.specs.declared.checked_frame.CheckedFrame.{CheckedFrame}
use Rattle.link_frames.specs.Checking.{IsPlain, Puts, answered, items_of}
use Rattle.link_frames.specs.Hearing.{AllArrive}
use Rattle.link_frames.proofs.Pieces.{arrive_append, arrive_one}

-- ---- a run of updates

answer_arrives : (rule : RuleData) (update : List ℕ) (answer : Result (List ℕ) CheckFault) → IsAnswer rule update answer → Arrives rule (Item (entry_of update)) (frame_of (answered answer))
answer_arrives rule update (Ok checked) is = inl (ap (λ (l : List ℕ). Item (entry_of l)) is.1, is.0)
answer_arrives rule update (Err fault) is = inr (fault, refl, is)

answer_under : (rule : RuleData) (update : List ℕ) (answer : Result (List ℕ) CheckFault) → IsAnswer rule update answer → IsFrameUnder rule (answered answer)
answer_under rule update (Ok checked) is = subst (IsFrameUnder rule) (ap (λ (l : List ℕ). answered (Ok l)) (sym is.1)) is.0
answer_under rule update (Err fault) is = tt

answers_arrive : (rule : RuleData) (updates : List (List ℕ)) (answers : List (Result (List ℕ) CheckFault)) → AreAnswers rule updates answers
    → AllArrive rule (items_of updates) (map frame_of (map answered answers))
answers_arrive rule [] [] are = refl
answers_arrive rule [] (a ∷ answers) are = absurd are
answers_arrive rule (u ∷ updates) [] are = absurd are
answers_arrive rule (u ∷ updates) (a ∷ answers) are = (frame_of (answered a), map frame_of (map answered answers), refl, answer_arrives rule u a are.0, answers_arrive rule updates answers are.1)

answers_under : (rule : RuleData) (updates : List (List ℕ)) (answers : List (Result (List ℕ) CheckFault)) → AreAnswers rule updates answers → All (IsFrameUnder rule) (map answered answers)
answers_under rule [] [] are = All-nil (IsFrameUnder rule)
answers_under rule [] (a ∷ answers) are = absurd are
answers_under rule (u ∷ updates) [] are = absurd are
answers_under rule (u ∷ updates) (a ∷ answers) are = All-cons (IsFrameUnder rule) (answered a) (map answered answers) (answer_under rule u a are.0) (answers_under rule updates answers are.1)

-- a run that was checked is put behind
pub puts_run : (rule : RuleData) (updates : List (List ℕ)) (answers : List (Result (List ℕ) CheckFault)) (before after : List CheckedFrame) → AreAnswers rule updates answers → after ≡ before ++ map answered answers
    → Puts rule (items_of updates) before after
puts_run rule updates answers before after are is = record { more = map answered answers; are = is; arrive = answers_arrive rule updates answers are; under = answers_under rule updates answers are }

-- ---- frames in order

-- Of the frames so far these are checked, and behind them stand the updates of a run that is not.
pub record Checks (rule : RuleData) (before : List Frame) (run : List (List ℕ)) (all : List CheckedFrame) : Type 0 where
  pub front : List Frame
  pub are : before ≡ front ++ items_of run
  pub arrive : AllArrive rule front (map frame_of all)
  pub under : All (IsFrameUnder rule) all

-- the run was checked
pub checks_run : (rule : RuleData) (before : List Frame) (run : List (List ℕ)) (all after : List CheckedFrame) → Checks rule before run all → Puts rule (items_of run) all after → Checks rule before [] after
checks_run rule before run all after c p = record {
  front = c.front ++ items_of run;
  are = c.are ∙ sym (append-nil (c.front ++ items_of run));
  arrive = subst (AllArrive rule (c.front ++ items_of run)) (sym (map-append frame_of all p.more) ∙ ap (map frame_of) (sym p.are)) (arrive_append rule c.front (items_of run) (map frame_of all) (map frame_of p.more) c.arrive p.arrive);
  under = subst (All (IsFrameUnder rule)) (sym p.are) (All-append (IsFrameUnder rule) all p.more c.under p.under);
}

-- a frame that is no update
pub checks_plain : (rule : RuleData) (before : List Frame) (frame : Frame) (plain : CheckedFrame) (all after : List CheckedFrame) → Checks rule before [] all → IsPlain frame plain → after ≡ all ++ plain ∷ []
    → Checks rule (before ++ frame ∷ []) [] after
checks_plain rule before frame plain all after c is grew = record {
  front = c.front ++ frame ∷ [];
  are = ap (λ (l : List Frame). l ++ frame ∷ []) (c.are ∙ append-nil c.front) ∙ sym (append-nil (c.front ++ frame ∷ []));
  arrive = subst (AllArrive rule (c.front ++ frame ∷ [])) (sym (map-append frame_of all (plain ∷ [])) ∙ ap (map frame_of) (sym grew))
      (arrive_append rule c.front (frame ∷ []) (map frame_of all) (frame_of plain ∷ []) c.arrive (arrive_one rule frame (frame_of plain) (is rule).0));
  under = subst (All (IsFrameUnder rule)) (sym grew) (All-push (IsFrameUnder rule) all plain c.under (is rule).1);
}

-- all are checked
pub checks_all : (rule : RuleData) (before : List Frame) (all : List CheckedFrame) → Checks rule before [] all → AllArrive rule before (map frame_of all)
checks_all rule before all c = subst (λ (l : List Frame). AllArrive rule l (map frame_of all)) (sym (c.are ∙ append-nil c.front)) c.arrive
