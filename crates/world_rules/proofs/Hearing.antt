-- What bytes of a liar are heard as is under the rule.
use Rattle.std.proofs.Common.{inl, inr, ℕ, List, [], ◌∷◌, refl, sym, subst}
use Rattle.std.specs.List.{AllByRecursion}
use Rattle.link_frames.specs.Hearing.{AllArrive, said_by}
use Rattle.session_rules.specs.State.{FrameData, NoFrame}
use Rattle.session_rules.proofs.Words.{each_append}
use Rattle.sync_frames.specs.Fed.{FedData}
use Rattle.sync_frames.specs.declared.frame.Frame.{Frame}
use Rattle.sync_frames.specs.declared.frame.Frame.TheVariants as frames
use Rattle.sync_session.specs.Carrying.{Arrives}
use Rattle.update_model.specs.Rule.{RuleData}
use Rattle.world_rules.specs.Happens.{HearsFrames, HeardOf}
use Rattle.world_rules.proofs.Extending.{IsEntryOf}
use Rattle.world_rules.proofs.Passing.{Brings}

one_under : (rule : RuleData) (frame : Frame) (arrived : FrameData) → Arrives rule (said_by frame) arrived → Brings (IsEntryOf rule) arrived
one_under rule (frames.Hello hello) arrived is = subst (Brings (IsEntryOf rule)) (sym is) tt
one_under rule (frames.OtherVersion version) arrived is = subst (Brings (IsEntryOf rule)) (sym is) tt
one_under rule (frames.Item bytes) arrived (inl (is, checked)) = subst (Brings (IsEntryOf rule)) (sym is) (checked, refl)
one_under rule (frames.Item bytes) arrived (inr (fault, is, cause)) = subst (Brings (IsEntryOf rule)) (sym is) tt
one_under rule (frames.Turn turn) arrived is = subst (Brings (IsEntryOf rule)) (sym is) tt

all_under : (rule : RuleData) (fs : List Frame) (heard : List FrameData) → AllArrive rule fs heard → AllByRecursion (Brings (IsEntryOf rule)) heard
all_under rule [] heard is = subst (AllByRecursion (Brings (IsEntryOf rule))) (sym is) tt
all_under rule (f ∷ fs) heard a = subst (AllByRecursion (Brings (IsEntryOf rule))) (sym a.2) (one_under rule f a.0 a.3, all_under rule fs a.1 a.4)

pub heard_under : (rule : RuleData) (fed fed' : FedData) (bytes : List ℕ) (heard : List FrameData) → HearsFrames rule fed bytes fed' heard → AllByRecursion (Brings (IsEntryOf rule)) heard
heard_under rule fed fed' bytes heard h = by_end (all_under rule h.frames h.arrived h.arrive) h.are
  where
    by_end : AllByRecursion (Brings (IsEntryOf rule)) h.arrived → HeardOf fed'.rest fed'.place h.arrived heard → AllByRecursion (Brings (IsEntryOf rule)) heard
    by_end all (inl (is, fine)) = subst (AllByRecursion (Brings (IsEntryOf rule))) (sym is) all
    by_end all (inr (is, broken)) = subst (AllByRecursion (Brings (IsEntryOf rule))) (sym is) (each_append (Brings (IsEntryOf rule)) h.arrived (NoFrame fed'.place ∷ []) all (tt, tt))
