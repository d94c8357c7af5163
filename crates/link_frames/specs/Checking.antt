-- Frames with what the check of updates says of each.
use Rattle.std.specs.Prelude.{◌≡◌, ℕ, List, ◌++◌, map, All, Result, Ok, Err}
use Rattle.update_check.specs.declared.check_error.CheckFault.{CheckFault}
use Rattle.update_model.specs.Rule.{RuleData}
use Rattle.sync_frames.specs.declared.frame.Frame.{Frame}
use Rattle.sync_frames.specs.declared.frame.Frame.TheVariants as frames
use Rattle.sync_session.specs.Carrying.{Arrives}
use Rattle.sync_session.specs.Kept.{frame_of, IsFrameUnder}
use Rattle.sync_session.specs.declared.checked_frame.CheckedFrame.{CheckedFrame}
use Rattle.sync_session.specs.declared.checked_frame.CheckedFrame.TheVariants as checked
use Rattle.link_frames.specs.Hearing.{AllArrive, said_by}

-- Under any rule the frame arrives as this one, which is no update.
abbrev pub IsPlain : Frame → CheckedFrame → Type 0
IsPlain frame plain = (rule : RuleData) → Arrives rule (said_by frame) (frame_of plain) × IsFrameUnder rule plain

-- an update with what the check of updates says of it
abbrev pub answered : Result (List ℕ) CheckFault → CheckedFrame
answered (Ok update) = checked.Item update
answered (Err fault) = checked.BadItem fault

-- the frames that bring these updates
abbrev pub items_of : List (List ℕ) → List Frame
items_of updates = map frames.Item updates

-- Behind the frames that were there stand these, each as it arrives.
pub record Puts (rule : RuleData) (frames : List Frame) (before after : List CheckedFrame) : Type 0 where
  pub more : List CheckedFrame
  pub are : after ≡ before ++ more
  pub arrive : AllArrive rule frames (map frame_of more)
  pub under : All (IsFrameUnder rule) more
