-- What writing leaves.
use Rattle.std.specs.Prelude.{ℕ, ◌≤◌, List, Option, Result, MatchResult}
use Rattle.bec_bytes.specs.Causes.{Rose}
use Rattle.std.specs.Io.KnownBytes.{Appends}
use Rattle.session_rules.specs.State.{FrameData}
use Rattle.link_frames.specs.Hearing.{AreFrontOf, AreSaid}
use Rattle.link_frames.specs.declared.saying.Halt.{Halt}
use Rattle.link_frames.specs.declared.saying.Halt.TheVariants.{Broken, Memory}

-- What was put is all that was to be said, or at an `Err` a front of it.
abbrev pub Says : {T : Type 0} → Option (List ℕ) → Option (List ℕ) → Result T Halt → List FrameData → Type 0
Says before now result said = (more : List ℕ) × Appends before now more × MatchResult result (λ _. AreSaid said more) (λ _. AreFrontOf said more)

-- The link failed.
abbrev pub IsCause : ℕ → ℕ → Halt → Type 0
IsCause before now Broken = Rose before now
IsCause before now Memory = Unit {0}

-- The count of faults has not fallen, and not all was said only because the link failed or memory ran out.
pub record HasCause {T : Type 0} (before now : ℕ) (result : Result T Halt) : Type 0 where
  pub later : before ≤ now
  pub halted : MatchResult result (λ _. Unit {0}) (IsCause before now)
