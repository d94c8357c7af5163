-- What a commit answers, and what it leaves.
use Rattle.std.specs.Prelude.{◌≡◌, true, List, ◌++◌}
use Rattle.update_model.specs.Batch.{Limits, fits, Adds, IsTooMuch}
use Rattle.update_model.specs.Entry.{Entry}

-- what a commit answers: what it added and what waits, or that the batch would pass a limit, or that the disk failed
pub data Committed : Type 0 where
  Added : (added waiting : List Entry) → Committed
  TooMuch : Committed
  DiskFault : Committed

-- A commit of the batch leads from the one list to the other. A refusal leaves the list as it is.
abbrev pub Commits : Limits → List Entry → List Entry → Committed → List Entry → Type 0
Commits limits before batch (Added added waiting) after = Adds before batch added waiting × (fits limits (before ++ added) ≡ true) × (after ≡ before ++ added)
Commits limits before batch TooMuch after = IsTooMuch limits before batch × (after ≡ before)
Commits limits before batch DiskFault after = after ≡ before
