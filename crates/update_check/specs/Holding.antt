-- What holds of whoever holds updates, and what it answers.
use Rattle.std.specs.Prelude.{◌≡◌, ℕ, ◌<◌, ◌≤◌, true, List, ◌++◌, All, map, take, slice_get, Result, Ok, Err}
use Rattle.std.specs.List.{filter_map}
use Rattle.std.specs.List.Sorted.{IsStrictlySortedBy}
use Rattle.std.specs.Ordering.{nat_cmp}
use Rattle.bec_bytes.specs.Causes.{Rose}
use Rattle.update_model.specs.declared.limits.TheConstants.{MAX_BYTES, MAX_MEMBERS}
use Rattle.update_model.specs.declared.update_id.UpdateId.{UpdateId}
use Rattle.update_model.specs.Batch.{Adds, IsTooMuch, Limits, fits}
use Rattle.update_model.specs.Graph.{IsClosed}
use Rattle.update_model.specs.Rule.{RuleData}
use Rattle.update_model.specs.Since.{AreSince}
use Rattle.update_codec.specs.Parts.{entry_of, id_of}
use Rattle.update_check.specs.Signed.{IsChecked}
use Rattle.update_check.specs.declared.holder.Committed.{Committed}
use Rattle.update_check.specs.declared.holder.CommitFault.{CommitFault}
use Rattle.update_check.specs.declared.holder.CommitFault.TheVariants.{Full, DiskFault, Memory}

-- Updates that their authors signed and that are under a rule, predecessor-closed and within limits that no store passes.
pub record IsHeld (limits : Limits) (rule : RuleData) (members : List (List ℕ)) : Type 0 where
  pub checked : All (IsChecked rule) members
  pub closed : IsClosed (map entry_of members)
  pub within : fits limits (map entry_of members) ≡ true
  pub updates : limits.updates ≤ MAX_MEMBERS
  pub bytes : limits.bytes ≤ MAX_BYTES

-- the members at these positions
abbrev pub at_positions : List (List ℕ) → List ℕ → List (List ℕ)
at_positions members positions = filter_map (slice_get members) positions

-- Rising positions below a number: those of the members before it that are neither among the old ids nor ancestors of one.
pub record ArePositionsSince (members : List (List ℕ)) (below : ℕ) (old : List UpdateId) (positions : List ℕ) : Type 0 where
  pub rising : IsStrictlySortedBy nat_cmp positions
  pub within : All (λ p. p < below) positions
  pub exact : AreSince (map entry_of (take below members)) old (map entry_of (at_positions members positions))

-- The members that were added stand behind those before, in the order of the ids that are answered. The rest waits.
pub record IsAdded (limits : Limits) (before batch : List (List ℕ)) (committed : Committed) (after : List (List ℕ)) : Type 0 where
  pub added : List (List ℕ)
  pub behind : after ≡ before ++ added
  pub ids : committed.added ≡ map id_of added
  pub adds : Adds (map entry_of before) (map entry_of batch) (map entry_of added) (map entry_of committed.waiting)
  pub fit : fits limits (map entry_of after) ≡ true

-- What committing a batch answers and leaves. A refusal leaves the list as it was.
abbrev pub Commits : Limits → List (List ℕ) → List (List ℕ) → Result Committed CommitFault → ℕ → ℕ → List (List ℕ) → Type 0
Commits limits before batch (Ok committed) faults faults_new after = IsAdded limits before batch committed after
Commits limits before batch (Err Full) faults faults_new after = IsTooMuch limits (map entry_of before) (map entry_of batch) × (after ≡ before)
Commits limits before batch (Err DiskFault) faults faults_new after = Rose faults faults_new × (after ≡ before)
Commits limits before batch (Err Memory) faults faults_new after = after ≡ before
