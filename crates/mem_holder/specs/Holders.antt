-- What a holder in memory is.
use Rattle.std.specs.Prelude.{◌≡◌, ◌≤◌, ℕ, zero, suc, Bool, true, false, List, ◌++◌, All, Contains, length, map, Result, Ok, Err}
use Rattle.std.specs.List.{AllByRecursion}
use Rattle.update_model.specs.declared.limits.TheConstants.{MAX_BYTES, MAX_MEMBERS}
use Rattle.update_model.specs.Batch.{IsTooMuch, Limits}
use Rattle.update_model.specs.Rule.{RuleData}
use Rattle.update_codec.specs.Parts.{entry_of}
use Rattle.update_check.specs.Holding.{IsAdded}
use Rattle.update_check.specs.Signed.{IsChecked}
use Rattle.update_check.specs.declared.holder.Committed.{Committed}
use Rattle.update_check.specs.declared.holder.CommitFault.{CommitFault}
use Rattle.update_check.specs.declared.holder.CommitFault.TheVariants.{Full, DiskFault, Memory}
use Rattle.ready_batch.specs.Ready.{IsBehind}
use Rattle.mem_holder.specs.declared.mem_holder.Failing.{Failing}
use Rattle.mem_holder.specs.declared.mem_holder.Failing.TheVariants.{Never, After, Failed}

-- Updates in the order of arrival, the rule that they are under, how many there may be, and how many faults were counted.
pub record HolderState : Type 0 where
  pub members : List (List ℕ)
  pub rule : RuleData
  pub most : ℕ
  pub faults : ℕ

-- no more updates than this, and no more bytes than a store has
abbrev pub limits_of : ℕ → Limits
limits_of most = record { updates = most; bytes = MAX_BYTES }

-- one fault once the commit that is to fail has failed
abbrev pub faults_of : Failing → ℕ
faults_of Never = 0
faults_of (After number) = 0
faults_of Failed = 1

-- The commit that comes now fails where no other is to come before the one that is to fail.
abbrev pub Fails : Failing → Bool → Failing → Type 0
Fails Never fails new = (fails ≡ false) × (new ≡ Never)
Fails Failed fails new = (fails ≡ false) × (new ≡ Failed)
Fails (After zero) fails new = (fails ≡ true) × (new ≡ Failed)
Fails (After (suc number)) fails new = (fails ≡ false) × (new ≡ After number)

-- The updates are under the rule, and no more than there may be, nor than a store has.
pub record IsHolder (holder : HolderState) : Type 0 where
  pub checked : All (IsChecked holder.rule) holder.members
  pub few : length holder.members ≤ holder.most
  pub low : holder.most ≤ MAX_MEMBERS

-- Updates of the batch stand behind what was held.
abbrev pub IsFromBatch : List (List ℕ) → List (List ℕ) → List (List ℕ) → Type 0
IsFromBatch before batch after = (added : List (List ℕ)) × (after ≡ before ++ added) × AllByRecursion (Contains batch) added

-- The batch was added, or some of it stands behind what was held: it was too much, or memory ran out.
abbrev pub Grows : ℕ → List (List ℕ) → List (List ℕ) → Result Committed CommitFault → List (List ℕ) → Type 0
Grows most before batch (Ok committed) after = IsAdded (limits_of most) before batch committed after × IsFromBatch before batch after
Grows most before batch (Err Full) after = IsTooMuch (limits_of most) (map entry_of before) (map entry_of batch) × IsBehind before after
Grows most before batch (Err Memory) after = IsBehind before after
Grows most before batch (Err DiskFault) after = ⊥
