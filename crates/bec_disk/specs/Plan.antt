-- Which calls of a disk in memory fail.
use Rattle.std.specs.Prelude.{◌≡◌, ◌⊎◌, ℕ, ◌<◌, Bool, true, false, List, Result, IsErr, OnOk, OnErr, Contains}
use Rattle.bec_bytes.specs.Causes.{one_more, faults_after}

-- The numbers of the calls that are to fail, counted from 1; the number of the last call before the stop; how many calls
-- and faults there were; whether one of the faults was neither numbered nor behind the stop; and how many writes and cuts
-- that were to fail are not in the record of the disk's calls, for which there was no memory.
pub record PlanState : Type 0 where
  pub failing : List ℕ
  pub last : ℕ
  pub calls : ℕ
  pub faults : ℕ
  pub starved : Bool
  pub unrecorded : ℕ

-- Before the first call.
abbrev pub new_plan : List ℕ → ℕ → PlanState
new_plan failing last = record { failing = failing; last = last; calls = 0; faults = 0; starved = false; unrecorded = 0 }

-- The next call is a numbered one, or behind the stop.
abbrev pub IsToFail : PlanState → Type 0
IsToFail plan = Contains plan.failing (one_more plan.calls) ⊎ (plan.last < one_more plan.calls)

-- One more that is not in the record.
abbrev pub one_unrecorded : PlanState → PlanState
one_unrecorded plan = record plan { unrecorded = one_more plan.unrecorded }

-- A call was counted. It fails where it is to fail, and else only for want of memory, by which the disk is starved.
pub record Counts {T E : Type 0} (old : PlanState) (result : Result T E) (new : PlanState) : Type 0 where
  pub failing : new.failing ≡ old.failing
  pub last : new.last ≡ old.last
  pub calls : new.calls ≡ one_more old.calls
  pub faults : new.faults ≡ faults_after result old.faults
  pub fails : IsToFail old → IsErr result × (new.starved ≡ old.starved)
  pub starves : (IsToFail old → ⊥) → OnErr result (new.starved ≡ true) × OnOk result (new.starved ≡ old.starved)
