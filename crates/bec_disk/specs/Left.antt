-- What a crash leaves of a shelf in memory, and calls that are planned anew.
use Rattle.std.specs.Prelude.{◌≡◌, ℕ, ◌^◌, ◌-◌, List, [], ◌∷◌, Option, Some, None}
use Rattle.bec_disk.specs.Disk.{IsImage}
use Rattle.bec_disk.specs.Plan.{PlanState}
use Rattle.bec_disk.specs.Replay.{MemDiskState, new_disk, state_of}
use Rattle.bec_disk.specs.declared.shelved.Shelved.{Shelved}

-- The calls are counted from the next one on, and fail by these numbers.
abbrev pub planned : List ℕ → ℕ → PlanState → PlanState
planned failing last plan = record plan { failing = failing; last = last; calls = 0 }

-- The disk with its calls planned like this.
abbrev pub armed : List ℕ → ℕ → MemDiskState → MemDiskState
armed failing last disk = record disk { plan = planned failing last disk.plan }

-- What a crash leaves of a disk: one of the images, on a disk that had no call and fails at none. For 0 it is what was synced
-- last, and for 1 what is read.
pub record IsRestarted (choice : ℕ) (old new : MemDiskState) : Type 0 where
  pub fresh : new ≡ new_disk new.start [] (2 ^ 64 - 1)
  pub image : IsImage (state_of old).now new.start
  pub synced : choice ≡ 0 → new.start ≡ (state_of old).now.synced
  pub reads : choice ≡ 1 → new.start ≡ (state_of old).seen

-- A disk that is out is not on the shelf, and comes to nothing.
abbrev pub IsDiskLeft : ℕ → Option MemDiskState → Option MemDiskState → Type 0
IsDiskLeft choice None new = new ≡ None
IsDiskLeft choice (Some old) None = ⊥
IsDiskLeft choice (Some old) (Some new) = IsRestarted choice old new

-- What a crash leaves of the entry of a part.
pub record IsEntryLeft (choice : ℕ) (old new : Shelved) : Type 0 where
  pub place : new.place ≡ old.place
  pub disk : IsDiskLeft choice old.disk new.disk

-- What a crash leaves of a part: nothing where there is none.
abbrev pub IsPartLeft : ℕ → Option Shelved → Option Shelved → Type 0
IsPartLeft choice None new = new ≡ None
IsPartLeft choice (Some old) None = ⊥
IsPartLeft choice (Some old) (Some new) = IsEntryLeft choice old new

-- One entry after another.
abbrev pub AreLeft : ℕ → List Shelved → List Shelved → Type 0
AreLeft choice [] new = new ≡ []
AreLeft choice (entry ∷ entries) [] = ⊥
AreLeft choice (entry ∷ entries) (left ∷ others) = IsEntryLeft choice entry left × AreLeft choice entries others
