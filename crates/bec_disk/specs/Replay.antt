-- A disk in memory by the record of its calls.
use Rattle.std.specs.Prelude.{◌≡◌, ◌⊎◌, ℕ, ◌<◌, Bool, true, false, List, [], ◌∷◌, length, take, nat_le, slice_index, if◌then◌else◌, Option, Some, None, ◌++◌, ◌-◌, ◌^◌}
use Rattle.bec_bytes.specs.Causes.{one_more}
use Rattle.bec_disk.specs.Disk.{DiskState, Moment, moments, synced_at, written_at, cut_at, overwritten}
use Rattle.bec_disk.specs.Plan.{PlanState, IsToFail, new_plan, one_unrecorded}
use Rattle.bec_disk.specs.Slot.{Slot}
use Rattle.bec_disk.specs.declared.disk_call.DiskCall.{DiskCall}
use Rattle.bec_disk.specs.declared.disk_call.DiskCall.TheVariants.{Wrote, WriteFailed, Cut, CutFailed, Settled}

-- The part that a disk is of, the bytes that it began with, the calls since then in their order, and which calls fail.
pub record MemDiskState : Type 0 where
  pub slot : Option Slot
  pub start : List ℕ
  pub calls : List DiskCall
  pub plan : PlanState

-- What a read gives, the moment, and those before it, the newest first.
pub record History : Type 0 where
  pub seen : List ℕ
  pub now : Moment
  pub past : List Moment

-- It goes on to another moment.
abbrev pub goes_to : History → List ℕ → Moment → History
goes_to history seen moment = record { seen = seen; now = moment; past = history.now ∷ history.past }

abbrev pub wrote_if : Bool → History → ℕ → List ℕ → History
wrote_if true history at bytes = goes_to history (overwritten history.seen at bytes) (written_at at (length bytes) history.now)
wrote_if false history at bytes = history

-- After a call. A write that begins behind the end counts for nothing; no record has one.
abbrev pub after_call : History → DiskCall → History
after_call history (Wrote at bytes) = wrote_if (nat_le at (length history.seen)) history at bytes
after_call history (WriteFailed at n) = goes_to history history.seen (written_at at n history.now)
after_call history (Cut len) = goes_to history (take len history.seen) (cut_at len history.now)
after_call history (CutFailed len) = goes_to history history.seen (cut_at len history.now)
after_call history Settled = goes_to history history.seen (synced_at history.seen)

abbrev pub replayed : History → List DiskCall → History
replayed history [] = history
replayed history (call ∷ calls) = replayed (after_call history call) calls

-- With these bytes, as a disk is made.
abbrev pub begun_with : List ℕ → History
begun_with start = record { seen = start; now = synced_at start; past = [] }

abbrev pub shown : Option Slot → History → DiskState
shown slot history = record { tells = true; slot = slot; seen = history.seen; now = history.now; past = history.past }

-- What a disk in memory has, and what a crash may leave of it.
abbrev pub state_of : MemDiskState → DiskState
state_of disk = shown disk.slot (replayed (begun_with disk.start) disk.calls)

-- A disk that is of no part, began with these bytes, and had no call.
abbrev pub new_disk : List ℕ → List ℕ → ℕ → MemDiskState
new_disk start failing last = record { slot = None; start = start; calls = []; plan = new_plan failing last }

-- An empty disk that was made as this part.
abbrev pub made_disk : Slot → MemDiskState
made_disk slot = record { slot = Some slot; start = []; calls = []; plan = new_plan [] (2 ^ 64 - 1) }

-- The disk as it is handed out as this part: what it reads as counts as synced, and its count is 0.
abbrev pub settled_as : Slot → MemDiskState → MemDiskState
settled_as slot disk = record { slot = Some slot; start = disk.start; calls = disk.calls ++ Settled ∷ []; plan = record disk.plan { faults = 0 } }

-- A call that was to fail is in the record, or there was no memory for it there, which the plan counts.
abbrev pub IsNoted : DiskCall → List DiskCall → List DiskCall → PlanState → PlanState → Type 0
IsNoted call old new plan later = ((new ≡ old ++ call ∷ []) × (later ≡ plan)) ⊎ ((new ≡ old) × (later ≡ one_unrecorded plan))

-- A write or a cut that was to fail comes to this moment all the same. Only where there is no memory for its record does it
-- count for nothing, and that is counted.
pub record IsRecorded (old : MemDiskState) (moment : Moment) (new : MemDiskState) : Type 0 where
  pub failed : IsToFail old.plan → ((moments (state_of new) ≡ moment ∷ moments (state_of old)) × (new.plan.unrecorded ≡ old.plan.unrecorded)) ⊎ (new.plan.unrecorded ≡ one_more old.plan.unrecorded)
  pub passed : (IsToFail old.plan → ⊥) → new.plan.unrecorded ≡ old.plan.unrecorded

-- The disk with its next call as the first.
abbrev pub numbered_anew : MemDiskState → MemDiskState
numbered_anew disk = record disk { plan = record disk.plan { calls = 0 } }

-- What a call does to the bytes.
abbrev pub seen_after : List ℕ → DiskCall → List ℕ
seen_after seen (Wrote at bytes) = if nat_le at (length seen) then overwritten seen at bytes else seen
seen_after seen (WriteFailed at n) = seen
seen_after seen (Cut len) = take len seen
seen_after seen (CutFailed len) = seen
seen_after seen Settled = seen

-- As long as one of two lists, and each byte is of one of them where the first has one.
pub record IsMixed (xs ys mixed : List ℕ) : Type 0 where
  pub long : (length mixed ≡ length xs) ⊎ (length mixed ≡ length ys)
  pub each : (i : ℕ) → i < length mixed → i < length xs → (slice_index mixed i ≡ slice_index xs i) ⊎ ((i < length ys) × (slice_index mixed i ≡ slice_index ys i))
