-- What a disk has, and what a crash may leave of it.
use Rattle.std.specs.Prelude.{◌≡◌, ◌⊎◌, ℕ, ◌+◌, ◌<◌, ◌≤◌, Bool, true, List, [], ◌∷◌, ◌++◌, length, take, drop, min, max, slice_index, Result, OnOk, OnErr, IsErr, IsTrue, Option, Some}
use Rattle.bec_disk.specs.Slot.{Slot}

-- What a crash is judged by: the bytes at the last sync that succeeded, or at the handing out where there was none, and
-- what came since.
pub record Moment : Type 0 where
  pub synced : List ℕ
  -- The least and the greatest length since then.
  pub least : ℕ
  pub greatest : ℕ
  -- The ranges written since then, each by its start and its end.
  pub written : List (ℕ × ℕ)

-- The place lies in none of these ranges.
abbrev pub IsUnwritten : List (ℕ × ℕ) → ℕ → Type 0
IsUnwritten [] i = Unit {0}
IsUnwritten (range ∷ ranges) i = ((i < range.0) ⊎ (range.1 ≤ i)) × IsUnwritten ranges i

-- A crash at this moment may leave these bytes. Their length lies between the least and the greatest. A byte that lay below
-- the length at the sync, and in no range written since, is as it was wherever the image reaches it; every other byte may
-- be anything.
pub record IsImage (moment : Moment) (image : List ℕ) : Type 0 where
  pub no_shorter : moment.least ≤ length image
  pub no_longer : length image ≤ moment.greatest
  pub kept : (i : ℕ) → i < length moment.synced → i < length image → IsUnwritten moment.written i → slice_index image i ≡ slice_index moment.synced i

-- Whatever a crash at this moment leaves has P.
abbrev pub EveryImage : Moment → (List ℕ → Type 0) → Type 0
EveryImage moment P = (image : List ℕ) → IsImage moment image → P image

-- The moment after a sync, or a handing out, of these bytes.
abbrev pub synced_at : List ℕ → Moment
synced_at bytes = record { synced = bytes; least = length bytes; greatest = length bytes; written = [] }

-- The moment after a write of n bytes, whether it failed or not.
abbrev pub written_at : ℕ → ℕ → Moment → Moment
written_at at n moment = record { synced = moment.synced; least = moment.least; greatest = max moment.greatest (at + n); written = (at, at + n) ∷ moment.written }

-- The moment after a cut, whether it failed or not.
abbrev pub cut_at : ℕ → Moment → Moment
cut_at len moment = record { synced = moment.synced; least = min moment.least len; greatest = moment.greatest; written = moment.written }

-- Whether a disk tells what it has, the part that it is of, what a read gives, the moment, and those before it with the
-- newest first.
pub record DiskState : Type 0 where
  pub tells : Bool
  pub slot : Option Slot
  pub seen : List ℕ
  pub now : Moment
  pub past : List Moment

-- All moments, the newest first.
abbrev pub moments : DiskState → List Moment
moments disk = disk.now ∷ disk.past

-- Nothing was written or cut since the last sync, or since the handing out.
abbrev pub IsSettled : DiskState → Type 0
IsSettled disk = disk.now ≡ synced_at disk.seen

-- These bytes in the place of those there.
abbrev pub overwritten : List ℕ → ℕ → List ℕ → List ℕ
overwritten old at bytes = take at old ++ bytes ++ drop (at + length bytes) old

-- A disk stays of its part, and tells or not, whatever is done.
pub record IsSameDisk (old new : DiskState) : Type 0 where
  pub tells : new.tells ≡ old.tells
  pub slot : new.slot ≡ old.slot

-- A write counts whether it failed or not. One that failed and did nothing at all may count for nothing.
pub record Writes {T E : Type 0} (old : DiskState) (at : ℕ) (bytes : List ℕ) (result : Result T E) (new : DiskState) : Type 0 where
  pub disk : IsSameDisk old new
  pub seen : IsTrue old.tells → OnOk result (new.seen ≡ overwritten old.seen at bytes)
  pub counts : IsTrue old.tells → (moments new ≡ written_at at (length bytes) old.now ∷ moments old) ⊎ (IsErr result × (new ≡ old))

-- So does a cut.
pub record Cuts {T E : Type 0} (old : DiskState) (len : ℕ) (result : Result T E) (new : DiskState) : Type 0 where
  pub disk : IsSameDisk old new
  pub seen : IsTrue old.tells → OnOk result (new.seen ≡ take len old.seen)
  pub counts : IsTrue old.tells → (moments new ≡ cut_at len old.now ∷ moments old) ⊎ (IsErr result × (new ≡ old))

-- A sync that succeeds leaves what is read, and the disk settled. One that fails changes nothing.
pub record Syncs {T E : Type 0} (old : DiskState) (result : Result T E) (new : DiskState) : Type 0 where
  pub disk : IsSameDisk old new
  pub seen : IsTrue old.tells → new.seen ≡ old.seen
  pub counts : IsTrue old.tells → OnOk result (moments new ≡ synced_at old.seen ∷ moments old)
  pub failed : IsTrue old.tells → OnErr result (new ≡ old)

-- Whatever a crash at one of these moments leaves has P.
abbrev pub AllImages : List Moment → (List ℕ → Type 0) → Type 0
AllImages [] P = Unit {0}
AllImages (moment ∷ others) P = EveryImage moment P × AllImages others P

-- A crash at any moment that came since leaves bytes that have P. Moments are listed with the newest first.
pub record LeavesSince (before after : List Moment) (P : List ℕ → Type 0) : Type 0 where
  pub since : List Moment
  pub follow : after ≡ since ++ before
  pub each : AllImages since P

-- It is the same disk, and where it tells, a crash at any moment from the old state on leaves bytes that have P.
pub record LeavesOnly (old new : DiskState) (P : List ℕ → Type 0) : Type 0 where
  pub disk : IsSameDisk old new
  pub first : IsTrue old.tells → EveryImage old.now P
  pub run : IsTrue old.tells → LeavesSince (moments old) (moments new) P

-- A part as it is handed out. From then on what it reads as counts as synced.
abbrev pub handed_out : Slot → DiskState → DiskState
handed_out slot part = record { tells = true; slot = Some slot; seen = part.seen; now = synced_at part.seen; past = moments part }

-- A part that was made just now.
abbrev pub made_part : Slot → DiskState
made_part slot = record { tells = true; slot = Some slot; seen = []; now = synced_at []; past = [] }
