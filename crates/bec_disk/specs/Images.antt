-- What one write and one cut do to what a crash may leave.
use Rattle.std.specs.Prelude.{◌≡◌, ◌⊎◌, ℕ, ◌<◌, ◌≤◌, List, length, take, min, max, slice_index}
use Rattle.bec_disk.specs.Disk.{Moment, IsImage}

-- Bytes in the range may be anything, up to its end; the others are as they were.
pub record IsTorn (at end : ℕ) (old new : List ℕ) : Type 0 where
  pub no_shorter : length old ≤ length new
  pub no_longer : length new ≤ max (length old) end
  pub kept : (i : ℕ) → i < length old → (i < at) ⊎ (end ≤ i) → slice_index new i ≡ slice_index old i

-- A front of them, no shorter than the cut.
pub record IsCut (len : ℕ) (old new : List ℕ) : Type 0 where
  pub no_shorter : min len (length old) ≤ length new
  pub front : new ≡ take (length new) old

-- What a crash at that moment might have left, but for the range.
abbrev pub IsTornFrom : Moment → ℕ → ℕ → List ℕ → Type 0
IsTornFrom moment at end image = (before : List ℕ) × IsImage moment before × IsTorn at end before image

-- A front of what a crash at that moment might have left.
abbrev pub IsCutFrom : Moment → ℕ → List ℕ → Type 0
IsCutFrom moment len image = (before : List ℕ) × IsImage moment before × IsCut len before image
