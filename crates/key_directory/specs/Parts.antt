-- Parts of a directory on a shelf, and what a run leaves of them.
use Rattle.std.specs.Prelude.{◌≡◌, ◌≢◌, ◌⊎◌, ℕ, List, [], ◌∷◌, IsTrue, Option, false, Some, None}
use Rattle.bec_disk.specs.Disk.{DiskState, LeavesSince, handed_out, made_part, moments}
use Rattle.bec_disk.specs.Gated.{IsOldOrNew, gated_of}
use Rattle.bec_disk.specs.declared.gated.Gated.TheVariants.{Absent}
use Rattle.bec_disk.specs.declared.part.Part.{Part}
use Rattle.bec_disk.specs.Shelf.{KeepsOthers, PartState, ShelfState, absent, moments_of, out, stands}
use Rattle.bec_disk.specs.Slot.{Slot, slot, same_slot}
use Rattle.key_index.specs.Creating.{IsOnDisk}
use Rattle.std.specs.List.{list_any}

-- a part of a directory
abbrev pub part_in : ShelfState → List ℕ → Part → PartState
part_in shelf dir part = shelf.parts (slot dir part)

-- what a part reads as, where it is there
abbrev pub reading : PartState → Option (List ℕ)
reading absent = None
reading out = None
reading (stands part) = Some part.seen

-- P holds of the part, if it stands in its place.
abbrev pub IfStands : PartState → (DiskState → Type 0) → Type 0
IfStands absent P = Unit {0}
IfStands out P = Unit {0}
IfStands (stands part) P = P part

-- A part that was at most read.
abbrev pub IsUntouched : PartState → PartState → Type 0
IsUntouched (stands old) (stands new) = (new.seen ≡ old.seen) × LeavesSince (moments old) (moments new) (λ image. image ≡ old.seen)
IsUntouched (stands old) absent = ⊥
IsUntouched (stands old) out = ⊥
IsUntouched absent new = new ≡ absent
IsUntouched out new = new ≡ out

-- Every part but these of the directory is as it was.
abbrev pub KeepsAllBut : List Part → List ℕ → ShelfState → ShelfState → Type 0
KeepsAllBut parts dir before after = (other : Slot) → list_any (λ part. same_slot (slot dir part) other) parts ≡ false → after.parts other ≡ before.parts other

-- Each part that was in its place is in its place.
abbrev pub KeepsPlaces : ShelfState → ShelfState → Type 0
KeepsPlaces before after = (place : Slot) → before.parts place ≢ out → after.parts place ≢ out

-- No part is handed out.
abbrev pub IsHome : ShelfState → Type 0
IsHome shelf = (place : Slot) → shelf.parts place ≢ out

-- The part that stood in a place is handed out as this disk, or none stood there and it was made.
abbrev pub IsHanded : Slot → PartState → DiskState → Type 0
IsHanded place absent disk = disk ≡ made_part place
IsHanded place out disk = ⊥
IsHanded place (stands part) disk = disk ≡ handed_out place part

-- what is read of a part, which is nothing where there is none
abbrev pub seen_in : PartState → List ℕ
seen_in absent = []
seen_in out = []
seen_in (stands part) = part.seen

-- The part is handed out as this disk, whether it was there or not.
pub record HandsOutAny (old : ShelfState) (place : Slot) (disk : DiskState) (new : ShelfState) : Type 0 where
  pub tells : new.tells ≡ old.tells
  pub disk_tells : disk.tells ≡ old.tells
  pub part : IsTrue old.tells → IsHanded place (old.parts place) disk
  pub is_out : IsTrue old.tells → new.parts place ≡ out
  pub others : KeepsOthers old place new

-- The part is as it was, or stands as it was handed out or made.
abbrev pub IsLeftAlone : Slot → PartState → PartState → Type 0
IsLeftAlone place old new = (new ≡ old) ⊎ ((disk : DiskState) × (new ≡ stands disk) × IsHanded place old disk)

-- No part was handed out: this one was left alone.
pub record MayMakeAny (old : ShelfState) (place : Slot) (new : ShelfState) : Type 0 where
  pub tells : new.tells ≡ old.tells
  pub part : IsTrue old.tells → IsLeftAlone place (old.parts place) (new.parts place)
  pub others : KeepsOthers old place new

-- Nothing new was made of two parts: the one behind whose gate it would stand, and the one that is filled first. A crash at a moment of the
-- run leaves the first standing for what it stood for, or absent, or whole with the new payload; and it was left alone, or the second is on
-- the disk as it was to be filled. Where the first was not absent, it was at most read, and the second is as it was. Every part is in its place.
pub record LetsNewGo (gated filled : Part) (payload filling : List ℕ) (before : ShelfState) (dir : List ℕ) (after : ShelfState) : Type 0 where
  pub tells : after.tells ≡ before.tells
  pub any_moment : IsTrue before.tells → LeavesSince (moments_of (part_in before dir gated)) (moments_of (part_in after dir gated)) (IsOldOrNew (seen_in (part_in before dir gated)) payload)
  pub order : IsTrue before.tells → IsLeftAlone (slot dir gated) (part_in before dir gated) (part_in after dir gated)
      ⊎ ((disk : DiskState) × (part_in after dir filled ≡ stands disk) × IsOnDisk filling disk)
  pub there : IsTrue before.tells → gated_of (seen_in (part_in before dir gated)) ≢ Absent → IsUntouched (part_in before dir gated) (part_in after dir gated) × (part_in after dir filled ≡ part_in before dir filled)
  pub others : IsTrue before.tells → KeepsAllBut (gated ∷ filled ∷ []) dir before after
  pub home : IsTrue before.tells → IsHome before → IsHome after
  pub places : IsTrue before.tells → KeepsPlaces before after
