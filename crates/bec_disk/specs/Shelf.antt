-- What a shelf has, and what handing out and putting back does to it.
use Rattle.std.specs.Prelude.{◌≡◌, ◌⊎◌, Bool, false, List, [], Result, Ok, Err, Option, Some, None, IsTrue}
use Rattle.bec_disk.specs.Slot.{Slot, same_slot}
use Rattle.bec_disk.specs.Disk.{Moment, DiskState, moments, handed_out, made_part}
use Rattle.bec_disk.specs.declared.disk_fault.DiskFault.{DiskFault}

-- A part does not exist, or is handed out, or stands in its place.
pub data PartState : Type 0 where
  absent : PartState
  out : PartState
  stands : DiskState → PartState

-- Whether a shelf tells what it has, and its parts.
pub record ShelfState : Type 0 where
  pub tells : Bool
  pub parts : Slot → PartState

-- Every part but this one is as it was.
abbrev pub KeepsOthers : ShelfState → Slot → ShelfState → Type 0
KeepsOthers old slot new = (other : Slot) → same_slot slot other ≡ false → new.parts other ≡ old.parts other

-- The part that stood here is handed out as this disk.
pub record HandsOut (old : ShelfState) (slot : Slot) (disk : DiskState) (new : ShelfState) : Type 0 where
  pub tells : new.tells ≡ old.tells
  pub disk_tells : disk.tells ≡ old.tells
  pub part : IsTrue old.tells → (part : DiskState) × (old.parts slot ≡ stands part) × (disk ≡ handed_out slot part)
  pub is_out : IsTrue old.tells → new.parts slot ≡ out
  pub others : KeepsOthers old slot new

-- A search hands the part out, or there is none, or it failed and changed nothing.
abbrev pub Finds : {D : Type 0} → (D → DiskState) → ShelfState → Slot → Result (Option D) DiskFault → ShelfState → Type 0
Finds state old slot (Ok (Some disk)) new = HandsOut old slot (state disk) new
Finds state old slot (Ok None) new = (IsTrue old.tells → old.parts slot ≡ absent) × (new ≡ old)
Finds state old slot (Err fault) new = new ≡ old

-- This part was made, and is handed out as this disk.
pub record HandsOutNew (old : ShelfState) (slot : Slot) (disk : DiskState) (new : ShelfState) : Type 0 where
  pub tells : new.tells ≡ old.tells
  pub disk_tells : disk.tells ≡ old.tells
  pub part : IsTrue old.tells → disk ≡ made_part slot
  pub is_out : IsTrue old.tells → new.parts slot ≡ out
  pub others : KeepsOthers old slot new

-- Where the making failed, the part is as it was, or stands there with nothing in it.
pub record MayMake (old : ShelfState) (slot : Slot) (new : ShelfState) : Type 0 where
  pub tells : new.tells ≡ old.tells
  pub part : (new.parts slot ≡ old.parts slot) ⊎ (new.parts slot ≡ stands (made_part slot))
  pub others : KeepsOthers old slot new

abbrev pub Makes : {D : Type 0} → (D → DiskState) → ShelfState → Slot → Result D DiskFault → ShelfState → Type 0
Makes state old slot (Ok disk) new = HandsOutNew old slot (state disk) new
Makes state old slot (Err fault) new = MayMake old slot new

-- The disk stands as the part from then on, with the moments that it had.
pub record PutsBack (old : ShelfState) (slot : Slot) (disk : DiskState) (new : ShelfState) : Type 0 where
  pub part : IsTrue old.tells → new.parts slot ≡ stands disk
  pub others : KeepsOthers old slot new

-- The disk is of a part that is handed out.
abbrev pub IsOfOut : ShelfState → DiskState → Type 0
IsOfOut shelf disk = (slot : Slot) × (disk.slot ≡ Some slot) × (shelf.parts slot ≡ out)

-- The moments of a part that stands in its place. They begin when it is made.
abbrev pub moments_of : PartState → List Moment
moments_of absent = []
moments_of out = []
moments_of (stands part) = moments part
