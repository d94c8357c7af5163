-- What a shelf in memory has.
use Rattle.std.specs.Prelude.{◌≡◌, ℕ, Bool, true, List, Option, Some, None}
use Rattle.std.specs.List.{find}
use Rattle.bec_disk.specs.Slot.{Slot, same_slot}
use Rattle.bec_disk.specs.Replay.{MemDiskState, state_of, settled_as}
use Rattle.bec_disk.specs.Shelf.{PartState, absent, out, stands, ShelfState}
use Rattle.bec_disk.specs.declared.shelved.Shelved.{Shelved}

-- The parts that exist, and the count of faults.
pub record MemShelfState : Type 0 where
  pub entries : List Shelved
  pub faults : ℕ

abbrev pub is_at : Slot → Shelved → Bool
is_at slot entry = same_slot entry.place slot

-- The entry of the part in this place.
abbrev pub entry_at : List Shelved → Slot → Option Shelved
entry_at entries slot = find (is_at slot) entries

abbrev pub standing : Option MemDiskState → PartState
standing None = out
standing (Some disk) = stands (state_of disk)

abbrev pub part_of : Option Shelved → PartState
part_of None = absent
part_of (Some entry) = standing entry.disk

-- What a shelf in memory tells: all.
abbrev pub shelf_of : MemShelfState → ShelfState
shelf_of shelf = record { tells = true; parts = λ slot. part_of (entry_at shelf.entries slot) }

-- The disk is taken out of the entry, settled and as that of this part, unless it is out already.
abbrev pub HandsOutDisk : Shelved → Slot → Option MemDiskState → Shelved → Type 0
HandsOutDisk old slot None new = (old.disk ≡ None) × (new ≡ old)
HandsOutDisk old slot (Some disk) new = (part : MemDiskState) × (old.disk ≡ Some part) × (disk ≡ settled_as slot part) × (new ≡ record { place = old.place; disk = None })
