-- Which parts on a shelf a two-level key holds, and which are in their places.
use Rattle.std.specs.Prelude.{◌≡◌, ◌≢◌, ℕ, List, Option, Some, None, IsTrue}
use Rattle.bec_disk.specs.declared.part.Part.TheVariants.{Key, Used, Peers}
use Rattle.bec_disk.specs.Shelf.{ShelfState, out}
use Rattle.bec_disk.specs.Slot.{Slot, slot}
use Rattle.key_index.specs.KeyState.{KeyState}
use Rattle.key_directory.specs.Parts.{IsUntouched, part_in}
use Rattle.hss_directory.specs.Values.{HssState, LowerState, low_dir}

-- The parts Key and Used of the directory are handed out, as the parts of this key.
pub record HoldsKey (shelf : ShelfState) (dir : List ℕ) (key : KeyState) : Type 0 where
  pub key_slot : key.parts.key.slot ≡ Some (slot dir Key)
  pub key_out : part_in shelf dir Key ≡ out
  pub used_slot : key.parts.used.slot ≡ Some (slot dir Used)
  pub used_out : part_in shelf dir Used ≡ out

-- None of the parts that a lower key has in a directory is handed out.
pub record AreIn (shelf : ShelfState) (dir : List ℕ) : Type 0 where
  pub key_in : part_in shelf dir Key ≢ out
  pub used_in : part_in shelf dir Used ≢ out
  pub peers_in : part_in shelf dir Peers ≢ out

-- None is handed out of the lower keys' directories.
abbrev pub AreLowersIn : ShelfState → List ℕ → Type 0
AreLowersIn shelf dir = (n : ℕ) → AreIn shelf (low_dir dir n)

-- None is handed out of the top key's directory or of a lower key's.
pub record AreHome (shelf : ShelfState) (dir : List ℕ) : Type 0 where
  pub key_in : part_in shelf dir Key ≢ out
  pub used_in : part_in shelf dir Used ≢ out
  pub lowers : AreLowersIn shelf dir

-- None is handed out of the lower keys' directories but this one.
abbrev pub AreOthersIn : ShelfState → List ℕ → List ℕ → Type 0
AreOthersIn shelf dir low = (n : ℕ) → low_dir dir n ≢ low → AreIn shelf (low_dir dir n)

-- Of the parts of the top key's directory and of the lower keys', those that the value holds are handed out, and no other.
abbrev pub HoldsLower : ShelfState → List ℕ → Option LowerState → Type 0
HoldsLower shelf dir (Some lower) = HoldsKey shelf lower.dir lower.key × (part_in shelf lower.dir Peers ≢ out) × AreOthersIn shelf dir lower.dir
HoldsLower shelf dir None = AreLowersIn shelf dir

pub record Holds (shelf : ShelfState) (hss : HssState) : Type 0 where
  pub top : HoldsKey shelf hss.dir hss.top
  pub lower : HoldsLower shelf hss.dir hss.lower

-- The place is not that of a part that a lower key has in this directory.
pub record IsOff (low : List ℕ) (place : Slot) : Type 0 where
  pub key : place ≢ slot low Key
  pub used : place ≢ slot low Used
  pub peers : place ≢ slot low Peers

-- Nor is it that of a part that the top key has in its own.
pub record IsElsewhere (dir : List ℕ) (place : Slot) : Type 0 where
  pub key : place ≢ slot dir Key
  pub used : place ≢ slot dir Used
  pub lowers : (n : ℕ) → IsOff (low_dir dir n) place

-- Every part but those of the top key and of its lower keys is as it was.
abbrev pub KeepsElse : List ℕ → ShelfState → ShelfState → Type 0
KeepsElse dir before after = (place : Slot) → IsElsewhere dir place → after.parts place ≡ before.parts place

-- Every part is as it was, or was at most read.
pub record OnlyReads (before after : ShelfState) : Type 0 where
  pub tells : after.tells ≡ before.tells
  pub parts : IsTrue before.tells → (place : Slot) → IsUntouched (before.parts place) (after.parts place)
