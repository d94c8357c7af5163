-- Where a part stands.
use Rattle.std.specs.Prelude.{ℕ, ◌==◌, ◌&&◌, Bool, List}
use Rattle.std.specs.Str.{bytes_eq}
use Rattle.bec_disk.specs.declared.part.Part.{Part}
use Rattle.bec_disk.specs.declared.part.Part.TheVariants.{Schema, Updates, Key, Used, Peers}

-- A directory's name, and which of its parts.
pub record Slot : Type 0 where
  pub dir : List ℕ
  pub part : Part

abbrev pub slot : List ℕ → Part → Slot
slot dir part = record { dir = dir; part = part }

abbrev pub number_of : Part → ℕ
number_of Schema = 0
number_of Updates = 1
number_of Key = 2
number_of Used = 3
number_of Peers = 4

-- The same part of the same directory.
abbrev pub same_slot : Slot → Slot → Bool
same_slot a b = (number_of a.part == number_of b.part) && bytes_eq a.dir b.dir
