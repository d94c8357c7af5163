-- A shelf with the keys that are open over it.
use Rattle.std.specs.Prelude.{◌≡◌, ◌≢◌, ℕ, List, Option, Some, None}
use Rattle.bec_disk.specs.Disk.{EveryImage}
use Rattle.bec_disk.specs.declared.part.Part.TheVariants.{Key, Used}
use Rattle.bec_disk.specs.Shelf.{PartState, ShelfState, absent, out, stands}
use Rattle.key_index.specs.KeyState.{KeyState}
use Rattle.key_index.specs.Used.{IsUsed}
use Rattle.key_directory.specs.Parts.{part_in}

-- A shelf, and for each directory the key that is open, which holds its parts Key and Used.
pub record World : Type 0 where
  pub shelf : ShelfState
  pub held : List ℕ → Option KeyState

-- No key of the directory is open.
abbrev pub IsClosed : World → List ℕ → Type 0
IsClosed world dir = world.held dir ≡ None

-- No key is open at all.
abbrev pub HoldsNone : World → Type 0
HoldsNone world = (dir : List ℕ) → IsClosed world dir

-- The same keys are open.
abbrev pub HoldsSame : World → World → Type 0
HoldsSame old new = (dir : List ℕ) → new.held dir ≡ old.held dir

-- Of this directory that key is open now, or none is. Of each other one it is the key that was.
pub record NowHolds (old : World) (dir : List ℕ) (key : Option KeyState) (new : World) : Type 0 where
  pub here : new.held dir ≡ key
  pub others : (other : List ℕ) → other ≢ dir → new.held other ≡ old.held other

-- the part Key, where it stands or as the open key has it
abbrev pub key_of : Option KeyState → PartState → PartState
key_of None part = part
key_of (Some key) part = stands key.parts.key

-- the part Used, likewise
abbrev pub used_of : Option KeyState → PartState → PartState
used_of None part = part
used_of (Some key) part = stands key.parts.used

abbrev pub key_part : World → List ℕ → PartState
key_part world dir = key_of (world.held dir) (part_in world.shelf dir Key)

abbrev pub used_part : World → List ℕ → PartState
used_part world dir = used_of (world.held dir) (part_in world.shelf dir Used)

-- The part is there, and whatever a crash leaves of it has P.
abbrev pub IsLeftWith : PartState → (List ℕ → Type 0) → Type 0
IsLeftWith absent P = ⊥
IsLeftWith out P = ⊥
IsLeftWith (stands part) P = EveryImage part.now P

-- Whatever a crash leaves of the part Used of this directory, the index is used in it.
abbrev pub IsUsedIn : World → List ℕ → ℕ → Type 0
IsUsedIn world dir index = IsLeftWith (used_part world dir) (IsUsed index)
