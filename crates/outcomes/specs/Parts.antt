-- Which parts a directory has, and what a crash leaves of one that is made.
use Rattle.std.specs.Prelude.{◌≡◌, ℕ, List}
use Rattle.bec_disk.specs.Disk.{EveryImage, LeavesSince}
use Rattle.bec_disk.specs.Gated.{IsOldOrNew}
use Rattle.bec_disk.specs.Shelf.{PartState, absent, moments_of, out, stands}
use Rattle.key_directory.specs.Keys.{IsNoKey}
use Rattle.key_directory.specs.Parts.{seen_in}
use Rattle.store_directory.specs.Stores.{IsNoStore}
use Rattle.outcomes.specs.StoreAnswers.{Readings}

-- There is a part Schema, and it is not absent behind its gate.
abbrev pub HasSchema : Readings → Type 0
HasSchema parts = IsNoStore parts.schema → ⊥

-- There is a part Key, and it is not absent behind its gate.
abbrev pub HasKeyPart : Readings → Type 0
HasKeyPart parts = IsNoKey parts.key → ⊥

-- A crash at any moment of the run leaves the part standing for what it stood for, or absent, or whole with this payload.
abbrev pub LeavesOldOrNew : List ℕ → PartState → PartState → Type 0
LeavesOldOrNew payload old new = LeavesSince (moments_of old) (moments_of new) (IsOldOrNew (seen_in old) payload)

-- The part is in its place, and a crash leaves it as it reads.
abbrev pub Lasts : PartState → Type 0
Lasts absent = ⊥
Lasts out = ⊥
Lasts (stands part) = EveryImage part.now (λ image. image ≡ part.seen)
